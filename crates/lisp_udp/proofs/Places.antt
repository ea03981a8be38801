-- The socket at an address.
use Rattle.std.proofs.Common.{◌≡◌, ◌≢◌, ℕ, ◌+◌, ◌<◌, ◌≤◌, ◌⊎◌, List, length, Option, Some, Bool, false, Result, Ok, Err, IfOk, OnOk, OnErr, inl, inr, refl, sym, ap, ◌∙◌, slice_get, slice_set, arith}
use Rattle.std.proofs.lemmas.Bool.{cases_lt}
use Rattle.std.proofs.lemmas.Option.{same_Some, slice_get_within}
use Rattle.lisp_records.specs.declared.address.Addr.{Addr}
use Rattle.lisp_refinement.specs.World.{DatagramValue}
use Rattle.lisp_udp.specs.Printing.{WritesTold, CutsTold}
use Rattle.lisp_udp.specs.Sockets.{SocketValue, IsPlaceOf, IsNowhere, AtOne, ArrivesAt, SendsAt, TellsArrival, SendsOne}

-- no node before a place has the address
abbrev pub NoneBefore : List SocketValue → Addr → ℕ → Type 0
NoneBefore sockets address n = (k : ℕ) (s : SocketValue) → k < n → slice_get sockets k ≡ Some s → s.address ≢ address

-- this came of the socket at its place
pub at_one : (At : SocketValue → SocketValue → Type 0) (sockets : List SocketValue) (address : Addr) (place : ℕ) (asked left : SocketValue)
    → IsPlaceOf sockets address place → slice_get sockets place ≡ Some asked → At asked left → AtOne sockets (slice_set sockets place left) address At
at_one At sockets address place asked left is was at =
    record { place = place; asked = asked; was = was; address_is = is.1 asked was; left = left; at = at; is = refl }

-- the first socket that has it
pub found_here : (sockets : List SocketValue) (address : Addr) (k : ℕ) (read : SocketValue) → slice_get sockets k ≡ Some read → read.address ≡ address → IsPlaceOf sockets address k
found_here sockets address k read at is =
    (slice_get_within sockets k read at, λ s there. ap (λ (s : SocketValue). s.address) (same_Some s read (sym there ∙ at)) ∙ is)

-- one more that doesn't
pub one_more : (sockets : List SocketValue) (address : Addr) (n : ℕ) (read : SocketValue) → NoneBefore sockets address n → slice_get sockets n ≡ Some read → read.address ≢ address → NoneBefore sockets address (n + 1)
one_more sockets address n read none at isnt k s small there same =
    cases (cases_lt k n)
  where
    cases : (k < n) ⊎ (n ≤ k) → ⊥
    cases (inl below) = none k s below there same
    cases (inr past) = isnt (ap (λ (s : SocketValue). s.address) (same_Some read s (sym at ∙ ap (λ (k : ℕ). slice_get sockets k) (here past) ∙ there)) ∙ same)
      where
        here : n ≤ k → n ≡ k
        here past = omega (arith, past, small)

-- none has it
pub none_at_all : (sockets : List SocketValue) (address : Addr) (n : ℕ) → NoneBefore sockets address n → length sockets ≤ n → IsNowhere sockets address
none_at_all sockets address n none all k s there = none k s (omega (arith, all, slice_get_within sockets k s there)) there

-- In what follows a socket at an address was asked, and nothing of another; what came of it was told, or a front of that.
module _ {E W : Type 0} (contents : W → Option (List ℕ)) (before after : W) (sockets : List SocketValue) (place : ℕ) (asked left : SocketValue)
    (d : DatagramValue) (was : slice_get sockets place ≡ Some asked) where
  pub arrival_told : (result : Result Bool E) (k : ℕ) → IsPlaceOf sockets d.to place
      → IfOk result (λ arrived. WritesTold contents before after (ArrivesAt asked left k d.bytes arrived))
      → IfOk result (λ arrived. WritesTold contents before after (TellsArrival sockets (slice_set sockets place left) k d arrived))
  arrival_told (Ok arrived) k is told = (told.0, inr (at_one _ sockets d.to place asked left is was told.1), told.2)
  arrival_told (Err e) k is told = tt

  pub arrival_cut : (result : Result Bool E) (k : ℕ) → IsPlaceOf sockets d.to place
      → OnErr result (CutsTold contents before after (ArrivesAt asked left k d.bytes false))
      → OnErr result (CutsTold contents before after (TellsArrival sockets (slice_set sockets place left) k d false))
  arrival_cut (Ok arrived) k is told = tt
  arrival_cut (Err e) k is told = (told.0, inr (at_one _ sockets d.to place asked left is was told.1), told.2)

  pub sending_told : {X : Type 0} (result : Result X E) → IsPlaceOf sockets d.from place
      → OnOk result (WritesTold contents before after (SendsAt asked left d))
      → OnOk result (WritesTold contents before after (SendsOne sockets (slice_set sockets place left) d))
  sending_told (Ok x) is told = (told.0, inr (at_one _ sockets d.from place asked left is was told.1), told.2)
  sending_told (Err e) is told = tt

  pub sending_cut : {X : Type 0} (result : Result X E) → IsPlaceOf sockets d.from place
      → OnErr result (CutsTold contents before after (SendsAt asked left d))
      → OnErr result (CutsTold contents before after (SendsOne sockets (slice_set sockets place left) d))
  sending_cut (Ok x) is told = tt
  sending_cut (Err e) is told = (told.0, inr (at_one _ sockets d.from place asked left is was told.1), told.2)
