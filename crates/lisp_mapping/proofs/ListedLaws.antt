-- What is taken of a Map-Request names an address that one of the prefixes has; so what is handled was asked from a listed ITR-RLOC, and
-- what is sent goes there, or goes on.
use Rattle.std.proofs.Common.{◌≡◌, Bool, true, false, cond, not, ◌&&◌, List, Option, Some, None, refl, sym, ap, ◌∙◌, subst, ℕ}
use Rattle.std.specs.Prelude.{Result, Ok, Err}
use Rattle.std.specs.List.{find, list_any, All}
use Rattle.lisp_records.specs.declared.address.Addr.{Addr}
use Rattle.lisp_records.specs.Address.{PrefixValue, holds, family}
use Rattle.lisp_records.specs.Result.{◌>>=◌}
use Rattle.lisp_mapping.specs.Asked.{AskedValue, is_of, is_router, listed, refused, rloc_for, as_request, asked_of, encapsulated_asked, is_alone, router_asked}
use Rattle.lisp_mapping.specs.Promises.{RepliesAreListed, IsReplyOrGoesOn, MapServersStayListed, RoutersStayListed, StaysListed}
use Rattle.lisp_mapping.specs.declared.unasked.Unasked.{Unasked}
use Rattle.lisp_mapping.specs.declared.unasked.Unasked.TheVariants.{Solicited, Probed, Unwanted, Unlisted}
use Rattle.lisp_records.specs.declared.address.Family.{Family}
use Rattle.lisp_requests.specs.Encapsulated.{encapsulated_at}
use Rattle.lisp_requests.specs.Request.{request_at}
use Rattle.lisp_replies.specs.declared.reply.Reply.{Reply}
use Rattle.lisp_mapping.specs.Sends.{DatagramValue}
use Rattle.lisp_mapping.specs.declared.replier.Replier.{Replier}
use Rattle.lisp_mapping.specs.declared.replier.Replier.TheVariants.{MapServer, Router}
use Rattle.lisp_mapping.proofs.SendsLaws.{replies_or_goes_on}
use Rattle.lisp_mapping.specs.Handling.{HandledValue, IsHandled}

-- what comes of two steps comes of the second
second : {X Y : Type 0} (P : Y → Type 0) (r : Result X Unasked) (f : X → Result Y Unasked) (y : Y) → r >>= f ≡ Ok y → ((x : X) → r ≡ Ok x → f x ≡ Ok y → P y) → P y
second P (Ok x) f y is each = each x refl is
second P (Err fault) f y is each = absurd cc

ok_is : {X : Type 0} (a b : X) → ◌≡◌ {A = Result X Unasked} (Ok a) (Ok b) → a ≡ b
ok_is a b is = cc

chosen : (resolve : List PrefixValue) (addr a : Addr) (test : Bool) → list_any (λ p. holds p addr) resolve ≡ test → ◌≡◌ {A = Result Addr Unasked} (cond test (Ok addr) (Err Unlisted)) (Ok a) → list_any (λ p. holds p a) resolve ≡ true
chosen resolve addr a true has is = ap (λ (b : Addr). list_any (λ p. holds p b) resolve) (sym (ok_is addr a is)) ∙ has
chosen resolve addr a false has is = absurd cc

listed_has : (resolve : List PrefixValue) (found : Option Addr) (a : Addr) → listed resolve found ≡ Ok a → list_any (λ p. holds p a) resolve ≡ true
listed_has resolve None a is = absurd cc
listed_has resolve (Some addr) a is = chosen resolve addr a (list_any (λ p. holds p addr) resolve) refl is

pub replies_are_listed : (resolve : List PrefixValue) → RepliesAreListed resolve
replies_are_listed resolve of own port m asked is =
    second Has (refused Solicited m.smr) _ asked is (λ _ _ is_1. second Has (refused Probed (m.probe && not (is_router of))) _ asked is_1 (λ _ _ is_2. second Has (refused Unwanted m.no_reply) _ asked is_2 (λ _ _ is_3. second Has (rloc_for resolve own m.itr_rlocs) _ asked is_3 (λ to at made.
    (let same = ap (λ (a : AskedValue). a.to) (ok_is (record { of = of; nonce = m.nonce; probe = m.probe; to = to; port = port; eids = m.eids }) asked made) in
    subst (λ (a : Addr). list_any (λ p. holds p a) resolve ≡ true) same (listed_has resolve (find (is_of own) m.itr_rlocs) to at))))))
  where
    Has : AskedValue → Type 0
    Has a = list_any (λ p. holds p a.to) resolve ≡ true

-- what comes of either of two comes of one
either : {X : Type 0} (P : X → Type 0) (test : Bool) (one other : Result X Unasked) (x : X) → cond test one other ≡ Ok x → (one ≡ Ok x → P x) → (other ≡ Ok x → P x) → P x
either P true one other x is if_one if_other = if_one is
either P false one other x is if_one if_other = if_other is

module _ (resolve : List PrefixValue) where
  abbrev Listed : AskedValue → Type 0
  Listed asked = list_any (λ p. holds p asked.to) resolve ≡ true

  around_listed : (of : Replier) (own : Family) (bytes : List ℕ) (asked : AskedValue) → encapsulated_asked of resolve own bytes ≡ Ok asked → Listed asked
  around_listed of own bytes asked is =
      second Listed (as_request (encapsulated_at bytes)) _ asked is (λ around _ is_1. second Listed (as_request (request_at around.message)) _ asked is_1 (λ m _ is_2. replies_are_listed resolve of own around.port m asked is_2))

  alone_listed : (own : Family) (port : ℕ) (bytes : List ℕ) (asked : AskedValue) → as_request (request_at bytes) >>= (λ m. asked_of Router resolve own port m) ≡ Ok asked → Listed asked
  alone_listed own port bytes asked is = second Listed (as_request (request_at bytes)) _ asked is (λ m _ is_1. replies_are_listed resolve Router own port m asked is_1)

  router_listed : (own : Family) (port : ℕ) (bytes : List ℕ) (asked : AskedValue) → router_asked resolve own port bytes ≡ Ok asked → Listed asked
  router_listed own port bytes asked is =
      either Listed (is_alone bytes) (as_request (request_at bytes) >>= (λ m. asked_of Router resolve own port m)) (encapsulated_asked Router resolve own bytes) asked is (alone_listed own port bytes asked) (around_listed Router own bytes asked)

  stays : {A : Type 0} (Says : PrefixValue → Reply A → Type 0) (bytes : List ℕ) (handled : HandledValue) → Listed handled.asked → IsHandled Says handled.asked bytes handled → StaysListed resolve bytes handled
  stays {A} Says bytes handled listed is = record {
    listed = listed;
    each = subst (λ (ds : List DatagramValue). All (IsReplyOrGoesOn handled.asked bytes) ds) (sym (ap (λ (h : HandledValue). h.datagrams) is.said)) (replies_or_goes_on A handled.asked bytes is.replies);
  }

pub map_servers_stay_listed : (A : Type 0) → MapServersStayListed A
map_servers_stay_listed A rows sites starting now resolve own bytes handled is = stays resolve _ bytes handled (around_listed resolve MapServer own bytes handled.asked is.0) is.1

pub routers_stay_listed : (A : Type 0) → RoutersStayListed A
routers_stay_listed A database own resolve port bytes handled is = stays resolve _ bytes handled (router_listed resolve (family own) port bytes handled.asked is.0) is.1
