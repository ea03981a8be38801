-- What the lines of a router that hears a message say.
use Rattle.std.proofs.Common.{◌≡◌, ℕ, ◌<◌, ◌≤◌, Bool, true, false, length, Option, Some, None, Ok, Err, refl, sym, ap, inl, inr, ◌∙◌, subst, true≢false, arith}
use Rattle.std.specs.Prelude.{◌⊎◌, nat_le, Result, if◌then◌else◌}
use Rattle.std.proofs.lemmas.Bool.{leb-true, le-leb}
use Rattle.lisp_etr.specs.declared.notify_fault.NotifyFault.TheVariants.{OutOfMemory}
use Rattle.lisp_etr.specs.Hearing.{ServerNotify, first_notice}
use Rattle.lisp_etr.specs.Rounds.{part_with}
use Rattle.lisp_model.specs.Trace.{etr_config, Line}
use Rattle.lisp_model.specs.Bag.{Arrival, bag}
use Rattle.lisp_model.specs.Counted.{notify_at, latest_nonces}
use Rattle.lisp_model.specs.Hearing.{Hears, refused_with, counted_line, heard_line, line_of, NotifyFault}
use Rattle.lisp_model.specs.Context.{Context}
use Rattle.lisp_model.proofs.ListLemmas.{cases}

-- a Map-Notify that passes all checks
abbrev pub Passes : Context → Arrival → ServerNotify → Type 0
Passes t a h = notify_at t.opening t.past t.node a ≡ Ok h

-- it counted
pub record IsCounted (t : Context) (a : Arrival) (router server part key nonce : ℕ) : Type 0 where
  pub acts : t.node ≡ router
  pub what : ServerNotify
  pub hears : Passes t a what
  pub whose : server ≡ what.server
  pub under : key ≡ (etr_config t.opening t.past t.node).key_id
  pub number : nonce ≡ what.message.nonce
  pub low : nonce < first_notice
  pub latest : part_with nonce (latest_nonces t.past router server) ≡ Some part

-- it was a notice
pub record IsNoticed (t : Context) (a : Arrival) (router server nonce datagram : ℕ) : Type 0 where
  pub acts : t.node ≡ router
  pub what : ServerNotify
  pub hears : Passes t a what
  pub whose : server ≡ what.server
  pub number : nonce ≡ what.message.nonce
  pub high : first_notice ≤ nonce
  pub place : datagram ≡ length (bag t.opening t.past)

below : (n : ℕ) → nat_le first_notice n ≡ false → n < first_notice
below n is = let not_above : ¬ (first_notice ≤ n) = λ above. true≢false (sym (le-leb first_notice n above) ∙ is) in omega (arith, not_above)

-- the line tells of that node, if of any
abbrev pub IsBy : Line → ℕ → Type 0
IsBy (Line.Changed router _) node = router ≡ node
IsBy (Line.Sent router _ _ _ _ _) node = router ≡ node
IsBy (Line.Accepted server _ _ _ _) node = server ≡ node
IsBy (Line.Done server _ _) node = server ≡ node
IsBy (Line.Counted router _ _ _ _) node = router ≡ node
IsBy (Line.Noticed router _ _ _) node = router ≡ node
IsBy (Line.Restarted named) node = named ≡ node
IsBy (Line.Rotated router _) node = router ≡ node
IsBy (Line.Emptied router _) node = router ≡ node
IsBy (Line.Notice server _ _ _ _) node = server ≡ node
IsBy (Line.Resent server _ _) node = server ≡ node
IsBy (Line.Reloaded server _) node = server ≡ node
IsBy (Line.Renewed server _) node = server ≡ node
IsBy (Line.Down router) node = router ≡ node
IsBy (Line.Refused named _) node = named ≡ node
IsBy _ node = Unit {0}

module _ (t : Context) (a : Arrival) where
  module _ (router server part key nonce : ℕ) where
    counted_by : (h : ServerNotify) → Passes t a h → (b : Bool) (x : Option ℕ) → nat_le first_notice h.message.nonce ≡ b → part_with h.message.nonce (latest_nonces t.past t.node h.server) ≡ x
        → Line.Counted router server part key nonce ≡ (if b then Line.Noticed t.node h.server h.message.nonce (length (bag t.opening t.past)) else counted_line t h (latest_nonces t.past t.node h.server) x) → IsCounted t a router server part key nonce
    counted_by h hears true x high last is = absurd cc
    counted_by h hears false None low last is = absurd cc
    counted_by h hears false (Some p) low last is =
        let who : router ≡ t.node = cc in
        let whose : server ≡ h.server = cc in
        let of : part ≡ p = cc in
        let under : key ≡ (etr_config t.opening t.past t.node).key_id = cc in
        let number : nonce ≡ h.message.nonce = cc in
        record {
          acts = sym who;
          what = h;
          hears = hears;
          whose = whose;
          under = under;
          number = number;
          low = (let under_it = below h.message.nonce low in omega (arith, number, under_it));
          latest = (λ i. part_with (number i) (latest_nonces t.past (who i) (whose i))) ∙ last ∙ ap Some (sym of);
        }

    pub counted_of : Hears t a (Line.Counted router server part key nonce) → IsCounted t a router server part key nonce
    counted_of hears = cases hears.comes
        (λ is. by (notify_at t.opening t.past t.node a) refl is)
        (λ out. absurd (let is : Line.Counted router server part key nonce ≡ refused_with t OutOfMemory = out.2 in cc))
      where
        by : (r : Result ServerNotify NotifyFault) → notify_at t.opening t.past t.node a ≡ r → Line.Counted router server part key nonce ≡ line_of t r → IsCounted t a router server part key nonce
        by (Err fault) e is = absurd cc
        by (Ok h) e is = counted_by h e (nat_le first_notice h.message.nonce) (part_with h.message.nonce (latest_nonces t.past t.node h.server)) refl refl is

  module _ (router server nonce datagram : ℕ) where
    noticed_by : (h : ServerNotify) → Passes t a h → (b : Bool) (x : Option ℕ) → nat_le first_notice h.message.nonce ≡ b
        → Line.Noticed router server nonce datagram ≡ (if b then Line.Noticed t.node h.server h.message.nonce (length (bag t.opening t.past)) else counted_line t h (latest_nonces t.past t.node h.server) x) → IsNoticed t a router server nonce datagram
    noticed_by h hears false None low is = absurd cc
    noticed_by h hears false (Some p) low is = absurd cc
    noticed_by h hears true x high is =
        let who : router ≡ t.node = cc in
        let whose : server ≡ h.server = cc in
        let number : nonce ≡ h.message.nonce = cc in
        let place : datagram ≡ length (bag t.opening t.past) = cc in
        record {
          acts = sym who;
          what = h;
          hears = hears;
          whose = whose;
          number = number;
          high = (let above = leb-true first_notice h.message.nonce high in omega (arith, number, above));
          place = place;
        }

    pub noticed_of : Hears t a (Line.Noticed router server nonce datagram) → IsNoticed t a router server nonce datagram
    noticed_of hears = cases hears.comes
        (λ is. by (notify_at t.opening t.past t.node a) refl is)
        (λ out. absurd (let is : Line.Noticed router server nonce datagram ≡ refused_with t OutOfMemory = out.2 in cc))
      where
        by : (r : Result ServerNotify NotifyFault) → notify_at t.opening t.past t.node a ≡ r → Line.Noticed router server nonce datagram ≡ line_of t r → IsNoticed t a router server nonce datagram
        by (Err fault) e is = absurd cc
        by (Ok h) e is = noticed_by h e (nat_le first_notice h.message.nonce) (part_with h.message.nonce (latest_nonces t.past t.node h.server)) refl is

  -- what passes all checks comes to its line, or to out of memory
  pub comes_to : (h : ServerNotify) → Passes t a h → (line : Line) → Hears t a line → (line ≡ heard_line t h) ⊎ (line ≡ refused_with t OutOfMemory)
  comes_to h passes line hears = cases hears.comes
      (λ is. inl (is ∙ ap (line_of t) passes))
      (λ out. inr out.2)

  -- the line tells of the router that hears
  pub heard_by : (line : Line) → Hears t a line → IsBy line t.node
  heard_by line hears = cases hears.comes
      (λ is. subst (λ (l : Line). IsBy l t.node) (sym is) (by_itself (notify_at t.opening t.past t.node a)))
      (λ out. subst (λ (l : Line). IsBy l t.node) (sym out.2) refl)
    where
      by : (h : ServerNotify) (b : Bool) (x : Option ℕ) → IsBy (if b then Line.Noticed t.node h.server h.message.nonce (length (bag t.opening t.past)) else counted_line t h (latest_nonces t.past t.node h.server) x) t.node
      by h true x = refl
      by h false (Some p) = refl
      by h false None = refl

      by_itself : (r : Result ServerNotify NotifyFault) → IsBy (line_of t r) t.node
      by_itself (Err fault) = refl
      by_itself (Ok h) = by h (nat_le first_notice h.message.nonce) (part_with h.message.nonce (latest_nonces t.past t.node h.server))
