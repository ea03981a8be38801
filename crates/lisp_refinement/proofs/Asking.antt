-- A list of the rows that are held is the only one, and who answers by the rows answers by the list.
use Rattle.std.proofs.Common.{◌≡◌, ℕ, suc, ◌-◌, Bool, true, false, cond, List, [], ◌∷◌, Option, Some, None, refl, sym, ap, subst, ◌∙◌, inl, inr, arith, ◌+◌, nat_le, length, take}
use Rattle.std.specs.Prelude.{◌⊎◌, slice_get}
use Rattle.std.specs.Cmp.{IsTotalOrder, on_total}
use Rattle.std.specs.List.{AllPairs, Contains, position}
use Rattle.std.specs.Option.{option_and_then, option_map, unwrap_or}
use Rattle.std.specs.Ordering.{ordering_reverse}
use Rattle.std.specs.declared.cmp.Ordering.{Ordering}
use Rattle.std.specs.declared.cmp.Ordering.TheVariants.{Less, Greater}
use Rattle.std.proofs.lemmas.Bool.{and_parts}
use Rattle.std.proofs.lemmas.Bool.Decides.{Decides-ltb}
use Rattle.std.proofs.lemmas.Option.{option_and_then_some, slice_get_within}
use Rattle.lisp_records.specs.declared.address.Addr.{Addr}
use Rattle.lisp_records.specs.declared.router.RouterId.{RouterId}
use Rattle.lisp_records.specs.Address.{PrefixValue, holds}
use Rattle.lisp_records.specs.Row.{RowValue, IsAlive, is_alive}
use Rattle.lisp_policy.specs.Site.{SiteValue}
use Rattle.lisp_lookup.specs.declared.answer.Answer.{Answer}
use Rattle.lisp_lookup.specs.declared.answer.Answer.TheVariants.{NoSite, NotRegistered, Reply, Forward}
use Rattle.lisp_lookup.specs.Answer.{IsBest, NoneAnswers, Answers}
use Rattle.lisp_lookup.specs.Table.{is_row_of, row_key, row_at, row_cmp, if_alive, OneEach, IsHeld}
use Rattle.lisp_lookup.proofs.Orders.{key_total}
use Rattle.lisp_lookup.proofs.TableLaws.{found_own, found_holds}
use Rattle.lisp_replies.specs.Kept.{SameLive}
use Rattle.lisp_model.proofs.ListLemmas.{at_head, in_tail, head_or_tail, in_none}
use Rattle.lisp_records.specs.Parts.{part_count}
use Rattle.lisp_records.specs.Record.{MapRecordValue}
use Rattle.lisp_etr.specs.Etr.{EtrState}
use Rattle.lisp_etr.specs.Rounds.{due_part as router_part}
use Rattle.lisp_etr.specs.declared.round.Round.{Round}
use Rattle.lisp_etr.specs.declared.rounds.Rounds.{Rounds}
use Rattle.lisp_admission.specs.NoticeTimer.{gaps, due_after, has_come}
use Rattle.lisp_server.specs.Notices.{StandingNoticeValue, notice_at, due_at, is_due_at, IsDueRouter}
use Rattle.lisp_model.specs.Trace.{Step, Opening, router_at, clock}
use Rattle.lisp_model.specs.Held.{accepted_rows, rows}
use Rattle.lisp_model.specs.Counted.{acked}
use Rattle.lisp_model.specs.Numbers.{part_numbers}
use Rattle.lisp_model.specs.Timers.{Notice, due, due_part, notice_to, is_due}
use Rattle.lisp_model.specs.Bag.{since_start}
use Rattle.lisp_model.proofs.RowLaws.{rows_are_held}
use Rattle.lisp_refinement.specs.World.{ServerNodeState, RouterNodeState, RouterCoreState, Up, WorldState}
use Rattle.lisp_refinement.specs.Stands.{IsStanding, SameNotice, StandsForServer, StandsForCore, StandsForRounds, StandsForEtr, Stands}
use Rattle.lisp_refinement.specs.Asked.{IsNextNotice, ServerTells, RouterTells}
use Rattle.lisp_refinement.proofs.Gets.{none_is_some, same_some, get_within}
use Rattle.lisp_refinement.proofs.Places.{list_by_parts, first_by_parts, first_alike}

-- what holds of each two in a list holds in its tail, and of its head and each in the tail
module _ {X : Type 0} (P : X → X → Type 0) (x : X) (xs : List X) (all : AllPairs P (x ∷ xs)) where
  -- in the tail
  pub pairs_tail : AllPairs P xs
  pairs_tail i j d before lt = all (suc i) (suc j) d (omega (arith, before)) (omega (arith, lt))

  -- of the head and each in the tail
  pub pairs_head : (z : X) → Contains xs z → P x z
  pairs_head z (k, lt, is) = subst (P x) is (all 0 (suc k) z (omega arith) (omega (arith, lt)))

-- lists that rise strictly by a comparison
module _ {X : Type 0} (cmp : X → X → Ordering) (total : IsTotalOrder cmp) where
  -- each element is below all that stand behind it
  abbrev Rises : List X → Type 0
  Rises xs = AllPairs (λ a b. cmp a b ≡ Less) xs

  -- each element of one list is one of the other
  abbrev Within : List X → List X → Type 0
  Within xs ys = (z : X) → Contains xs z → Contains ys z

  -- no two elements are below each other
  not_both : (a b : X) → cmp a b ≡ Less → cmp b a ≡ Less → ⊥
  not_both a b less more = (let clash : Less ≡ Greater = sym less ∙ total.antisymm a b ∙ ap ordering_reverse more in absurd cc)

  -- where two heads are one, each element of one tail is one of the other
  tail_within : (x : X) (xs ys : List X) → Rises (x ∷ xs) → Within (x ∷ xs) (x ∷ ys) → Within xs ys
  tail_within x xs ys rises there z has = by (head_or_tail x ys z (there z (in_tail x xs z has)))
    where
      by : (z ≡ x) ⊎ Contains ys z → Contains ys z
      by (inl same) = (let itself = subst (λ (y : X). cmp x y ≡ Less) same
          (pairs_head (λ a b. cmp a b ≡ Less) x xs rises z has) in absurd (not_both x x itself itself))
      by (inr more) = more

  -- the heads of two such lists with the same elements are one
  same_heads : (x y : X) (xs ys : List X) → Rises (x ∷ xs) → Rises (y ∷ ys) → (y ≡ x) ⊎ Contains xs y → (x ≡ y) ⊎ Contains ys x → x ≡ y
  same_heads x y xs ys rises others (inl is) there = sym is
  same_heads x y xs ys rises others (inr here) (inl is) = is
  same_heads x y xs ys rises others (inr here) (inr there) = absurd (not_both x y (pairs_head (λ a b. cmp a b ≡ Less) x xs rises y here) (pairs_head (λ a b. cmp a b ≡ Less) y ys others x there))

  -- two such lists with the same elements are one
  pub one_rising_list : (xs ys : List X) → Rises xs → Rises ys → Within xs ys → Within ys xs → xs ≡ ys
  one_rising_list [] [] rises others there back = refl
  one_rising_list [] (y ∷ ys) rises others there back = absurd (in_none y (back y (at_head y ys)))
  one_rising_list (x ∷ xs) [] rises others there back = absurd (in_none x (there x (at_head x xs)))
  one_rising_list (x ∷ xs) (y ∷ ys) rises others there back =
      let heads : x ≡ y = same_heads x y xs ys rises others (head_or_tail x xs y (back y (at_head y ys))) (head_or_tail y ys x (there x (at_head x xs))) in
      let forth : Within xs ys = tail_within x xs ys rises (subst (λ (h : X). Within (x ∷ xs) (h ∷ ys)) (sym heads) there) in
      let again : Within ys xs = tail_within y ys xs others (subst (λ (h : X). Within (y ∷ ys) (h ∷ xs)) heads back) in
      let tails : xs ≡ ys = one_rising_list xs ys (pairs_tail (λ a b. cmp a b ≡ Less) x xs rises) (pairs_tail (λ a b. cmp a b ≡ Less) y ys others) forth again in
      λ i. heads i ∷ tails i

-- a row that was found stays where it is alive
pub kept_alive : (now : ℕ) (o : Option RowValue) (h : RowValue) → (o ≡ Some h) × IsAlive h now → option_and_then (if_alive now) o ≡ Some h
kept_alive now o h (is, alive) =
    ap (option_and_then (if_alive now)) is ∙ ap (λ (b : Bool). cond b (Some h) None) ((Decides-ltb (now - h.accepted) h.life).1 alive)

-- what stays was found, and is alive
pub was_alive : (now : ℕ) (o : Option RowValue) (h : RowValue) → option_and_then (if_alive now) o ≡ Some h → (o ≡ Some h) × IsAlive h now
was_alive now o h is = option_and_then_some (if_alive now) o h is (λ g at passes. by g at (is_alive g now) refl passes)
  where
    by : (g : RowValue) → o ≡ Some g → (b : Bool) → is_alive g now ≡ b → cond b (Some g) None ≡ Some h → (o ≡ Some h) × IsAlive h now
    by g at true alive passes =
        let same : g ≡ h = same_some g h passes in
        (at ∙ ap Some same, subst (λ (x : RowValue). IsAlive x now) same ((Decides-ltb (now - g.accepted) g.life).0 alive))
    by g at false dead passes = absurd (none_is_some passes)

-- two tables with the same live rows
module _ (one other : List RowValue) (now : ℕ)
    (alike : (router : RouterId) (eid : PrefixValue) → option_and_then (if_alive now) (row_at one router eid) ≡ option_and_then (if_alive now) (row_at other router eid)) where
  -- a live row is found in both, or in neither
  both_find : (h : RowValue) → option_and_then (if_alive now) (row_at one h.router h.mapping.eid) ≡ option_and_then (if_alive now) (row_at other h.router h.mapping.eid)
  both_find h = alike h.router h.mapping.eid

  -- a list of what is held by one is a list of what is held by the other
  held_alike : (xs : List RowValue) → IsHeld one now xs → IsHeld other now xs
  held_alike xs is = record {
    rising = is.rising;
    each = λ h. (
        let here = row_at one h.router h.mapping.eid in
        let there = row_at other h.router h.mapping.eid in (
          λ has. was_alive now there h (sym (both_find h) ∙ kept_alive now here h ((is.each h).0 has)),
          λ at. (is.each h).1 (was_alive now here h (both_find h ∙ kept_alive now there h at)),
        ));
  }

-- rows of a table, and the list of those that are held
module _ (table listed : List RowValue) (now : ℕ) (one : OneEach table) (is : IsHeld table now listed) (addr : Addr) where
  -- and what is listed is a row
  in_table : (h : RowValue) → Contains listed h → Contains table h
  unfolding row_at
  in_table h has = (found_holds (is_row_of h.router h.mapping.eid) table h ((is.each h).0 has).0).0

  -- the best row is the best of the list
  best_listed : (h : RowValue) → IsBest table addr now h → IsBest listed addr now h
  best_listed h best = record {
    held = (
        let alive = (and_parts (is_alive h now) (holds h.mapping.eid addr) best.may).0 in
        (is.each h).1 (found_own table h one best.held, (Decides-ltb (now - h.accepted) h.life).0 alive));
    may = best.may;
    most = λ other has may. best.most other (in_table other has) may;
  }

  -- where no row may answer, none of the list may
  none_listed : NoneAnswers table addr now → NoneAnswers listed addr now
  none_listed none h has = none h (in_table h has)

  -- who answers by the rows answers by the list
  answers_listed : {A : Type 0} (sites : List SiteValue) (answer : Answer A) → Answers table sites addr now answer → Answers listed sites addr now answer
  answers_listed sites (Reply record_of) answers = (answers.0, best_listed answers.0 answers.1, answers.2, answers.3)
  answers_listed sites (Forward to) answers = (answers.0, best_listed answers.0 answers.1, answers.2, answers.3)
  answers_listed sites NotRegistered answers = (none_listed answers.0, answers.1)
  answers_listed sites NoSite answers = (none_listed answers.0, answers.1)

-- the list has the rows that are alive, and no others
pub same_live : (table listed : List RowValue) (now : ℕ) → OneEach table → IsHeld table now listed → SameLive table listed now
unfolding row_at
same_live table listed now one is h alive = (
  λ has. (is.each h).1 (found_own table h one has, (Decides-ltb (now - h.accepted) h.life).0 alive),
  λ has. (found_holds (is_row_of h.router h.mapping.eid) table h ((is.each h).0 has).0).0,
)

-- What is asked of a node of a network that stands for a trace, at the network's clock.

-- a Map-Server that stands for a trace
module _ (o : Opening) (T : List Step) (k : ℕ) (n : ServerNodeState) (part : StandsForServer o T k n) where
  -- all that it holds, by the trace
  abbrev pub all_held : List RowValue
  all_held = rows (since_start o T k) (clock T)

  -- that lists its live rows
  pub lists_held : IsHeld n.core.rows (clock T) all_held
  unfolding row_at
  lists_held = held_alike (accepted_rows (since_start o T k)) n.core.rows (clock T) (λ router eid. sym (part.rows router eid)) all_held (rows_are_held (since_start o T k) (clock T))

  -- a notice that it keeps is due when the trace's is
  due_together : (m : Notice) (kept : StandingNoticeValue) → IsStanding o T k m kept → due_at kept ≡ due_after m.moments
  unfolding due_after
  due_together m kept is = ap (λ (times : ℕ). option_map (λ gap. kept.last + gap) (slice_get gaps times)) is.resends ∙ ap due_after (sym is.moments)

  -- so that of a router is due in both, or in neither
  due_in_both : (router : RouterId) → is_due_at (clock T) (notice_at n.core.notices router) ≡ is_due (notice_to o T k router) (clock T)
  due_in_both router = by (notice_to o T k router) (notice_at n.core.notices router) (part.notices router)
    where
      by : (m : Option Notice) (kept : Option StandingNoticeValue) → SameNotice o T k m kept → is_due_at (clock T) kept ≡ is_due m (clock T)
      by (Some m) (Some kept) is = ap (has_come (clock T)) (due_together m kept is)
      by None None is = refl
      by _ _ is = absurd is

  -- the least router to which a notice is due
  next_notice : (router : Option RouterId) → IsDueRouter n.core.notices (clock T) router → IsNextNotice o T k router
  next_notice (Some router) is = (sym (due_in_both router) ∙ ap (is_due_at (clock T)) is.stands ∙ is.due, λ other due. is.least other (due_in_both other ∙ due))
  next_notice None none = λ router. sym (due_in_both router) ∙ none router

  -- what it tells at the moment of the trace
  server_tells : (A : Type 0) → ServerTells A o T k n.core (clock T)
  server_tells A = record {
    held = λ listed is. (
        one_rising_list row_cmp (on_total row_key key_total) listed all_held is.rising lists_held.rising
        (λ h has. (lists_held.each h).1 ((is.each h).0 has))
        (λ h has. (is.each h).1 ((lists_held.each h).0 has)));
    answer = λ addr answer one answers. (
        subst (λ (sites : List SiteValue). Answers all_held sites addr (clock T) answer) part.sites
        (answers_listed n.core.rows all_held (clock T) one lists_held addr n.core.sites answer answers));
    last_nonce = part.nonces;
    last_notice = part.notice_nonce;
    due_notices = λ router one is. next_notice router is;
  }

-- what a Map-Server of the network tells at its clock
pub servers_tell : (A : Type 0) (w : WorldState) (o : Opening) (T : List Step) → Stands w o T
    → (k : ℕ) (n : ServerNodeState) → slice_get w.servers k ≡ Some n → ServerTells A o T k n.core w.clock
servers_tell A w o T stand k n at =
    subst (λ (now : ℕ). ServerTells A o T k n.core now) (sym stand.bag.moment) (server_tells o T k n (stand.servers k n at) A)

-- a router that is up and stands for a trace
module _ (o : Opening) (T : List Step) (router : ℕ) (etr : EtrState) (part : StandsForEtr o T router etr) where
  -- a round is due when the trace's is
  round_due : (server : ℕ) (rs : Rounds) → StandsForRounds T router server rs → (number : ℕ) (r : Round) → slice_get rs.parts number ≡ Some r → nat_le r.due (clock T) ≡ nat_le (due T router server number) (clock T)
  round_due server rs stand number r at = ap (λ (moment : ℕ). nat_le moment (clock T)) (stand.round number r at).keeps.due

  -- what it tells at the moment of the trace
  router_tells : RouterTells o T router etr (clock T)
  router_tells = record {
    acked = λ place server listed. (
        let its = (
        let low = slice_get_within ((router_at o.config router).servers) place server listed in
        let count = part.count in
        get_within etr.rounds place (omega (arith, low, count))) in
        let stand = part.rounds place server its.0 listed its.1 in
        ap (λ (all : Option Rounds). unwrap_or (option_map (λ (rs : Rounds). rs.acked) all) []) its.1 ∙ list_by_parts (acked T router server) its.0.acked stand.acked_parts stand.acked);
    due = first_alike (router_part (clock T) (part_count etr.database)) (due_part o T router) etr.rounds ((router_at o.config router).servers) part.count (λ place rs server at listed.
        let stand = part.rounds place server rs listed at in
        first_by_parts (λ (r : Round). nat_le r.due (clock T)) (λ number. nat_le (due T router server number) (clock T)) (part_count etr.database) rs.parts stand.parts (round_due server rs stand)
        ∙ ap (λ (db : List MapRecordValue). position (λ number. nat_le (due T router server number) (clock T)) (take (part_count db) part_numbers)) part.database);
    database = part.database;
  }

-- what a router of the network that is up tells at its clock
pub routers_tell : (w : WorldState) (o : Opening) (T : List Step) → Stands w o T
    → (k : ℕ) (n : RouterNodeState) (etr : EtrState) → slice_get w.routers k ≡ Some n → n.core ≡ Up etr → RouterTells o T (length o.config.servers + k) etr w.clock
routers_tell w o T stand k n etr at up =
    let router : ℕ = length o.config.servers + k in
    let part : StandsForEtr o T router etr = subst (λ (core : RouterCoreState). StandsForCore o T router core) up (stand.routers k n at).core in
    subst (λ (now : ℕ). RouterTells o T router etr now) (sym stand.bag.moment) (router_tells o T router etr part)
