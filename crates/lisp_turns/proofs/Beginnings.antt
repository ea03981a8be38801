-- Each node that begins over an honest store with its network stands in that at its opening: the other nodes idle over stores that
-- keep nothing.
use Rattle.std.proofs.Common.{◌≡◌, ℕ, ◌+◌, ◌<◌, Bool, true, false, List, [], length, Option, None, refl, sym, ap, subst, ◌∙◌, arith}
use Rattle.std.specs.Prelude.{◌==◌, IsTrue, if◌then◌else◌}
use Rattle.std.specs.List.{Contains}
use Rattle.std.proofs.lemmas.Bool.Decides.{Decides-eqb}
use Rattle.std.proofs.lemmas.Option.{slice_get_within}
use Rattle.lisp_policy.specs.Configuration.{ConfigValue}
use Rattle.lisp_nonces.specs.Kept.{KeepsSome}
use Rattle.lisp_nonces.specs.Memory.{empty_memory, memory_state}
use Rattle.lisp_nonces.specs.Store.{StoreState}
use Rattle.lisp_nonces.proofs.Kept.{kept_at-empty}
use Rattle.lisp_model.specs.Network.{IsNetwork}
use Rattle.lisp_model.specs.Trace.{Opening, shown_store}
use Rattle.lisp_model.proofs.Locality.{same_number}
use Rattle.lisp_refinement.specs.World.{WorldState}
use Rattle.lisp_refinement.specs.Stands.{Stands}
use Rattle.lisp_turns.specs.Beginning.{Begins}
use Rattle.lisp_turns.specs.Node.{NodeState, Server, Router, HasNode}
use Rattle.lisp_turns.proofs.Openings.{AllBegin, all_open, idle_node, begins_idle}

-- a store that keeps nothing
abbrev blank : StoreState
blank = memory_state empty_memory

keeps_some : KeepsSome blank.kept
keeps_some pair = (None, subst (λ (values : List (Option ℕ)). Contains values None) (sym (kept_at-empty pair)) (0, omega arith, refl))

-- a node that begins has one of the configuration's numbers
known : (c : ConfigValue) (number : ℕ) (store : StoreState) (node : NodeState) → Begins c c.sites number store 0 node → number < length c.servers + length c.routers
known c number store (Server n) (low, is) = omega (arith, low)
known c number store (Router n) (place, number_is, down, over, starts) = omega (arith, number_is, slice_get_within c.routers place over.0 over.1)

-- a network at its opening, which has a node
pub record IsOpening (c : ConfigValue) (number : ℕ) (store : StoreState) (node : NodeState) (w : WorldState) (o : Opening) : Type 0 where
  pub stands : Stands w o []
  pub config_is : o.config ≡ c
  pub kept : (shown_store o [] number).kept ≡ store.kept
  pub has : HasNode w number node
  pub clock : w.clock ≡ 0
  pub bag : w.bag ≡ []

-- so it is with each node that begins with its network
module _ (c : ConfigValue) (number : ℕ) (store : StoreState) (node : NodeState) (network : IsNetwork c) (honest : IsTrue store.is_honest) (begins : Begins c c.sites number store 0 node) where
  abbrev stores : ℕ → StoreState
  stores k = if k == number then store else blank

  abbrev nodes : ℕ → NodeState
  nodes k = if k == number then node else idle_node c k blank

  all_begin : AllBegin c stores nodes
  all_begin = record { begin = λ k low. begin k low (k == number) refl; honest = λ k low. its (k == number) }
    where
      begin : (k : ℕ) → k < length c.servers + length c.routers → (b : Bool) → (k == number) ≡ b → Begins c c.sites k (if b then store else blank) 0 (if b then node else idle_node c k blank)
      begin k low true is = subst (λ m. Begins c c.sites m store 0 node) (sym ((Decides-eqb k number).0 is)) begins
      begin k low false is = begins_idle c k blank low keeps_some

      its : (b : Bool) → IsTrue (if b then store else blank).is_honest
      its true = honest
      its false = refl

  pub beginnings_open : (w : WorldState) × (o : Opening) × IsOpening c number store node w o
  beginnings_open =
      let all = all_open c stores nodes network all_begin in
      let low = known c number store node begins in (
        all.0,
        all.1,
        record {
          stands = all.2.stands;
          config_is = all.2.config_is;
          kept = all.2.kept number low ∙ ap (λ (b : Bool). (if b then store else blank).kept) (same_number number);
          has = subst (λ (b : Bool). HasNode all.0 number (if b then node else idle_node c number blank)) (same_number number) (all.2.has number low);
          clock = all.2.clock;
          bag = all.2.bag;
        },
      )
