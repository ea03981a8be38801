-- Time passes for a node that takes turns, and in the network that has it: the other nodes keep their dead rows.
use Rattle.std.proofs.Common.{◌≡◌, inl, inr, ℕ, ◌+◌, ◌-◌, ◌≤◌, List, [], ◌∷◌, length, length-set, Some, refl, sym, ap, subst, ◌∙◌, append-nil, arith}
use Rattle.std.specs.Prelude.{slice_get, slice_set}
use Rattle.lisp_records.specs.Moment.{max_moment}
use Rattle.lisp_model.specs.declared.event.Event.TheVariants as events
use Rattle.lisp_model.specs.declared.line.Line.TheVariants as lines
use Rattle.lisp_model.specs.Trace.{EventValue, Step, Opening}
use Rattle.lisp_refinement.specs.World.{ServerNodeState, RouterNodeState, WorldState}
use Rattle.lisp_refinement.specs.Passing.{PassesNode, PassesEach, NetworkPasses}
use Rattle.lisp_refinement.specs.Stands.{Stands, StandsAfter}
use Rattle.lisp_refinement.proofs.Gets.{same_some, AtSet, get_set}
use Rattle.lisp_refinement.proofs.Passing.{passing_stands, expired_passes, idle_passes, idling_passes}
use Rattle.lisp_turns.specs.Node.{NodeState, Server, Router, HasNode, Passes}
use Rattle.lisp_turns.proofs.Beside.{set_same, IsThere, has_there, with_one, has_one, has_others}
use Rattle.lisp_turns.proofs.Reaching.{Reaches}

-- a Map-Server drops some of its dead rows, and a router stays as it is
abbrev pub MayPass : NodeState → NodeState → ℕ → Type 0
MayPass (Server old) (Server new) now = PassesNode old new now
MayPass (Router old) (Router new) now = new ≡ old
MayPass _ _ now = ⊥

pub passes_may : (old new : NodeState) (now : ℕ) → Passes old new now → MayPass old new now
passes_may (Server old) (Server new) now passes = expired_passes old new now passes
passes_may (Server old) (Router new) now passes = absurd passes
passes_may (Router old) (Server new) now passes = absurd passes
passes_may (Router old) (Router new) now passes = passes

pub idles_may : (node : NodeState) (now : ℕ) → MayPass node node now
idles_may (Server n) now = idle_passes n now
idles_may (Router n) now = refl

-- so the network stands for its trace and a tick
module _ (number : ℕ) (old new : NodeState) (now : ℕ) (w : WorldState) (o : Opening) (T : List Step) (stand : Stands w o T) (has : HasNode w number old) (later : w.clock ≤ now) (bound : now ≤ max_moment) (passes : MayPass old new now) where
  abbrev ms : ℕ
  ms = now - w.clock

  moment : w.clock + ms ≡ now
  moment = omega (arith, later)

  -- a network has the node then, too
  there_then : (a b : NodeState) → HasNode w number a → MayPass a b now → IsThere w number b
  there_then (Server a) (Server b) there may = has_there w number (Server a) there
  there_then (Server a) (Router b) there may = absurd may
  there_then (Router a) (Server b) there may = absurd may
  there_then (Router a) (Router b) there may = has_there w number (Router a) there

  abbrev pub ticked : WorldState
  ticked = with_one w number (w.clock + ms) w.bag new

  -- whichever node passes
  passing : (a b : NodeState) → HasNode w number a → MayPass a b (w.clock + ms) → NetworkPasses w (with_one w number (w.clock + ms) w.bag b) ms (lines.Ticked ms (w.clock + ms))
  passing (Server a) (Server b) there may = record { bound = omega (arith, moment, bound); count = length-set w.servers number b; each = each; left = refl; said = refl }
    where
      each : PassesEach w.servers (slice_set w.servers number b) (w.clock + ms)
      each k n m was is = by (get_set w.servers number k b m is)
        where
          by : AtSet w.servers number k b m → PassesNode n m (w.clock + ms)
          by (inl (here, that)) =
              let same : a ≡ n = same_some a n (sym there ∙ ap (slice_get w.servers) (sym here) ∙ was) in
              subst (λ (p : ServerNodeState × ServerNodeState). PassesNode p.0 p.1 (w.clock + ms)) {x = (a, b)} {y = (n, m)} (λ i. (same i, that i)) may
          by (inr (other, stays)) = subst (λ (x : ServerNodeState). PassesNode n x (w.clock + ms)) (same_some n m (sym was ∙ stays)) (idle_passes n (w.clock + ms))
  passing (Server a) (Router b) there may = absurd may
  passing (Router a) (Server b) there may = absurd may
  passing (Router a) (Router b) (place, number_is, there) may =
      let at : number - length w.servers ≡ place = omega (arith, number_is) in
      subst (λ (rs : List RouterNodeState). NetworkPasses w (record w { clock = w.clock + ms; routers = rs }) ms (lines.Ticked ms (w.clock + ms)))
      (sym (set_same w.routers (number - length w.servers) b (ap (slice_get w.routers) at ∙ there ∙ ap (λ (n : RouterNodeState). Some n) (sym may)))) (idling_passes w ms (omega (arith, moment, bound)))

  pub ticks : StandsAfter w ticked (events.Tick ms) (lines.Ticked ms (w.clock + ms))
  ticks = passing_stands w ticked ms (lines.Ticked ms (w.clock + ms)) (passing old new has (subst (λ m. MayPass old new m) (sym moment) passes))

  abbrev pub tick : Step
  tick = (let after = ticks o T stand in record { event = events.Tick ms; line = lines.Ticked ms (w.clock + ms); actor = after.0; shown = after.1 })

  pub tick_stands : Stands ticked o (tick ∷ T)
  tick_stands = (ticks o T stand).2

  pub ticked_has : HasNode ticked number new
  ticked_has = has_one w number (w.clock + ms) w.bag new (there_then old new has passes)

  pub tick_reaches : (Allows : EventValue → Type 0) → ((ms : ℕ) → Allows (events.Tick ms)) → Reaches Allows number [] [] [] new now w o T
  tick_reaches Allows allow = record {
    steps = tick ∷ [];
    left = ticked;
    stands = tick_stands;
    own = (tt, tt);
    allowed = (allow ms, tt);
    are_printed = inl (tt, refl);
    bag = sym (append-nil w.bag);
    heard = refl;
    node_is = ticked_has;
    clock = moment;
    others = has_others w number (w.clock + ms) w.bag new (there_then old new has passes);
  }
