-- A node stops, and begins again over a store that it opens anew, as another process does: what that keeps is of what was kept, and it
-- counts its faults anew. A restart of a schedule, whose store goes on to count, is one of these.
use Rattle.std.specs.Prelude.{◌≡◌, ℕ, ◌≤◌, List, [], ◌∷◌, Option, Result, IfErr, IsTrue}
use Rattle.lisp_records.specs.Record.{MapRecordValue}
use Rattle.lisp_nonces.specs.declared.pair.Pair.{Pair}
use Rattle.lisp_nonces.specs.Kept.{kept_at, picked, Narrows}
use Rattle.lisp_nonces.specs.Store.{StoreState}
use Rattle.lisp_etr.specs.declared.start_fault.StartFault.{StartFault}
use Rattle.lisp_model.specs.declared.line.Line.{Line}
use Rattle.lisp_model.specs.declared.line.Line.TheVariants as lines
use Rattle.lisp_refinement.specs.World.{WorldState}
use Rattle.lisp_refinement.specs.Calls.{NodeStarts}
use Rattle.lisp_refinement.specs.Events.{ServerActs, RouterActs, start_line}
use Rattle.lisp_refinement.specs.Nodes.{fresh_server}

-- a store that is opened anew: of an obedient one the value at a place is left, or the last
pub record StoreReopens (old new : StoreState) (pick : ℕ) : Type 0 where
  pub narrows : IsTrue old.is_honest → (q : Pair) → Narrows (kept_at old.kept q) (kept_at new.kept q)
  pub picks : IsTrue old.is_obedient → (q : Pair) → kept_at new.kept q ≡ picked (kept_at old.kept q) pick ∷ []
  pub honest : new.is_honest ≡ old.is_honest
  pub obedient : new.is_obedient ≡ old.is_obedient

-- a Map-Server begins over it with its sites alone, at the network's clock
pub record ServerReopens (old new : WorldState) (node pick : ℕ) (line : Line) : Type 0 where
  pub acts : ServerActs old new node []
  pub core : acts.after.core ≡ fresh_server acts.before.core.sites
  pub reopens : StoreReopens acts.before.store acts.after.store pick
  pub started : acts.after.started ≡ old.clock
  pub said : line ≡ lines.Restarted node

-- and a router; one that doesn't start is down, and its store counted on
pub record RouterReopens (old new : WorldState) (node pick : ℕ) (db : Option (List MapRecordValue)) (line : Line)
    : Type 0 where
  pub acts : RouterActs old new node []
  pub me : acts.after.me ≡ acts.before.me
  pub servers : acts.after.servers ≡ acts.before.servers
  pub used : acts.after.used ≡ acts.before.used
  pub opened : StoreState
  pub reopens : StoreReopens acts.before.store opened pick
  pub answer : Result (Unit {0}) StartFault
  pub counts : IfErr answer (λ fault. acts.before.store.faults ≤ opened.faults)
  pub starts : NodeStarts (record acts.before { store = opened }) acts.after db old.clock answer
  pub said : line ≡ start_line node answer
