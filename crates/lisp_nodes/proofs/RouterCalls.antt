-- What the calls of a router come to, as the turns of a change, a send and a restart want it.
use Rattle.std.proofs.Common.{[], ◌≡◌, ℕ, ◌+◌, ◌<◌, Bool, true, false, true≢false, List, ◌++◌, length, get_or, Result, Ok, Err, Option, refl, sym, ap, subst, ◌∙◌}
use Rattle.std.proofs.lemmas.List.{append-nil}
use Rattle.std.proofs.lemmas.Option.{slice_get_read}
use Rattle.std.specs.Prelude.{IsSome, slice_set}
use Rattle.lisp_records.specs.Record.{MapRecordValue}
use Rattle.lisp_messages.specs.{Head.head_at, Message.Registers}
use Rattle.lisp_nonces.specs.{declared.fate.Fate.Fate, Store.StoreState}
use Rattle.lisp_etr.specs.{Etr.EtrState, Sending.next_register, declared.send_fault.SendFault.SendFault}
use Rattle.lisp_model.specs.declared.line.Line.{Line}
use Rattle.lisp_model.specs.declared.line.Line.TheVariants as lines
use Rattle.lisp_refinement.specs.World.{DatagramValue, RouterNodeState, RouterCoreState, Up, Down, WorldState}
use Rattle.lisp_refinement.specs.Calls.{CoreSends}
use Rattle.lisp_refinement.specs.Events.{RouterActs, is_up, change_line, NodeSends, SaysSendAnswer, RouterSends}
use Rattle.lisp_refinement.proofs.Heads.{head_written}
use Rattle.lisp_nodes.specs.Asked.{said_changed}

-- a network with a bag is itself where that is its bag
pub same_bag : (w : WorldState) (bag : List DatagramValue) → w.bag ≡ bag → w ≡ record w { bag = bag }
same_bag w bag same = ap (λ (b : List DatagramValue). record w { bag = b }) same

-- a router that was read by its place acted
abbrev pub acted : (old new : WorldState) (router place : ℕ) (more : List DatagramValue) (before after : RouterNodeState) → (router ≡ length old.servers + place) × (place < length old.routers)
    → before ≡ get_or old.routers place before → new ≡ record old { bag = old.bag ++ more; routers = slice_set old.routers place after } → RouterActs old new router more
acted old new router place more before after there read left = record {
  place = place;
  number = there.0;
  before = before;
  after = after;
  was = slice_get_read old.routers _ place before refl there.1 read;
  left = left;
}

-- the router at a place changed, and nothing was sent
abbrev pub router_changed : (old : WorldState) (node place : ℕ) (before after : RouterNodeState)
    → node ≡ length old.servers + place → place < length old.routers → before ≡ get_or old.routers place before
    → RouterActs old (record old { routers = slice_set old.routers place after }) node []
router_changed old node place before after number within at =
    acted old _ node place [] before after (number, within) at (ap (λ (bag : List DatagramValue). record old { bag = bag; routers = slice_set old.routers place after }) (sym (append-nil old.bag)))

-- the line of a router that is given a database
pub changed_line : (router records : ℕ) (db : List MapRecordValue) (core : RouterCoreState) (up : Bool) → records ≡ length db → up ≡ is_up core
    → said_changed router records up ≡ change_line router db core
changed_line router records db (Up e) true is up = ap (lines.Changed router) is
changed_line router records db (Up e) false is up = absurd (true≢false (sym up))
changed_line router records db (Down config database) true is up = absurd (true≢false up)
changed_line router records db (Down config database) false is up = refl

-- a Map-Register that was sent has a head
pub sent_head : (old new : EtrState) (armed called : StoreState) (place part now : ℕ) (bytes : List ℕ) → CoreSends old new armed called place part now bytes → IsSome (head_at bytes)
sent_head old new armed called place part now bytes sent =
    let wrote = ap head_at sent.datagram ∙ head_written old.config.secret (Registers (next_register old part)) sent.known in
    subst (λ (head : Option _). IsSome head) (sym wrote) refl

-- a router was asked to send
module _ (old : WorldState) (router server part : ℕ) (fate : Fate) (before after : RouterNodeState) where
  -- it is up
  pub sends_up : (answer : Result (List ℕ) SendFault) (line : Line) (more : List DatagramValue) → NodeSends before after server part fate old.clock answer → SaysSendAnswer old router server part answer line more
      → RouterSends old router server part fate before after before.core line more
  sends_up answer line more up says = subst (λ (core : RouterCoreState). RouterSends old router server part fate before after core line more) (sym up.was)
      (record { answer = answer; sends = up; says = says })

  -- it is down
  pub sends_down : (core : RouterCoreState) → is_up core ≡ false → after ≡ before → RouterSends old router server part fate before after core (lines.Down router) []
  sends_down (Up e) down same = absurd (true≢false down)
  sends_down (Down config database) down same = (same, refl, refl)

-- what a router that was started says, and one that wasn't
module _ {X E : Type 0} where
  pub no_fault : {P : Type 0} (x : X) (why : E) → ◌≡◌ {A = Result X E} (Ok x) (Err why) → P
  no_fault x why clash = absurd cc

  pub same_fault : (one other : E) → ◌≡◌ {A = Result X E} (Err one) (Err other) → one ≡ other
  same_fault one other is = cc
