-- A network that took an event stands for the trace followed by it.
use Rattle.std.proofs.Common.{◌≡◌, ℕ, List, Option, Some, None, inl, inr, refl, sym, subst}
use Rattle.lisp_records.specs.declared.address.Addr.{Addr}
use Rattle.lisp_records.specs.Record.{MapRecordValue}
use Rattle.lisp_nonces.specs.declared.fate.Fate.{Fate}
use Rattle.lisp_nonces.specs.declared.fate.Fate.TheVariants.{Done}
use Rattle.lisp_model.specs.declared.event.Event.TheVariants as events
use Rattle.lisp_model.specs.declared.line.Line.{Line}
use Rattle.lisp_model.specs.Restarting.{Fits}
use Rattle.lisp_model.specs.Trace.{EventValue}
use Rattle.lisp_refinement.specs.World.{WorldState}
use Rattle.lisp_refinement.specs.Events.{node_with, Arrives, ArrivesWhere, NetworkDelivers, NetworkRestarts}
use Rattle.lisp_refinement.specs.Stands.{StandsAfter}
use Rattle.lisp_refinement.specs.Taking.{NetworkTakes}
use Rattle.lisp_refinement.proofs.Restarting.{change_stands}
use Rattle.lisp_refinement.proofs.Restarting.{lose_stands}
use Rattle.lisp_refinement.proofs.NoticeParts.{notice_stands}
use Rattle.lisp_refinement.proofs.Reloading.{reload_stands}
use Rattle.lisp_refinement.proofs.NoticeParts.{resend_stands}
use Rattle.lisp_refinement.proofs.Restarting.{rotate_stands}
use Rattle.lisp_refinement.proofs.Routers.{send_stands}
use Rattle.lisp_refinement.proofs.Passing.{tick_stands}
use Rattle.lisp_refinement.proofs.ServerArrivals.{deliver_to_server_stands, junk_to_server_stands, nowhere_stands}
use Rattle.lisp_refinement.proofs.Routers.{deliver_to_router_stands, junk_to_router_stands}
use Rattle.lisp_refinement.proofs.Restarting.{restart_server_stands, restart_router_stands}

-- a datagram that was sent arrives
delivers_stand : (A : Type 0) (old new : WorldState) (k : ℕ) (fate : Fate) (line : Line) → NetworkDelivers A old new k fate line → StandsAfter old new (events.Deliver k fate) line
delivers_stand A old new k fate line turn = by (node_with old turn.datagram.to) refl turn.arrives
  where
    by : (found : Option ℕ) → node_with old turn.datagram.to ≡ found → ArrivesWhere A old new k fate turn.datagram found line → StandsAfter old new (events.Deliver k fate) line
    by (Some node) is (inl arrives) = deliver_to_server_stands A old new node fate line k turn.datagram turn.sent is arrives
    by (Some node) is (inr arrives) = deliver_to_router_stands A old new node fate line k turn.datagram turn.sent is arrives
    by None is (same, said) =
        subst (λ (left : WorldState × Line). StandsAfter old left.0 (events.Deliver k fate) left.1) (λ i. (sym same i, sym said i)) (nowhere_stands old fate k turn.datagram turn.sent is)

-- bytes from outside arrive
junk_stands : (A : Type 0) (old new : WorldState) (node : ℕ) (from : Addr) (bytes : List ℕ) (line : Line) → Arrives A old new node Done from bytes line → StandsAfter old new (events.Junk node from bytes) line
junk_stands A old new node from bytes line (inl arrives) = junk_to_server_stands A old new node line from bytes arrives
junk_stands A old new node from bytes line (inr arrives) = junk_to_router_stands A old new node from bytes line arrives

-- a node starts again
restarts_stand : (old new : WorldState) (node pick : ℕ) (db : Option (List MapRecordValue)) (line : Line) → Fits db → NetworkRestarts old new node pick db line → StandsAfter old new (events.Restart node pick db) line
restarts_stand old new node pick db line fits (inl (none, turn)) =
    subst (λ (given : Option (List MapRecordValue)). StandsAfter old new (events.Restart node pick given) line) (sym none) (restart_server_stands old new node pick line turn)
restarts_stand old new node pick db line fits (inr turn) = restart_router_stands old new node pick db line fits turn

-- whatever the event
pub taking_agrees : (A : Type 0) (old new : WorldState) (event : EventValue) (line : Line) → NetworkTakes A old new event line → StandsAfter old new event line
taking_agrees A old new (events.Change router db) line turn = change_stands old new router db line turn
taking_agrees A old new (events.Send router server part fate) line turn = send_stands old new router server part fate line turn
taking_agrees A old new (events.Deliver k fate) line turn = delivers_stand A old new k fate line turn
taking_agrees A old new (events.Junk to from bytes) line turn = junk_stands A old new to from bytes line turn
taking_agrees A old new (events.Tick ms) line turn = tick_stands old new ms line turn
taking_agrees A old new (events.Restart node pick db) line (fits, turn) = restarts_stand old new node pick db line fits turn
taking_agrees A old new (events.Rotate router key fate) line turn = rotate_stands old new router key fate line turn
taking_agrees A old new (events.Lose router key db) line (fits, turn) = lose_stands old new router key db line fits turn
taking_agrees A old new (events.Notice server router fate) line turn = notice_stands old new server router fate line turn
taking_agrees A old new (events.Resend server router) line turn = resend_stands old new server router line turn
taking_agrees A old new (events.Reload server sites) line turn = reload_stands old new server sites line turn
