-- What any event makes of a network; and the traces that it stands for go on by it.
use Rattle.lisp_nonces.specs.declared.fate.Fate.TheVariants.{Done}
use Rattle.lisp_model.specs.declared.event.Event.TheVariants as events
use Rattle.lisp_model.specs.declared.line.Line.{Line}
use Rattle.lisp_model.specs.Restarting.{Fits}
use Rattle.lisp_model.specs.Trace.{EventValue}
use Rattle.lisp_refinement.specs.World.{WorldState}
use Rattle.lisp_refinement.specs.Events.{Arrives, NetworkChanges, NetworkDelivers, NetworkLoses, NetworkNotifies, NetworkReloads, NetworkResends, NetworkRestarts, NetworkRotates, NetworkSends, NetworkTicks}
use Rattle.lisp_refinement.specs.Stands.{StandsAfter}

-- what an event makes of a network, and its line
abbrev pub NetworkTakes : Type 0 → WorldState → WorldState → EventValue → Line → Type 0
NetworkTakes A old new (events.Change router db) line = NetworkChanges old new router db line
NetworkTakes A old new (events.Send router server part fate) line = NetworkSends old new router server part fate line
NetworkTakes A old new (events.Deliver k fate) line = NetworkDelivers A old new k fate line
NetworkTakes A old new (events.Junk to from bytes) line = Arrives A old new to Done from bytes line
NetworkTakes A old new (events.Tick ms) line = NetworkTicks old new ms line
NetworkTakes A old new (events.Restart node pick db) line = Fits db × NetworkRestarts old new node pick db line
NetworkTakes A old new (events.Rotate router key fate) line = NetworkRotates old new router key fate line
NetworkTakes A old new (events.Lose router key db) line = Fits db × NetworkLoses old new router key db line
NetworkTakes A old new (events.Notice server router fate) line = NetworkNotifies old new server router fate line
NetworkTakes A old new (events.Resend server router) line = NetworkResends old new server router line
NetworkTakes A old new (events.Reload server sites) line = NetworkReloads old new server sites line

-- a network that took an event stands for each trace that it stood for, followed by that step
abbrev pub TakingAgrees : Type 0 → WorldState → WorldState → Type 0
TakingAgrees A old new = (event : EventValue) (line : Line) → NetworkTakes A old new event line
    → StandsAfter old new event line
