-- Legal step: what may come of an event after a trace. One row for each line; anything else is illegal.
use Rattle.std.specs.Prelude.{◌≡◌, ◌≤◌, ℕ, ◌+◌, Bool, true, false, List, [], ◌∷◌, slice_get, Some, None}
use Rattle.lisp_records.specs.Moment.{max_moment}
use Rattle.lisp_model.specs.declared.event.Event.TheVariants as events
use Rattle.lisp_model.specs.declared.line.Line.TheVariants as lines
use Rattle.lisp_model.specs.declared.refusal.Refusal.TheVariants as refusals
use Rattle.lisp_model.specs.Trace.{Line, EventValue, Step, Opening, shown_store, clock, fate_of, node_at, is_server, is_router}
use Rattle.lisp_model.specs.Keys.{MayRotate}
use Rattle.lisp_model.specs.Bag.{Item, Arrival, arrival_of, junk_arrival, bag}
use Rattle.lisp_model.specs.Context.{Context, IsAtServer, IsAtRouter, Same, IsAtNoNode}
use Rattle.lisp_model.specs.Sending.{IsChanged, IsSent, RefusesToSend}
use Rattle.lisp_model.specs.Restarting.{IsRestarted, IsNotStarted}
use Rattle.lisp_model.specs.Reloading.{IsReloaded}
use Rattle.lisp_model.specs.Rotating.{IsRotated, RefusesToRotate, IsEmptied, IsNotStartedUnder}
use Rattle.lisp_model.specs.Receiving.{IsAccepted, IsDone, RefusesMessage}
use Rattle.lisp_model.specs.Hearing.{Hears}
use Rattle.lisp_model.specs.Notifying.{IsNotice, IsResent, RefusesNotice, RefusesToResend}

-- the router is down, and says so
pub record IsDown (t : Context) (router named : ℕ) : Type 0 where
  pub acts : IsAtRouter t router false
  pub names : named ≡ router
  pub same : Same t

-- a message arrives at the node
abbrev pub Arrives : Context → Arrival → Line → Type 0
Arrives t a (lines.Accepted server router key nonce datagram) = IsAccepted t a server router key nonce datagram
Arrives t a (lines.Done server router nonce) = IsDone t a server router nonce
Arrives t a (lines.Counted router server part key nonce) = Hears t a (lines.Counted router server part key nonce)
Arrives t a (lines.Noticed router server nonce datagram) = Hears t a (lines.Noticed router server nonce datagram)
Arrives t a (lines.Down router) = IsDown t router router
Arrives t a (lines.Refused node (refusals.Receive why)) = IsAtServer t node × RefusesMessage t a why
Arrives t a (lines.Refused node (refusals.Notify why)) = Hears t a (lines.Refused node (refusals.Notify why))
Arrives t a _ = ⊥

-- a datagram arrives at the node that has its destination address
pub record IsDelivered (t : Context) (k : ℕ) (line : Line) : Type 0 where
  pub item : Item
  pub sent : slice_get (bag t.opening t.past) k ≡ Some item
  pub there : node_at t.opening.config item.to ≡ Some t.node
  pub arrives : Arrives t (arrival_of item) line

-- no node has its destination address
pub record IsNowhere (t : Context) (k datagram : ℕ) : Type 0 where
  pub item : Item
  pub sent : slice_get (bag t.opening t.past) k ≡ Some item
  pub nobody : node_at t.opening.config item.to ≡ None
  pub names : datagram ≡ k
  pub idle : IsAtNoNode t

-- bytes from outside arrive at a node
pub record IsJunk (t : Context) (to : ℕ) (a : Arrival) (line : Line) : Type 0 where
  pub acts : t.node ≡ to
  pub arrives : Arrives t a line

-- time passes; the clock goes to its end at most
pub record IsTicked (t : Context) (ms passed now : ℕ) : Type 0 where
  pub names : passed ≡ ms
  pub clock : now ≡ clock t.past + ms
  pub bound : now ≤ max_moment
  pub idle : IsAtNoNode t

-- what may come of an event: one row for each line
abbrev pub MayCome : Context → EventValue → Line → Type 0
MayCome t (events.Change router db) (lines.Changed named records) = IsChanged t router db named records
MayCome t (events.Change router db) (lines.Down named) = IsDown t router named
MayCome t (events.Send router server part _) (lines.Sent r s p key nonce datagram) =
    (r ≡ router) × (s ≡ server) × (p ≡ part) × IsSent t router server part key nonce datagram
MayCome t (events.Send router server part _) (lines.Down named) =
    (is_server t.opening.config server ≡ true) × IsDown t router named
MayCome t (events.Send router server part _) (lines.Refused named (refusals.Send why)) =
    (named ≡ router) × (is_server t.opening.config server ≡ true) × IsAtRouter t router true
    × RefusesToSend t router server part why
MayCome t (events.Deliver k _) (lines.Nowhere datagram) = IsNowhere t k datagram
MayCome t (events.Deliver k _) line = IsDelivered t k line
MayCome t (events.Junk to from bytes) line = IsJunk t to (junk_arrival from bytes) line
MayCome t (events.Tick ms) (lines.Ticked passed now) = IsTicked t ms passed now
MayCome t (events.Restart node pick db) (lines.Restarted named) = IsRestarted t node pick db named
MayCome t (events.Restart node pick db) (lines.Refused named (refusals.Start fault)) =
    IsNotStarted t node pick db named fault
MayCome t (events.Rotate router key _) (lines.Rotated named under) = IsRotated t router key named under
MayCome t (events.Rotate router key _) (lines.Down named) =
    MayRotate t.opening t.past router key × IsDown t router named
MayCome t (events.Rotate router key _) (lines.Refused named (refusals.Rotate why)) =
    (named ≡ router) × IsAtRouter t router true × MayRotate t.opening t.past router key × RefusesToRotate t router key why
MayCome t (events.Lose router key db) (lines.Emptied named under) = IsEmptied t router key db named under
MayCome t (events.Lose router key db) (lines.Refused named (refusals.Start fault)) =
    IsNotStartedUnder t router key db named fault
MayCome t (events.Notice server router _) (lines.Notice s r key nonce datagram) =
    (s ≡ server) × (r ≡ router) × IsNotice t server router key nonce datagram
MayCome t (events.Notice server router _) (lines.Refused named (refusals.Notice why)) =
    (named ≡ server) × IsAtServer t server × (is_router t.opening.config router ≡ true) × RefusesNotice t router why
MayCome t (events.Resend server router) (lines.Resent s r datagram) =
    (s ≡ server) × (r ≡ router) × IsResent t server router datagram
MayCome t (events.Resend server router) (lines.Refused named (refusals.Notice why)) =
    (named ≡ server) × IsAtServer t server × (is_router t.opening.config router ≡ true) × RefusesToResend t router why
MayCome t (events.Reload server new) (lines.Reloaded named count) = IsReloaded t server new true named count
MayCome t (events.Reload server new) (lines.Renewed named count) = IsReloaded t server new false named count
MayCome t _ _ = ⊥

abbrev pub context_of : Opening → List Step → Step → Context
context_of o T s = record { opening = o; past = T; node = s.actor; fate = fate_of s.event; before = shown_store o T s.actor; after = s.shown }

-- a node restarted: it may have opened its store anew, which then counts its faults anew
abbrev pub is_restart : Line → Bool
is_restart (lines.Restarted node) = true
is_restart _ = false

-- a step is legal after a trace: a row allows it, and no call lowers the count of faults, but for a restart, or makes a store another
-- one
pub record Legal (o : Opening) (T : List Step) (s : Step) : Type 0 where
  pub faults : is_restart s.line ≡ false → (shown_store o T s.actor).faults ≤ s.shown.faults
  pub obedient : s.shown.is_obedient ≡ (shown_store o T s.actor).is_obedient
  pub row : MayCome (context_of o T s) s.event s.line

-- each step is legal after those before it
abbrev pub LegalTrace : Opening → List Step → Type 0
LegalTrace o [] = Unit {0}
LegalTrace o (s ∷ T) = Legal o T s × LegalTrace o T
