-- What is asked of a node, at the network's clock, is what the trace says.
use Rattle.std.specs.Prelude.{◌≡◌, ◌≢◌, ℕ, ◌+◌, true, false, List, length, map, slice_get, Option, Some, None}
use Rattle.std.specs.declared.cmp.Ordering.TheVariants.{Less}
use Rattle.lisp_records.specs.declared.address.Addr.{Addr}
use Rattle.lisp_records.specs.declared.router.RouterId.{RouterId}
use Rattle.lisp_records.specs.Router.{router_cmp}
use Rattle.lisp_records.specs.Row.{RowValue}
use Rattle.lisp_nonces.specs.declared.pair.Pair.{Pair}
use Rattle.lisp_admission.specs.Pairs.{notice_pair}
use Rattle.lisp_lookup.specs.declared.answer.Answer.{Answer}
use Rattle.lisp_lookup.specs.Answer.{Answers}
use Rattle.lisp_lookup.specs.Table.{OneEach, IsHeld}
use Rattle.lisp_etr.specs.Etr.{EtrState, due_at}
use Rattle.lisp_etr.specs.Rounds.{acked_at, first_part}
use Rattle.lisp_server.specs.LastNonces.{nonce_at}
use Rattle.lisp_server.specs.Notices.{OneForEach, IsDueRouter}
use Rattle.lisp_server.specs.Server.{ServerState}
use Rattle.lisp_model.specs.Trace.{Step, Opening, router_at, clock, database}
use Rattle.lisp_model.specs.Held.{last_of, rows}
use Rattle.lisp_model.specs.Answer.{IsAnswer}
use Rattle.lisp_model.specs.Numbers.{part_numbers}
use Rattle.lisp_model.specs.Timers.{due_part, notice_to, is_due, last_notice}
use Rattle.lisp_model.specs.Bag.{since_start}
use Rattle.lisp_model.specs.Counted.{acked}
use Rattle.lisp_refinement.specs.World.{ServerNodeState, RouterNodeState, Up, WorldState}

-- the least router to which a notice is due
abbrev pub IsNextNotice : Opening → List Step → ℕ → Option RouterId → Type 0
IsNextNotice o T k (Some router) =
    (is_due (notice_to o T k router) (clock T) ≡ true)
    × ((other : RouterId) → is_due (notice_to o T k other) (clock T) ≡ true → router_cmp other router ≢ Less)
IsNextNotice o T k None = (router : RouterId) → is_due (notice_to o T k router) (clock T) ≡ false

-- a Map-Server: what it lists is all that it holds; who answers for an address; its last nonces; which notice is due
pub record ServerTells (A : Type 0) (o : Opening) (T : List Step) (k : ℕ) (core : ServerState) (now : ℕ) : Type 0 where
  pub held : (listed : List RowValue) → IsHeld core.rows now listed → listed ≡ rows (since_start o T k) (clock T)
  pub answer : (addr : Addr) (answer : Answer A) → OneEach core.rows → Answers core.rows core.sites addr now answer
      → IsAnswer o T k addr answer
  pub last_nonce : (pair : Pair) → pair ≢ notice_pair → nonce_at core.nonces pair ≡ last_of pair (since_start o T k)
  pub last_notice : nonce_at core.nonces notice_pair ≡ last_notice T k
  pub due_notices : (router : Option RouterId) → OneForEach core.notices → IsDueRouter core.notices now router
      → IsNextNotice o T k router

-- so does each Map-Server of a network
abbrev pub ServersTell : Type 0 → WorldState → Opening → List Step → Type 0
ServersTell A w o T = (k : ℕ) (n : ServerNodeState) → slice_get w.servers k ≡ Some n
    → ServerTells A o T k n.core w.clock

-- a router that is up: what it counted last of each part from each of its Map-Servers, which one is due and of which
-- part, and what it registers
pub record RouterTells (o : Opening) (T : List Step) (router : ℕ) (etr : EtrState) (now : ℕ) : Type 0 where
  pub acked : (place server : ℕ) → slice_get (router_at o.config router).servers place ≡ Some server
      → acked_at etr.rounds place ≡ map (acked T router server) part_numbers
  pub due : due_at etr now ≡ first_part (due_part o T router) (router_at o.config router).servers
  pub database : etr.database ≡ database o T router

-- so does each router of a network that is up
abbrev pub RoutersTell : WorldState → Opening → List Step → Type 0
RoutersTell w o T = (k : ℕ) (n : RouterNodeState) (etr : EtrState) → slice_get w.routers k ≡ Some n → n.core ≡ Up etr
    → RouterTells o T (length o.config.servers + k) etr w.clock
