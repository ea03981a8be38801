-- How a network that was made begins.
use Rattle.std.specs.Prelude.{◌≡◌, Bool, false, ◌||◌, List, [], ◌∷◌, ◌++◌, map, Result, IfOk}
use Rattle.std.specs.List.{list_any}
use Rattle.lisp_records.specs.Address.{addr_eq}
use Rattle.lisp_records.specs.Router.{router_eq}
use Rattle.lisp_policy.specs.Configuration.{ConfigValue, ServerEntryValue, RouterEntryValue}
use Rattle.lisp_nonces.specs.Kept.{Kept}
use Rattle.lisp_nonces.specs.Store.{StoreState}
use Rattle.lisp_model.specs.Trace.{Opening, addresses}
use Rattle.lisp_refinement.specs.World.{WorldState}
use Rattle.lisp_model.specs.declared.world_fault.WorldFault.{WorldFault}
use Rattle.lisp_refinement.specs.Stands.{shown_by, Stands}
use Rattle.lisp_world.specs.Quiet.{stores_of, AllHonest}

-- two of a list are alike
abbrev pub has_twice : {X : Type 0} → (X → X → Bool) → List X → Bool
has_twice alike [] = false
has_twice alike (x ∷ xs) = list_any (alike x) xs || has_twice alike xs

-- two routers have one address, or one identity
abbrev pub share_address : List RouterEntryValue → Bool
share_address routers = has_twice (λ a b. addr_eq a.address b.address) routers

abbrev pub share_identity : List RouterEntryValue → Bool
share_identity routers = has_twice (λ a b. router_eq a.me b.me) routers

-- two nodes have one address
abbrev pub nodes_share_address : List ServerEntryValue → List RouterEntryValue → Bool
nodes_share_address servers routers = has_twice addr_eq (map (λ s. s.address) servers ++ map (λ r. r.address) routers)

-- two nodes have one address, or two routers one identity
abbrev pub repeats : ConfigValue → Bool
repeats c = has_twice addr_eq (addresses c) || share_identity c.routers

-- a network's opening: its configuration, and what its stores show
abbrev pub opening : ConfigValue → WorldState → Opening
opening c w = record { config = c; stores = map shown_by (stores_of w) }

-- a network stands for its opening
abbrev pub IsOpened : ConfigValue → WorldState → Type 0
IsOpened c w = Stands w (opening c w) []

-- the lists that stores keep
abbrev pub lists_of : List StoreState → List Kept
lists_of stores = map (λ s. s.kept) stores

-- a network that is made over honest stores keeps what they kept
abbrev pub KeepsLists : List StoreState → Result WorldState WorldFault → Type 0
KeepsLists stores result = AllHonest stores → IfOk result (λ w. lists_of (stores_of w) ≡ lists_of stores)
