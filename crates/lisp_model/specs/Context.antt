-- A step as its node sees it, and what it may leave of the store of the node.
use Rattle.std.specs.Prelude.{◌≡◌, ◌≢◌, ◌⊎◌, ℕ, ◌-◌, ◌^◌, ◌<◌, Bool, IsTrue, true, false, List, [], ◌∷◌, Option, Some, None}
use Rattle.std.specs.List.{Contains}
use Rattle.lisp_policy.specs.Site.{SiteValue}
use Rattle.lisp_nonces.specs.declared.pair.Pair.{Pair}
pub use Rattle.lisp_nonces.specs.declared.fault.StoreFault.{StoreFault}
use Rattle.lisp_nonces.specs.declared.fault.StoreFault.TheVariants as faults
use Rattle.lisp_nonces.specs.declared.fate.Fate.TheVariants.{Doubt, LoadFails as FailedLoads}
use Rattle.lisp_nonces.specs.Kept.{kept_at, with_value, picked, NoneBelow, SameElsewhere, InDoubt, Narrows}
use Rattle.lisp_model.specs.Trace.{ShownStore, Step, Opening, is_server, is_router, is_up, sites, Fate}

-- what went before; which node acts; what its store is armed with, and what it shows before and after
pub record Context : Type 0 where
  pub opening : Opening
  pub past : List Step
  pub node : ℕ
  pub fate : Fate
  pub before : ShownStore
  pub after : ShownStore

-- it is that server's; that router's, which is up, or down
pub record IsAtServer (t : Context) (server : ℕ) : Type 0 where
  pub kind : is_server t.opening.config server ≡ true
  pub acts : t.node ≡ server

pub record IsAtRouter (t : Context) (router : ℕ) (up : Bool) : Type 0 where
  pub kind : is_router t.opening.config router ≡ true
  pub acts : t.node ≡ router
  pub state : is_up t.past router ≡ up

-- the sites of the node that acts, if it is a server
abbrev pub its_sites : Context → List SiteValue
its_sites t = sites t.opening t.past t.node

-- what the store keeps for a pair before, and after
abbrev pub values : Context → Pair → List (Option ℕ)
values t pair = kept_at t.before.kept pair

abbrev pub values_after : Context → Pair → List (Option ℕ)
values_after t pair = kept_at t.after.kept pair

-- no list changed
abbrev pub Same : Context → Type 0
Same t = t.after.kept ≡ t.before.kept

-- no list of another pair changed
abbrev pub SameOthers : Context → Pair → Type 0
SameOthers t pair = SameElsewhere t.before.kept t.after.kept pair

-- a device failed; the count stops at its end. Only then does a store answer a fault other than out of memory
abbrev pub Rose : Context → Type 0
Rose t = (t.before.faults < t.after.faults) ⊎ (t.after.faults ≡ 2 ^ 64 - 1)

abbrev pub HasCause : Context → StoreFault → Type 0
HasCause t fault = fault ≢ faults.OutOfMemory → Rose t

-- what an obedient store is armed with lets a load be answered, or fail; and a save
abbrev pub MayLoad : Context → Type 0
MayLoad t = IsTrue t.before.is_obedient → t.fate ≢ FailedLoads

abbrev pub MayFailLoad : Context → Type 0
MayFailLoad t = IsTrue t.before.is_obedient → t.fate ≡ FailedLoads

abbrev pub MaySave : Context → Type 0
MaySave t = IsTrue t.before.is_obedient → t.fate ≢ Doubt

abbrev pub MayFailSave : Context → Type 0
MayFailSave t = IsTrue t.before.is_obedient → t.fate ≡ Doubt

-- a last nonce that isn't in memory was loaded
abbrev pub Loads : Context → Option ℕ → Type 0
Loads t last = last ≡ None → MayLoad t

-- nothing was saved, or a bound that the pair keeps alone then; and from now on no value of it is below the nonce
pub record Saves (t : Context) (pair : Pair) (nonce bound : ℕ) : Type 0 where
  pub here : (values_after t pair ≡ values t pair) ⊎ ((values_after t pair ≡ Some bound ∷ []) × MaySave t)
  pub none_below : NoneBelow nonce (values_after t pair)
  pub others : SameOthers t pair

-- a load failed
pub record LoadFails (t : Context) (fault : StoreFault) : Type 0 where
  pub same : Same t
  pub cause : HasCause t fault
  pub may : fault ≢ faults.OutOfMemory → MayFailLoad t

-- a save of a number for a pair failed, and it is open whether it is kept; not where memory ran out. An obedient store
-- keeps it then
pub record SaveFails (t : Context) (pair : Pair) (nonce : ℕ) (fault : StoreFault) : Type 0 where
  pub here : InDoubt (values t pair) (values_after t pair) nonce
  pub others : SameOthers t pair
  pub memory : fault ≡ faults.OutOfMemory → Same t
  pub sound : fault ≢ faults.Damaged
  pub cause : HasCause t fault
  pub may : fault ≢ faults.OutOfMemory → MayFailSave t
  pub doubted : fault ≢ faults.OutOfMemory → IsTrue t.before.is_obedient
      → values_after t pair ≡ with_value (values t pair) nonce

-- a restart leaves some value of each pair, and adds none
abbrev pub Restarts : Context → Type 0
Restarts t = (pair : Pair) → Narrows (values t pair) (values_after t pair)

-- of an obedient store it leaves the value at a place, or the last
abbrev pub Picks : Context → ℕ → Type 0
Picks t pick = IsTrue t.before.is_obedient → (pair : Pair) → values_after t pair ≡ picked (values t pair) pick ∷ []

-- no node acts
pub record IsAtNoNode (t : Context) : Type 0 where
  pub server : is_server t.opening.config t.node ≡ false
  pub router : is_router t.opening.config t.node ≡ false
  pub same : t.after ≡ t.before

-- the number that a nonce counts from, or has to be above: the last one, or where there is none a value
-- that is kept
abbrev pub IsBase : Option ℕ → List (Option ℕ) → Option ℕ → Type 0
IsBase (Some last) kept base = base ≡ Some last
IsBase None kept base = Contains kept base
