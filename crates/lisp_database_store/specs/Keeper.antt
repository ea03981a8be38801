-- What contracts see of what keeps a store's nonces.
use Rattle.std.specs.Prelude.{ℕ, Bool, false, IsTrue}
use Rattle.std.specs.FinMap.{empty}
use mathlib.Core.Bool.{true≢false}
use mathlib.Core.Path.{sym}
use Rattle.lisp_nonces.specs.declared.fate.Fate.TheVariants.{Done}
use Rattle.lisp_nonces.specs.Kept.{Kept, KeepsSome}
use Rattle.lisp_nonces.specs.Store.{StoreState}

-- for each pair the values that a load may still answer, and whether that is said of the keeper
pub record KeeperState : Type 0 where
  pub kept : Kept
  pub is_honest : Bool

-- a keeper of which nothing is said
abbrev pub any_keeper : KeeperState
any_keeper = record { kept = empty; is_honest = false }

pub any_keeper_keeps : IsTrue any_keeper.is_honest → KeepsSome any_keeper.kept
any_keeper_keeps honest = absurd (true≢false (sym honest))

-- a store over a keeper, with a count of faults: it is honest if the keeper is, and called neither quiet nor obedient
abbrev pub store_over : KeeperState → ℕ → StoreState
store_over keeper faults = record { kept = keeper.kept; faults = faults; is_honest = keeper.is_honest; is_quiet = false; is_obedient = false; fate = Done }

-- a store in a database that is shared, as it begins
abbrev pub shared_store : StoreState
shared_store = store_over any_keeper 0
