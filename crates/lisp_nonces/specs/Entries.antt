-- The entries of a store in memory, and the values that they hold for a pair.
use Rattle.std.specs.Prelude.{ℕ, ◌<◌, Bool, List, [], ◌∷◌, length, map, Option}
use Rattle.std.specs.FinMap.{from_entries}
use Rattle.std.specs.Ordering.{eq_by_cmp}
use Rattle.lisp_nonces.specs.declared.pair.Pair.{Pair}
use Rattle.lisp_nonces.specs.Pair.{pair_cmp}
use Rattle.lisp_nonces.specs.Kept.{Kept, SameElsewhere, picked}

pub record EntryValue : Type 0 where
  pub pair : Pair
  pub values : List (Option ℕ)

abbrev pub is_of : Pair → EntryValue → Bool
is_of q e = eq_by_cmp pair_cmp q e.pair

-- the lists that entries make; the first entry of a pair counts
unfoldable pub kept_of : List EntryValue → Kept
kept_of es = from_entries (map (λ e. (e.pair, e.values)) es)

-- of the values the one at a place is left, or the last
abbrev pub narrowed : ℕ → EntryValue → EntryValue
narrowed pick e = record { pair = e.pair; values = picked e.values pick ∷ [] }

abbrev pub HasValues : EntryValue → Type 0
HasValues e = 0 < length e.values

-- the entries keep for every other pair what they kept
abbrev pub KeepsOtherEntries : List EntryValue → List EntryValue → Pair → Type 0
KeepsOtherEntries old new pair = SameElsewhere (kept_of old) (kept_of new) pair
