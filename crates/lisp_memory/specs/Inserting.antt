-- How many keys an insertion leaves.
use Rattle.std.specs.Prelude.{◌≡◌, ◌+◌, Bool, Option, is_some, if◌then◌else◌}
use Rattle.std.specs.BTreeMap.{BTreeMap, btree_map_len}
use Rattle.std.specs.BTreeSet.{BTreeSet, btree_set_len}

-- a map has one key more, unless the key had a value before
abbrev pub MapGainsKey : {K X : Type 0} → BTreeMap K X → BTreeMap K X → Option X → Type 0
MapGainsKey old new value_before = btree_map_len new ≡ btree_map_len old + (if is_some value_before then 0 else 1)

-- a set has one key more where the key is new
abbrev pub SetGainsKey : {K : Type 0} → BTreeSet K → BTreeSet K → Bool → Type 0
SetGainsKey old new is_new = btree_set_len new ≡ btree_set_len old + (if is_new then 1 else 0)
