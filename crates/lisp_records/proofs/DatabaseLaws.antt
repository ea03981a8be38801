-- What a database is, apart from the order of its records: EID-Prefixes that do not occur again later are
-- those of which each two differ; and another order of the records keeps their count and their size.
use Rattle.std.proofs.Common.{◌≡◌, ◌≢◌, false, List, [], ◌∷◌, length, map, IsPermutation, refl, ap}
use Rattle.std.specs.Prelude.{◌↔◌}
use Rattle.std.specs.Bool.{Decides}
use Rattle.std.specs.List.{AllByRecursion, AllPairs, IsDistinct}
use Rattle.std.proofs.lemmas.Bool.{or_from, or_parts}
use Rattle.std.proofs.lemmas.Bool.Decides.{Decides-eqb, Decides-and}
use Rattle.std.proofs.lemmas.List.Sorted.{length_permutation, sum_by-IsPermutation}
use Rattle.std.proofs.lemmas.Slice.Eq.{bytes_eq-Decides}
use Rattle.std.proofs.lemmas.Map.Made.{AllPairs-from_IsDistinct, IsDistinct-from_AllPairs}
use Rattle.lisp_records.specs.declared.address.Addr.{Addr}
use Rattle.lisp_records.specs.declared.address.Addr.TheVariants.{V4, V6}
use Rattle.lisp_records.specs.Address.{PrefixValue, addr_eq, prefix_eq}
use Rattle.lisp_records.specs.Record.{MapRecordValue}
use Rattle.lisp_records.specs.Written.{written}
use Rattle.lisp_records.specs.Database.{has_prefix, repeats}
use Rattle.lisp_records.specs.Parts.{size, fits_message}

-- the test of addresses decides whether they are equal
addr_eq-Decides : (a b : Addr) → Decides (addr_eq a b) (a ≡ b)
addr_eq-Decides (V4 a) (V4 b) = (λ t. ap V4 ((bytes_eq-Decides a b).0 t), λ e. (bytes_eq-Decides a b).1 cc)
addr_eq-Decides (V6 a) (V6 b) = (λ t. ap V6 ((bytes_eq-Decides a b).0 t), λ e. (bytes_eq-Decides a b).1 cc)
addr_eq-Decides _ _ = (λ t. absurd cc, λ e. absurd cc)

-- the test of blocks decides whether they are equal
pub block_eq-Decides : (a b : PrefixValue) → Decides (prefix_eq a b) (a ≡ b)
block_eq-Decides a b =
    let both = Decides-and _ _ (addr_eq-Decides a.addr b.addr) (Decides-eqb a.mask_len b.mask_len) in
    (λ t. (let e = both.0 t in λ i. record { addr = e.0 i; mask_len = e.1 i }), λ e. both.1 (ap (λ (x : PrefixValue). x.addr) e, ap (λ (x : PrefixValue). x.mask_len) e))

-- no record is of a prefix that differs from all of theirs
apart : (eid : PrefixValue) (ms : List MapRecordValue) → has_prefix eid ms ≡ false → AllByRecursion (λ b. prefix_eq eid b ≡ false) (map (λ m. m.eid) ms)
apart eid [] none = tt
apart eid (m ∷ ms) none = (let n = or_parts (prefix_eq eid m.eid) (has_prefix eid ms) none in (n.0, apart eid ms n.1))

-- the converse
from_apart : (eid : PrefixValue) (ms : List MapRecordValue) → AllByRecursion (λ b. prefix_eq eid b ≡ false) (map (λ m. m.eid) ms) → has_prefix eid ms ≡ false
from_apart eid [] all = refl
from_apart eid (m ∷ ms) all = or_from (prefix_eq eid m.eid) (has_prefix eid ms) all.0 (from_apart eid ms all.1)

-- no prefix is repeated: each differs from the later ones
distinct : (ms : List MapRecordValue) → repeats ms ≡ false → IsDistinct prefix_eq (map (λ m. m.eid) ms)
unfolding repeats IsDistinct
distinct [] none = tt
distinct (m ∷ ms) none = (let n = or_parts (has_prefix m.eid ms) (repeats ms) none in (apart m.eid ms n.0, distinct ms n.1))

-- the converse
from_distinct : (ms : List MapRecordValue) → IsDistinct prefix_eq (map (λ m. m.eid) ms) → repeats ms ≡ false
unfolding repeats IsDistinct
from_distinct [] all = refl
from_distinct (m ∷ ms) all = or_from (has_prefix m.eid ms) (repeats ms) (from_apart m.eid ms all.0) (from_distinct ms all.1)

-- no prefix is repeated exactly where each two differ
pub distinct_prefixes : (ms : List MapRecordValue) → (repeats ms ≡ false) ↔ AllPairs (λ a b. a ≢ b) (map (λ m. m.eid) ms)
distinct_prefixes ms = (λ none. AllPairs-from_IsDistinct block_eq-Decides (map (λ m. m.eid) ms) (distinct ms none), λ all. from_distinct ms (IsDistinct-from_AllPairs block_eq-Decides (map (λ m. m.eid) ms) all))

-- one message can carry the same records in another order, or none of both
pub any_order : (one other : List MapRecordValue) → IsPermutation one other → fits_message other ≡ fits_message one
any_order one other moved =
    let many : length other ≡ length one = length_permutation one other moved in
    let large : size other ≡ size one = sum_by-IsPermutation (λ m. length (written m)) one other moved in
    rw (many, large) refl
