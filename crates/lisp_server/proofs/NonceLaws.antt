-- Looking up and setting last nonces.
use Rattle.std.proofs.Common.{◌≡◌, ◌≢◌, ℕ, Bool, true, false, cond, List, [], ◌∷◌, length, slice_set, slice_index_or, map, Option, Some, None, Result, IfOk, IfErr, refl, sym, ap, ◌∙◌, subst}
use Rattle.std.specs.Bool.{Decides}
use Rattle.std.specs.Cmp.{eq_by_cmp_equiv}
use Rattle.std.specs.FinMap.{get-from_entries, find as map_find}
use Rattle.std.specs.List.{find, position, insert}
use Rattle.std.specs.List.Sorted.{IsStrictlySortedBy, IsSearchInRange, IsBinarySearchResult}
use Rattle.std.specs.Option.{option_map, option_or}
use Rattle.std.specs.Ordering.{eq_by_cmp}
use Rattle.std.specs.Cmp.{Equal-is}
use Rattle.lisp_nonces.proofs.Pairs.{pair_total, same_pair}
use Rattle.lisp_nonces.specs.declared.pair.Pair.{Pair}
use Rattle.lisp_nonces.specs.Pair.{pair_cmp}
use Rattle.lisp_nonces.specs.contracts.pair.PairOrd.TheImpl.{ghosts as derived}
use Rattle.lisp_nonces.specs.declared.pair.PairKind.{PairKind}
use Rattle.lisp_nonces.specs.declared.pair.PairKind.TheVariants.{Sent, Received, Notice}
use Rattle.lisp_records.specs.declared.router.RouterId.{RouterId}
use Rattle.std.specs.declared.cmp.Ordering.{Ordering}
use Rattle.lisp_server.specs.declared.last_nonces.LastNonce.{LastNonce}
use Rattle.lisp_server.specs.LastNonces.{nonce_at, nonces_of, is_of, SetsNonce}
use Rattle.lisp_policy.specs.Order.{KeysRise, IsGap}
use Rattle.lisp_policy.proofs.Halving as halving
use Rattle.lisp_policy.proofs.Found.{nowhere, there, at_place, put_set, has_own, has_no_other}

find_in_map : (q : Pair) (es : List LastNonce) → map_find pair_cmp q (map (λ e. (e.pair, e.nonce)) es) ≡ option_map (λ e. e.nonce) (find (is_of q) es)
find_in_map q [] = refl
find_in_map q (x ∷ xs) = alike (is_of q x) x xs (find_in_map q xs)
  where
    alike : (b : Bool) (x : LastNonce) (xs : List LastNonce) → map_find pair_cmp q (map (λ e. (e.pair, e.nonce)) xs) ≡ option_map (λ e. e.nonce) (find (is_of q) xs) → cond b (Some x.nonce) (map_find pair_cmp q (map (λ e. (e.pair, e.nonce)) xs)) ≡ option_map (λ e. e.nonce) (cond b (Some x) (find (is_of q) xs))
    alike true x xs rest = refl
    alike false x xs rest = rest

-- the nonces that entries make
pub looked_up : (es : List LastNonce) (q : Pair) → nonce_at (nonces_of es) q ≡ option_map (λ e. e.nonce) (find (is_of q) es)
unfolding nonce_at nonces_of
looked_up es q = get-from_entries pair_total (map (λ e. (e.pair, e.nonce)) es) q ∙ find_in_map q es

pub nonce_found : (es : List LastNonce) (q : Pair) (i : ℕ) (d : LastNonce) → position (is_of q) es ≡ Some i → nonce_at (nonces_of es) q ≡ Some (slice_index_or es i d).nonce
nonce_found es q i d at = looked_up es q ∙ ap (option_map (λ e. e.nonce)) (at_place (is_of q) es i d at)

decides : (q : Pair) (e : LastNonce) → Decides (is_of q e) (e.pair ≡ q)
decides q e = (λ t. sym (same_pair q e.pair ((Equal-is (pair_cmp q e.pair)).0 t)), λ same. ap (λ (p : Pair). eq_by_cmp pair_cmp q p) same ∙ (eq_by_cmp_equiv pair_total).refl q)

set_by : (old new : List LastNonce) (y : LastNonce) → ((q : Pair) → find (is_of q) new ≡ option_or (cond (is_of q y) (Some y) None) (find (is_of q) old)) → SetsNonce (nonces_of old) (nonces_of new) y.pair y.nonce
set_by old new y put = record {
  here = looked_up new y.pair ∙ ap (option_map (λ e. e.nonce)) (put y.pair ∙ ap (λ (b : Bool). option_or (cond b (Some y) None) (find (is_of y.pair) old)) (has_own (λ e. e.pair) is_of decides y));
  others = λ q differ. looked_up new q ∙ ap (option_map (λ e. e.nonce)) (put q ∙ ap (λ (b : Bool). option_or (cond b (Some y) None) (find (is_of q) old)) (has_no_other (λ e. e.pair) is_of decides q y differ)) ∙ sym (looked_up old q);
}

pub nonce_set : (es : List LastNonce) (i : ℕ) (y : LastNonce) → position (is_of y.pair) es ≡ Some i → SetsNonce (nonces_of es) (nonces_of (slice_set es i y)) y.pair y.nonce
nonce_set es i y at = set_by es (slice_set es i y) y (put_set (λ e. e.pair) is_of decides es i y at)

unmapped : {X Y : Type 0} (f : X → Y) (o : Option X) → option_map f o ≡ None → o ≡ None
unmapped f None none = refl
unmapped f (Some x) none = absurd cc

kinds_order : (k l : PairKind) (q r : RouterId) (m n : ℕ) → derived.cmp (record { kind = k; router = q; key = m }) (record { kind = l; router = r; key = n }) ≡ pair_cmp (record { kind = k; router = q; key = m }) (record { kind = l; router = r; key = n })
kinds_order Sent Sent q r m n = refl
kinds_order Sent Received q r m n = refl
kinds_order Sent Notice q r m n = refl
kinds_order Received Sent q r m n = refl
kinds_order Received Received q r m n = refl
kinds_order Received Notice q r m n = refl
kinds_order Notice Sent q r m n = refl
kinds_order Notice Received q r m n = refl
kinds_order Notice Notice q r m n = refl

derived_order : (p q : Pair) → derived.cmp p q ≡ pair_cmp p q
derived_order p q = kinds_order p.kind q.kind p.router q.router p.key q.key

-- what halving finds among entries
pub searched : (es : List LastNonce) (q : Pair) (r : Result ℕ ℕ) → KeysRise (λ e. e.pair) pair_cmp es → IsSearchInRange r (length es) → IsBinarySearchResult (λ e. derived.cmp e.pair q) es r → record { found : IfOk r (λ i. position (is_of q) es ≡ Some i); gap : IfErr r (IsGap (λ e. e.pair) pair_cmp es q) }
searched es q r rise within is = halving.searched (λ e. e.pair) pair_cmp pair_total same_pair is_of decides es q r rise within (subst (λ (order : LastNonce → Ordering). IsBinarySearchResult order es r) (λ i e. derived_order e.pair q i) is)

gap_nowhere : (es : List LastNonce) (q : Pair) (i : ℕ) → IsGap (λ e. e.pair) pair_cmp es q i → position (is_of q) es ≡ None
gap_nowhere es q i gap = halving.gap_nowhere (λ e. e.pair) pair_cmp pair_total same_pair is_of decides es q i gap

pub nonce_inserted : (es : List LastNonce) (i : ℕ) (y : LastNonce) → IsGap (λ e. e.pair) pair_cmp es y.pair i → SetsNonce (nonces_of es) (nonces_of (insert es i y)) y.pair y.nonce
nonce_inserted es i y gap = set_by es (insert es i y) y (halving.put_insert (λ e. e.pair) pair_cmp pair_total same_pair is_of decides es i y (gap_nowhere es y.pair i gap))

pub no_nonces : KeysRise {X = LastNonce} (λ e. e.pair) pair_cmp []
unfolding IsStrictlySortedBy
no_nonces = tt

pub rises_set : (es : List LastNonce) (i : ℕ) (y : LastNonce) → position (is_of y.pair) es ≡ Some i → KeysRise (λ e. e.pair) pair_cmp es → KeysRise (λ e. e.pair) pair_cmp (slice_set es i y)
rises_set es i y at rise = halving.rises_set (λ e. e.pair) pair_cmp pair_total same_pair is_of decides es i y at rise

pub rises_insert : (es : List LastNonce) (i : ℕ) (y : LastNonce) → KeysRise (λ e. e.pair) pair_cmp es → IsGap (λ e. e.pair) pair_cmp es y.pair i → KeysRise (λ e. e.pair) pair_cmp (insert es i y)
rises_insert es i y rise gap = halving.rises_insert (λ e. e.pair) pair_cmp pair_total same_pair is_of decides es i y rise gap

pub nonce_gap : (es : List LastNonce) (q : Pair) (i : ℕ) → IsGap (λ e. e.pair) pair_cmp es q i → nonce_at (nonces_of es) q ≡ None
nonce_gap es q i gap = looked_up es q ∙ ap (option_map (λ e. e.nonce)) (nowhere (is_of q) es (gap_nowhere es q i gap))

pub nonce_there : (es : List LastNonce) (q : Pair) (i : ℕ) → position (is_of q) es ≡ Some i → nonce_at (nonces_of es) q ≢ None
nonce_there es q i at none = there (is_of q) es i at (unmapped (λ e. e.nonce) (find (is_of q) es) (sym (looked_up es q) ∙ none))
