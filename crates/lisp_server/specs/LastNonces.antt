-- The last nonce of each pair since a Map-Server's start, in memory (RFC 9301 section 5.6).
use Rattle.std.specs.Prelude.{◌≡◌, ◌≢◌, ◌<◌, ℕ, List, map, Bool, Option, Some, None}
use Rattle.std.specs.Coded.{Coded, coded_ℕ}
use Rattle.std.specs.FinMap.{FinMap, get, code, from_entries}
use Rattle.std.specs.Ordering.{eq_by_cmp}
use Rattle.lisp_nonces.specs.declared.pair.Pair.{Pair}
use Rattle.lisp_nonces.specs.Pair.{pair_cmp, pair_code}
use Rattle.lisp_server.specs.declared.last_nonces.LastNonce.{LastNonce}

abbrev pub Nonces : Type 0
Nonces = FinMap pair_cmp ℕ

abbrev pub nonces_code : Coded Nonces
nonces_code = code pair_code coded_ℕ

-- the last nonce of a pair, where there is one
unfoldable pub nonce_at : Nonces → Pair → Option ℕ
nonce_at nonces pair = get nonces pair

-- the nonce was set for the pair, and no other was touched
pub record SetsNonce (old new : Nonces) (pair : Pair) (nonce : ℕ) : Type 0 where
  pub here : nonce_at new pair ≡ Some nonce
  pub others : (other : Pair) → other ≢ pair → nonce_at new other ≡ nonce_at old other

-- the nonces, and how many more there is room for
pub record LastNoncesState : Type 0 where
  pub nonces : Nonces
  pub spare : ℕ

-- what entries make; the first entry of a pair counts
abbrev pub is_of : Pair → LastNonce → Bool
is_of pair entry = eq_by_cmp pair_cmp pair entry.pair

unfoldable pub nonces_of : List LastNonce → Nonces
nonces_of entries = from_entries (map (λ e. (e.pair, e.nonce)) entries)

-- there is room for the last nonce of a pair, or it has one
abbrev pub HasNonceRoom : LastNoncesState → Pair → Type 0
HasNonceRoom nonces pair = nonce_at nonces.nonces pair ≡ None → 0 < nonces.spare
