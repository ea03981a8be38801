-- What the routers of a site may register, beyond its prefixes. Each limit is off where it isn't given.
use Rattle.std.specs.Prelude.{ℕ, Bool, true, not, ◌&&◌, ◌||◌, ◌==◌, nat_le, List, [], length, Option, Some, None}
use Rattle.std.specs.List.{list_any}
use Rattle.std.specs.Str.{bytes_eq}
use Rattle.lisp_records.specs.declared.address.Addr.{Addr}
use Rattle.lisp_policy.specs.declared.full.Full.{Full}
use Rattle.lisp_policy.specs.declared.full.Full.TheVariants.{Routers, Rows}
use Rattle.lisp_records.specs.Address.{PrefixValue, holds}

-- the xTR-IDs of the routers, the addresses that their Map-Registers come from, the TTLs of their records, how far their
-- nonces may rise at once, and how many routers with live rows, and live rows, the site may have
pub record LimitsValue : Type 0 where
  pub routers : List (List ℕ)
  pub from : List PrefixValue
  pub least_ttl : Option ℕ
  pub most_ttl : Option ℕ
  pub most_jump : Option ℕ
  pub most_routers : Option ℕ
  pub most_rows : Option ℕ

abbrev pub no_limits : LimitsValue
no_limits = record { routers = []; from = []; least_ttl = None; most_ttl = None; most_jump = None; most_routers = None; most_rows = None }

-- any router may register where none is listed
abbrev pub lists_router : List (List ℕ) → List ℕ → Bool
lists_router routers xtr = list_any (λ x. bytes_eq x xtr) routers

abbrev pub lets_router : LimitsValue → List ℕ → Bool
lets_router limits xtr = (length limits.routers == 0) || lists_router limits.routers xtr

-- from any address where no prefix is listed
abbrev pub lists_source : List PrefixValue → Addr → Bool
lists_source prefixes from = list_any (λ p. holds p from) prefixes

abbrev pub lets_source : LimitsValue → Addr → Bool
lets_source limits from = (length limits.from == 0) || lists_source limits.from from

-- a record lives for its TTL where bit T is set, unless it withdraws (0), or leaves its life to the Map-Server (0xffffffff)
abbrev pub lives_by_ttl : Bool → ℕ → Bool
lives_by_ttl use_ttl ttl = use_ttl && not (ttl == 0) && not (ttl == 0xffffffff)

abbrev pub is_at_least : Option ℕ → ℕ → Bool
is_at_least None n = true
is_at_least (Some least) n = nat_le least n

abbrev pub is_at_most : Option ℕ → ℕ → Bool
is_at_most None n = true
is_at_most (Some most) n = nat_le n most

-- such a TTL is within both bounds
abbrev pub lets_ttl : LimitsValue → Bool → ℕ → Bool
lets_ttl limits use_ttl ttl = not (lives_by_ttl use_ttl ttl) || (is_at_least limits.least_ttl ttl && is_at_most limits.most_ttl ttl)

-- the numbers of the limits on what is held
abbrev pub full_number : Full → ℕ
full_number Routers = 139
full_number Rows = 140
