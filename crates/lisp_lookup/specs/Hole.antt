-- The prefix of a negative Map-Reply: the widest one around an address in which nobody is there (RFC 9301 section 8.4).
use Rattle.std.specs.Prelude.{◌≡◌, ◌↔◌, ℕ, ◌<◌, ◌≤◌, Bool, true, false, List, Option, Some, None}
use Rattle.std.specs.List.{All, Contains}
use Rattle.lisp_records.specs.declared.address.Addr.{Addr}
use Rattle.lisp_records.specs.Address.{PrefixValue, covers, holds, max_len, prefix_around}
use Rattle.lisp_records.specs.Row.{RowValue, is_alive}
use Rattle.lisp_policy.specs.Site.{SiteValue, is_configured}
use Rattle.lisp_lookup.specs.Answer.{may_answer}

-- no live row's prefix lies in it
abbrev pub IsEmptyIn : List RowValue → PrefixValue → ℕ → Type 0
IsEmptyIn rows eid now = (h : RowValue) → Contains rows h → is_alive h now ≡ true → covers eid h.mapping.eid ≡ false

-- a prefix beside one of a site: it doesn't leave that one where the address is in it, and where the address is in none of any site
-- that one doesn't lie in it
abbrev pub KeepsBeside : PrefixValue → Addr → Bool → PrefixValue → Type 0
KeepsBeside of_site addr configured eid = (holds of_site addr ≡ true → covers of_site eid ≡ true) × (configured ≡ false → covers eid of_site ≡ false)

-- it does so beside each prefix of each site
abbrev pub KeepsSites : List SiteValue → Addr → PrefixValue → Type 0
KeepsSites sites addr eid = All (λ site. All (λ p. KeepsBeside p.eid addr (is_configured sites addr) eid) site.prefixes) sites

-- all of the prefix is as the address in it: no live row's prefix lies in it or over it, and by the sites it is one case
pub record IsAlike (rows : List RowValue) (sites : List SiteValue) (addr : Addr) (now : ℕ) (eid : PrefixValue) : Type 0 where
  pub empty : IsEmptyIn rows eid now
  pub bare : (h : RowValue) → Contains rows h → is_alive h now ≡ true → covers h.mapping.eid eid ≡ false
  pub keeps : KeepsSites sites addr eid

-- the widest prefix around the address that is so
pub record IsHole (rows : List RowValue) (sites : List SiteValue) (addr : Addr) (now : ℕ) (eid : PrefixValue) : Type 0 where
  pub around : (eid.mask_len ≤ max_len addr) × (eid ≡ prefix_around addr eid.mask_len)
  pub alike : IsAlike rows sites addr now eid
  pub widest : (wider : ℕ) → wider < eid.mask_len → IsAlike rows sites addr now (prefix_around addr wider) → ⊥

-- there is one where no live row has the address
abbrev pub IsHoleOf : List RowValue → List SiteValue → Addr → ℕ → Option PrefixValue → Type 0
IsHoleOf rows sites addr now (Some eid) = IsHole rows sites addr now eid
IsHoleOf rows sites addr now None = (h : RowValue) × Contains rows h × (may_answer addr now h ≡ true)

-- of the prefixes around an address those of this length and longer ones are so, and no wider one
abbrev pub IsWidest : (PrefixValue → Type 0) → Addr → ℕ → Type 0
IsWidest Fits addr widest = (n : ℕ) → n ≤ max_len addr → Fits (prefix_around addr n) ↔ (widest ≤ n)
