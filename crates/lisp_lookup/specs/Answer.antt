-- Answer: who answers for an address (RFC 9301 section 8.3).
use Rattle.std.specs.Prelude.{◌≡◌, ◌≢◌, ℕ, Bool, ◌&&◌, true, false, if◌then◌else◌, List, Option, Some, None}
use Rattle.std.specs.List.{Contains, filter}
use Rattle.std.specs.declared.cmp.Ordering.{Ordering}
use Rattle.std.specs.declared.cmp.Ordering.TheVariants.{Greater}
use Rattle.std.specs.Ordering.{nat_cmp, bool_cmp, ordering_then, is_lt}
use Rattle.lisp_records.specs.declared.address.Addr.{Addr}
use Rattle.lisp_records.specs.Address.{PrefixValue, prefix_eq, holds}
use Rattle.lisp_records.specs.Router.{router_cmp}
use Rattle.lisp_records.specs.Row.{RowValue, is_alive}
use Rattle.lisp_policy.specs.Site.{SiteValue, is_configured}
use Rattle.lisp_lookup.specs.declared.answer.Answer.{Answer}
use Rattle.lisp_lookup.specs.declared.answer.Answer.TheVariants.{NoSite, NotRegistered, Reply, Forward}

-- a row that may answer for an address: it is alive, and its prefix has the address
abbrev pub may_answer : Addr → ℕ → RowValue → Bool
may_answer addr now h = is_alive h now && holds h.mapping.eid addr

-- the order of rows: the longer prefix is the greater, then one whose router asks for proxy replies, then
-- the one that was accepted later, then the one of the greater router
abbrev pub rank_cmp : RowValue → RowValue → Ordering
rank_cmp a b = ordering_then (ordering_then (ordering_then (nat_cmp a.mapping.eid.mask_len b.mapping.eid.mask_len) (bool_cmp a.proxy b.proxy)) (nat_cmp a.accepted b.accepted)) (router_cmp a.router b.router)

-- the greater of two rows, where there is a first one
abbrev pub greater : Option RowValue → RowValue → RowValue
greater None other = other
greater (Some one) other = if is_lt (rank_cmp one other) then other else one

-- the row is the greatest of those that may answer
pub record IsBest (rows : List RowValue) (addr : Addr) (now : ℕ) (h : RowValue) : Type 0 where
  pub held : Contains rows h
  pub may : may_answer addr now h ≡ true
  pub most : (other : RowValue) → Contains rows other → may_answer addr now other ≡ true → rank_cmp other h ≢ Greater

-- no row may answer
abbrev pub NoneAnswers : List RowValue → Addr → ℕ → Type 0
NoneAnswers rows addr now = (h : RowValue) → Contains rows h → may_answer addr now h ≡ false

abbrev pub IsBestOf : List RowValue → Addr → ℕ → Option RowValue → Type 0
IsBestOf rows addr now (Some h) = IsBest rows addr now h
IsBestOf rows addr now None = NoneAnswers rows addr now

-- the same, of the rows of one prefix
abbrev pub IsBestOfPrefix : List RowValue → PrefixValue → Addr → ℕ → Option RowValue → Type 0
IsBestOfPrefix rows eid addr now best = IsBestOf (filter (λ h. prefix_eq h.mapping.eid eid) rows) addr now best

-- the best row replies where its router asked for proxy replies, and else the request goes to the source
-- of its Map-Register; if none may answer, whether a site has the address
abbrev pub Answers : {A : Type 0} → List RowValue → List SiteValue → Addr → ℕ → Answer A → Type 0
Answers rows sites addr now (Reply record_of) = (h : RowValue) × IsBest rows addr now h × (h.proxy ≡ true) × (record_of.now ≡ h.mapping)
Answers rows sites addr now (Forward to) = (h : RowValue) × IsBest rows addr now h × (h.proxy ≡ false) × (to ≡ h.from)
Answers rows sites addr now NotRegistered = NoneAnswers rows addr now × (is_configured sites addr ≡ true)
Answers rows sites addr now NoSite = NoneAnswers rows addr now × (is_configured sites addr ≡ false)
