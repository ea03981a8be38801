-- Who answers for a prefix: of the live rows whose prefix covers it the best (RFC 9301 section 8.3).
use Rattle.std.specs.Prelude.{◌≡◌, ◌≢◌, ◌↔◌, ℕ, Bool, ◌&&◌, true, false, List, Option, Some, None}
use Rattle.std.specs.List.{All, Contains}
use Rattle.std.specs.declared.cmp.Ordering.TheVariants.{Greater}
use Rattle.lisp_records.specs.declared.address.Addr.{Addr}
use Rattle.lisp_records.specs.Address.{PrefixValue, IsPrefix, IsWhole, covers, max_len, prefix_around}
use Rattle.lisp_records.specs.Row.{RowValue, is_alive}
use Rattle.lisp_lookup.specs.Answer.{rank_cmp, IsBestOf}

-- a row that may answer for a prefix: it is alive, and its prefix covers that one
abbrev pub may_answer_for : PrefixValue → ℕ → RowValue → Bool
may_answer_for asked now h = is_alive h now && covers h.mapping.eid asked

-- the row is the greatest of those that may answer for it, so one of the longest prefix
pub record IsBestFor (rows : List RowValue) (asked : PrefixValue) (now : ℕ) (h : RowValue) : Type 0 where
  pub held : Contains rows h
  pub may : may_answer_for asked now h ≡ true
  pub most : (other : RowValue) → Contains rows other → may_answer_for asked now other ≡ true → rank_cmp other h ≢ Greater

-- no row may answer for it
abbrev pub NoneAnswersFor : List RowValue → PrefixValue → ℕ → Type 0
NoneAnswersFor rows asked now = (h : RowValue) → Contains rows h → may_answer_for asked now h ≡ false

abbrev pub IsBestForOf : List RowValue → PrefixValue → ℕ → Option RowValue → Type 0
IsBestForOf rows asked now (Some h) = IsBestFor rows asked now h
IsBestForOf rows asked now None = NoneAnswersFor rows asked now

-- the prefix of one address
abbrev pub alone : Addr → PrefixValue
alone addr = prefix_around addr (max_len addr)

-- for it answers who answers for the address, of rows whose prefixes are blocks
abbrev pub AnswersAlike : List RowValue → Type 0
AnswersAlike rows = All (λ h. IsPrefix h.mapping.eid) rows → (addr : Addr) → IsWhole addr → (now : ℕ) (best : Option RowValue) → IsBestForOf rows (alone addr) now best ↔ IsBestOf rows addr now best
