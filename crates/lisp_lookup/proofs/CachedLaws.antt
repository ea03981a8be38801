-- What an ITR that keeps a reply says of an address.
use Rattle.std.proofs.Common.{◌≡◌, ◌≢◌, ◌⊎◌, inl, inr, ℕ, zero, suc, ◌<◌, ◌≤◌, Bool, true, false, nat_le, List, ◌∷◌, length, map, slice_index_or, refl, sym, ap, ◌∙◌, subst, true≢false, arith}
use Rattle.std.proofs.lemmas.Bool.{and_from, and_parts, cases_lt, cases_order}
use Rattle.std.proofs.lemmas.List.{get_or-map, get_or_default, length-map}
use Rattle.std.proofs.lemmas.List.Elements.{All-contains}
use Rattle.std.proofs.lemmas.List.Folds.{Any-from_list_any, list_any-from_Any}
use Rattle.std.specs.List.{All, Any, Contains}
use Rattle.std.specs.declared.cmp.Ordering.TheVariants.{Greater}
use Rattle.lisp_records.specs.declared.address.Addr.{Addr}
use Rattle.lisp_records.specs.Address.{PrefixValue, cleared, covers, holds}
use Rattle.lisp_records.specs.Record.{MapRecordValue}
use Rattle.lisp_records.specs.Row.{RowValue, is_alive}
use Rattle.lisp_policy.specs.Site.{SiteValue, has_address, is_configured}
use Rattle.lisp_policy.specs.declared.site.SitePrefix.{SitePrefix}
use Rattle.lisp_policy.proofs.Found.{not_true}
use Rattle.lisp_lookup.specs.Answer.{may_answer, rank_cmp, NoneAnswers}
use Rattle.lisp_lookup.specs.Covering.{IsBestFor}
use Rattle.lisp_lookup.specs.Hole.{IsHole, KeepsBeside}
use Rattle.lisp_lookup.specs.Inside.{is_inside, IsBestOfOwn, AreInside}
use Rattle.lisp_lookup.specs.Replies.{record_of, IsNarrowed, IsLongest, IsAnswered, CachedIsAnswered, HoleIsAnswered}
use Rattle.lisp_lookup.proofs.Apart.{on_either}
use Rattle.lisp_lookup.proofs.BestLaws.{its_block, shorter_below}
use Rattle.lisp_lookup.proofs.Blocks.{covers_is, holds_is, inside_is}
pub use Rattle.lisp_lookup.proofs.Blocks.{covers_through, has_wider, nested}

-- ---- the records

its_ttl : (ttl : ℕ) (eid : PrefixValue) (h : RowValue) → (record_of ttl eid h).ttl ≡ ttl
its_ttl ttl eid h = grind arith

pub its_eid : (ttl : ℕ) (eid : PrefixValue) (h : RowValue) → (record_of ttl eid h).eid ≡ eid
its_eid ttl eid h = grind arith

-- a record of a row is that of the row for its TTL and prefix
its_record : (ttl : ℕ) (eid : PrefixValue) (h : RowValue) (r : MapRecordValue) → record_of ttl eid h ≡ r → r ≡ record_of r.ttl r.eid h
its_record ttl eid h r is =
    let of_ttl = sym (its_ttl ttl eid h) ∙ ap (λ (m : MapRecordValue). m.ttl) is in
    let of_eid = sym (its_eid ttl eid h) ∙ ap (λ (m : MapRecordValue). m.eid) is in
    sym is ∙ ap (λ (n : ℕ). record_of n eid h) of_ttl ∙ ap (λ (b : PrefixValue). record_of r.ttl b h) of_eid

module _ (rows : List RowValue) (asked : PrefixValue) (now : ℕ) (best : RowValue) (eid : PrefixValue) (inside : List RowValue) (ttl : ℕ) (is_best : IsBestFor rows asked now best) (narrowed : IsNarrowed asked best eid) (are : AreInside rows eid now inside) where
  abbrev first : MapRecordValue
  first = record_of ttl eid best

  abbrev record_at : RowValue → MapRecordValue
  record_at h = record_of ttl h.mapping.eid h

  abbrev all : List MapRecordValue
  all = first ∷ map record_at inside

  -- the row has the prefix, and that lies around the one asked for
  around_asked : covers eid asked ≡ true
  around_asked = (covers_is eid asked).1 (narrowed.to, sym (ap (λ (b : PrefixValue). b.addr) narrowed.around))

  has_asked : holds eid asked.addr ≡ true
  has_asked = (and_parts (nat_le eid.mask_len asked.mask_len) (holds eid asked.addr) around_asked).1

  best_covers : covers best.mapping.eid eid ≡ true
  best_covers =
      let covered = (and_parts (is_alive best now) (covers best.mapping.eid asked) is_best.may).1 in
      nested best.mapping.eid eid asked.addr (and_parts (nat_le best.mapping.eid.mask_len asked.mask_len) (holds best.mapping.eid asked.addr) covered).1 has_asked narrowed.from

  module _ (addr : Addr) (has : holds eid addr ≡ true) (r : MapRecordValue) (longest : IsLongest all addr r) where
    -- a live row of a longer prefix that has the address has no longer one than the record
    inside_shorter : (h : RowValue) → Contains rows h → may_answer addr now h ≡ true → eid.mask_len < h.mapping.eid.mask_len → h.mapping.eid.mask_len ≤ r.eid.mask_len
    inside_shorter h held may long =
        let parts = and_parts (is_alive h now) (holds h.mapping.eid addr) may in
        let inner = (covers_is eid h.mapping.eid).0 (nested eid h.mapping.eid addr has parts.1 (omega (arith, long))) in
        own (are.all h held (and_from (is_alive h now) (is_inside eid h.mapping.eid) parts.0 ((inside_is eid h.mapping.eid).1 (inner, long)))) parts.1
      where
        inner_length : (k : ℕ) → k < length inside → suc k < length all
        inner_length k lt =
            let long : length (map record_at inside) ≡ length inside = length-map inside record_at in
            omega (arith, lt, long)

        own : (own : RowValue) × Contains inside own × (own.mapping.eid ≡ h.mapping.eid) → holds h.mapping.eid addr ≡ true → h.mapping.eid.mask_len ≤ r.eid.mask_len
        own (o, (k, lt, at), same) its =
            let own_eid : (record_at o).eid ≡ h.mapping.eid = its_eid ttl o.mapping.eid o ∙ same in
            let there : Contains all (record_at o) = (suc k, inner_length k lt, get_or-map record_at inside k o (record_at o) lt ∙ ap record_at at) in
            let low = longest.longest (record_at o) there (ap (λ (b : PrefixValue). holds b addr) own_eid ∙ its) in
            omega (arith, low, ap (λ (b : PrefixValue). b.mask_len) own_eid)

    -- the first record
    of_first : first ≡ r → IsAnswered rows addr now r
    of_first is = (best, record { held = is_best.held; may = may_best; most = λ other held may. either other held may (cases_lt eid.mask_len other.mapping.eid.mask_len) }, its_record ttl eid best r is)
      where
        may_best : may_answer addr now best ≡ true
        may_best = and_from (is_alive best now) (holds best.mapping.eid addr) (and_parts (is_alive best now) (covers best.mapping.eid asked) is_best.may).0 (has_wider best.mapping.eid eid addr best_covers has)

        either : (other : RowValue) → Contains rows other → may_answer addr now other ≡ true → (eid.mask_len < other.mapping.eid.mask_len) ⊎ (other.mapping.eid.mask_len ≤ eid.mask_len) → rank_cmp other best ≢ Greater
        either other held may (inl long) = absurd (omega (arith, long, inside_shorter other held may long, ap (λ (b : PrefixValue). b.mask_len) (sym (ap (λ (m : MapRecordValue). m.eid) is) ∙ its_eid ttl eid best)))
        either other held may (inr short) =
            let parts = and_parts (is_alive other now) (holds other.mapping.eid addr) may in
            let over = nested other.mapping.eid eid addr parts.1 has short in
            is_best.most other held (and_from (is_alive other now) (covers other.mapping.eid asked) parts.0 (covers_through other.mapping.eid eid asked over around_asked))

    -- one of a longer prefix inside
    of_inside : (h : RowValue) → Contains inside h → record_at h ≡ r → IsAnswered rows addr now r
    of_inside h there is = (h, record { held = own.0.held; may = may_own; most = λ other held may. either other held may (cases_order other.mapping.eid.mask_len h.mapping.eid.mask_len) }, its_record ttl h.mapping.eid h r is)
      where
        own : IsBestOfOwn rows now h × (is_inside eid h.mapping.eid ≡ true)
        own = are.best h there

        its : r.eid ≡ h.mapping.eid
        its = sym (ap (λ (m : MapRecordValue). m.eid) is) ∙ its_eid ttl h.mapping.eid h

        has_own : holds h.mapping.eid addr ≡ true
        has_own = ap (λ (b : PrefixValue). holds b addr) (sym its) ∙ longest.has

        may_own : may_answer addr now h ≡ true
        may_own = and_from (is_alive h now) (holds h.mapping.eid addr) own.0.alive has_own

        long : eid.mask_len < h.mapping.eid.mask_len
        long = ((inside_is eid h.mapping.eid).0 own.1).1

        same_block : (other : RowValue) → may_answer addr now other ≡ true → other.mapping.eid.mask_len ≡ h.mapping.eid.mask_len → other.mapping.eid ≡ h.mapping.eid
        same_block other may same = sym (its_block other addr now may) ∙ ap (λ (n : ℕ). record { addr = cleared addr n; mask_len = n }) same ∙ its_block h addr now may_own

        either : (other : RowValue) → Contains rows other → may_answer addr now other ≡ true → (other.mapping.eid.mask_len ≡ h.mapping.eid.mask_len) ⊎ ((other.mapping.eid.mask_len < h.mapping.eid.mask_len) ⊎ (h.mapping.eid.mask_len < other.mapping.eid.mask_len)) → rank_cmp other h ≢ Greater
        either other held may (inl same) = own.0.most other held (and_parts (is_alive other now) (holds other.mapping.eid addr) may).0 (same_block other may same)
        either other held may (inr (inl short)) = shorter_below other h short
        either other held may (inr (inr more)) = absurd (omega (arith, more, long, inside_shorter other held may (omega (arith, more, long)), ap (λ (b : PrefixValue). b.mask_len) its))

    of_kept : Contains all r → IsAnswered rows addr now r
    of_kept (zero, lt, at) = of_first at
    of_kept (suc k, lt, at) =
        let long : length (map record_at inside) ≡ length inside = length-map inside record_at in
        let within : k < length inside = omega (arith, lt, long) in
        let h = slice_index_or inside k best in
        of_inside h (k, within, get_or_default inside k h best within) (sym (get_or-map record_at inside k best r within) ∙ at)

pub cached_is_answered : (rows : List RowValue) → CachedIsAnswered rows
cached_is_answered rows asked now best eid records is_best narrowed are addr has r longest =
    let known = subst (λ (rs : List MapRecordValue). IsLongest rs addr r) are.is longest in
    of_kept rows asked now best eid are.inside are.ttl is_best narrowed are.are addr has r known known.kept

-- ---- the hole

alike : (one other : Bool) → (other ≡ true → one ≡ true) → (other ≡ false → one ≡ false) → one ≡ other
alike one true on_true on_false = on_true refl
alike one false on_true on_false = on_false refl

module _ (rows : List RowValue) (sites : List SiteValue) (asked : Addr) (now : ℕ) (eid : PrefixValue) (hole : IsHole rows sites asked now eid) (addr : Addr) (has : holds eid addr ≡ true) where
  asked_in : holds eid asked ≡ true
  asked_in = (holds_is eid asked).1 (sym (ap (λ (b : PrefixValue). b.addr) hole.around.1))

  -- no row
  none_there : NoneAnswers rows addr now
  none_there h held = not_true (may_answer addr now h) (λ may.
      (let parts = and_parts (is_alive h now) (holds h.mapping.eid addr) may in
      either h held parts.0 parts.1 (cases_lt eid.mask_len h.mapping.eid.mask_len)))
    where
      either : (h : RowValue) → Contains rows h → is_alive h now ≡ true → holds h.mapping.eid addr ≡ true → (eid.mask_len < h.mapping.eid.mask_len) ⊎ (h.mapping.eid.mask_len ≤ eid.mask_len) → ⊥
      either h held alive its (inl long) = true≢false (sym (nested eid h.mapping.eid addr has its (omega (arith, long))) ∙ hole.alike.empty h held alive)
      either h held alive its (inr short) = true≢false (sym (nested h.mapping.eid eid addr its has short) ∙ hole.alike.bare h held alive)

  abbrev Beside : SitePrefix → Type 0
  Beside p = KeepsBeside p.eid asked (is_configured sites asked) eid

  beside : (site : SiteValue) (p : SitePrefix) → Contains sites site → Contains site.prefixes p → Beside p
  beside site p there its = All-contains Beside site.prefixes p (All-contains (λ (s : SiteValue). All Beside s.prefixes) sites site hole.alike.keeps there) its

  -- a site that has the address that was asked for has the other
  site_has : is_configured sites asked ≡ true → is_configured sites addr ≡ true
  site_has known = list_any-from_Any (λ s. has_address s addr) sites (each (Any-from_list_any (λ s. has_address s asked) sites known))
    where
      its : (site : SiteValue) → Contains sites site → Any (λ p. holds p.eid asked ≡ true) site.prefixes → has_address site addr ≡ true
      its site there (j, p, lt, at, has_asked) = list_any-from_Any (λ p. holds p.eid addr) site.prefixes (j, p, lt, at, has_wider p.eid eid addr ((beside site p there (j, lt, at)).0 has_asked) has)

      each : Any (λ s. has_address s asked ≡ true) sites → Any (λ s. has_address s addr ≡ true) sites
      each (i, site, lt, at, some) = (i, site, lt, at, its site (i, lt, at) (Any-from_list_any (λ p. holds p.eid asked) site.prefixes some))

  -- where none has the one none has the other
  no_site_has : is_configured sites asked ≡ false → is_configured sites addr ≡ false
  no_site_has none = not_true (is_configured sites addr) (λ known. each (Any-from_list_any (λ s. has_address s addr) sites known))
    where
      of_site : (site : SiteValue) → Contains sites site → Any (λ p. holds p.eid addr ≡ true) site.prefixes → has_address site asked ≡ true
      of_site site there (j, p, lt, at, has_addr) = on_either (cases_lt eid.mask_len p.eid.mask_len)
          (λ long. absurd (true≢false (sym (nested eid p.eid addr has has_addr (omega (arith, long))) ∙ (beside site p there (j, lt, at)).1 none)))
          (λ short. list_any-from_Any (λ p. holds p.eid asked) site.prefixes (j, p, lt, at, has_wider p.eid eid asked (nested p.eid eid addr has_addr has short) asked_in))

      each : Any (λ s. has_address s addr ≡ true) sites → ⊥
      each (i, site, lt, at, some) = true≢false (sym (list_any-from_Any (λ s. has_address s asked) sites (i, site, lt, at, of_site site (i, lt, at) (Any-from_list_any (λ p. holds p.eid addr) site.prefixes some))) ∙ none)

  pub is_answered : NoneAnswers rows addr now × (is_configured sites addr ≡ is_configured sites asked)
  is_answered = (none_there, alike (is_configured sites addr) (is_configured sites asked) site_has no_site_has)

pub hole_is_answered : (rows : List RowValue) (sites : List SiteValue) → HoleIsAnswered rows sites
hole_is_answered rows sites asked now eid hole addr has = is_answered rows sites asked now eid hole addr has
