-- The line of one more row.
use Rattle.std.proofs.Common.{◌≡◌, ◌<◌, ℕ, ◌+◌, Bool, true, false, List, [], ◌∷◌, ◌++◌, Some, None, refl, sym, ap, subst, ◌∙◌}
use Rattle.std.specs.List.{flat_map}
use Rattle.std.proofs.lemmas.List.{append-nil, flat_map_more}
use Rattle.lisp_policy.specs.Configuration.{ConfigValue}
use Rattle.lisp_records.specs.Row.{RowValue}
use Rattle.lisp_lines.specs.declared.wording.Wording.TheVariants.{Node}
use Rattle.lisp_lines.specs.Query.{row_text}
use Rattle.lisp_lines.specs.Listing.{PutsRow, PutsRows, most_rows}
use Rattle.lisp_lines.specs.declared.walk.Walk.{Walk}
use Rattle.lisp_lines.proofs.Walking.{Taken, all_taken, no_more, none_taken, one_taken}

-- the rows so far, and their lines after a text
abbrev pub HasPut : ConfigValue → List RowValue → Walk → Walk → List ℕ → List ℕ → ℕ → Type 0
HasPut c rows old new before after many = (taken : List RowValue) × Taken rows old new taken many × (after ≡ before ++ flat_map (row_text c Node old.moment) taken)

pub nothing_put : (c : ConfigValue) (rows : List RowValue) (old : Walk) (before : List ℕ) → Taken rows old old [] 0 → HasPut c rows old old before before 0
nothing_put c rows old before none = ([], none, sym (append-nil before))

pub line_put : (c : ConfigValue) (rows : List RowValue) (old mid new : Walk) (before between after : List ℕ) (many : ℕ) → HasPut c rows old mid before between many → PutsRow c rows mid new between after true → HasPut c rows old new before after (many + 1)
line_put c rows old mid new before between after many so_far puts =
    let taken = so_far.0 in
    let moment : mid.moment ≡ old.moment = ap (λ (w : Walk). w.moment) so_far.1.goes_on in (
      taken ++ puts.0 ∷ [],
      one_taken rows old mid new taken puts.0 many so_far.1 puts.1,
      puts.2 ∙ ap (λ (now : ℕ). between ++ row_text c Node now puts.0) moment ∙ ap (λ (t : List ℕ). t ++ row_text c Node old.moment puts.0) so_far.2 ∙ flat_map_more (row_text c Node old.moment) before taken puts.0,
    )

pub last_put : (c : ConfigValue) (rows : List RowValue) (old mid new : Walk) (before between after : List ℕ) (many : ℕ) → HasPut c rows old mid before between many → many < most_rows → PutsRow c rows mid new between after false → PutsRows c rows old new before after true
last_put c rows old mid new before between after many so_far few puts = (so_far.0, no_more rows old mid new so_far.0 many most_rows so_far.1 few puts.0, puts.1 ∙ so_far.2)

pub all_put : (c : ConfigValue) (rows : List RowValue) (old new : Walk) (before after : List ℕ) (many : ℕ) → HasPut c rows old new before after many → many ≡ most_rows → PutsRows c rows old new before after false
all_put c rows old new before after many so_far full = (so_far.0, all_taken rows old new so_far.0 many most_rows so_far.1 full, so_far.2)
