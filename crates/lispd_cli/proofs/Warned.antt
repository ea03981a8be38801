-- What is warned of, one more at a time; bytes that are written one behind the other.
use Rattle.std.proofs.Common.{◌≡◌, ◌≤◌, ℕ, suc, length, get_or, List, [], ◌∷◌, ◌++◌, Option, Some, None, sym, refl, ap, subst, ◌∙◌, append-nil, append_assoc}
use Rattle.std.specs.Prelude.{IfSome}
use Rattle.std.specs.List.{flat_map}
use Rattle.std.specs.Io.KnownBytes.{Appends}
use Rattle.lisp_check.specs.declared.warning.Warning.{Warning}
use Rattle.lisp_check.specs.Line.{IsHeaderLine}
use Rattle.lispd_cli.specs.declared.findings.Finding.{Finding}
use Rattle.lispd_cli.specs.declared.findings.What.TheVariants.{Config}
use Rattle.lispd_cli.proofs.Numbers.{others, parted}
use Rattle.lispd_cli.specs.Check.{AddedLines, AddedPlaced, warning_line}

-- none, and one before others
pub placed_none : (text : List ℕ) (all : List Finding) (ws : List Warning) → ws ≡ [] → AddedPlaced text all all ws
placed_none text all ws none = subst (λ (l : List Warning). AddedPlaced text all all l) (sym none) ([], tt, sym (append-nil all))

pub placed_more : (text : List ℕ) (ws : List Warning) (d : Warning) (all next new : List Finding) (line : Option ℕ) → 1 ≤ length ws → IfSome line (IsHeaderLine text)
    → next ≡ all ++ record { line = line; what = Config (get_or ws 0 d) } ∷ [] → AddedPlaced text next new (others ws) → AddedPlaced text all new ws
placed_more text ws d all next new line some header pushed (placed, are, so) =
    let one : Finding = record { line = line; what = Config (get_or ws 0 d) } in
    subst (λ (l : List Warning). AddedPlaced text all new l) (sym (parted ws d some)) (
      one ∷ placed,
      ((header, refl), are),
      so ∙ ap (λ (l : List Finding). l ++ placed) pushed ∙ append_assoc all (one ∷ []) placed,
    )

-- no line, and one before others
pub lines_none : (path old : List ℕ) (count : ℕ) → 0 ≡ count → AddedLines path old old count
lines_none path old count is = ([], is, sym (append-nil old))

pub lines_more : (path old next new w : List ℕ) (count all : ℕ) → next ≡ old ++ warning_line path w → AddedLines path next new count → all ≡ suc count → AddedLines path old new all
lines_more path old next new w count all more (words, many, so) is =
    (w ∷ words, ap suc many ∙ sym is, so ∙ ap (λ (t : List ℕ). t ++ flat_map (warning_line path) words) more ∙ append_assoc old (warning_line path w) (flat_map (warning_line path) words))

-- bytes, and then others
pub appends_both : (a b c : Option (List ℕ)) (one other : List ℕ) → Appends a b one → Appends b c other → Appends a c (one ++ other)
appends_both None b c one other first second = tt
appends_both (Some a) None c one other first second = absurd first
appends_both (Some a) (Some b) None one other first second = absurd second
appends_both (Some a) (Some b) (Some c) one other first second = second ∙ ap (λ (t : List ℕ). t ++ other) first ∙ append_assoc a one other
