-- The elements of events, and lines, one after the other.
use Rattle.std.proofs.Common.{◌≡◌, ℕ, zero, suc, ◌+◌, List, [], ◌∷◌, ◌++◌, ap, sym, subst, ◌∙◌, append_assoc, append-nil, arith}
use Rattle.std.specs.Fmt.{decimal}
use Rattle.lisp_picture.specs.declared.drawing.Form.{Form}
use Rattle.lisp_picture.specs.declared.drawing.Form.TheVariants.{Text}
use Rattle.lisp_picture.specs.Picture.{AddsElement, AddsElements, AddsLines, AddsNumbered, NoLine, OneMore, Numbered, line_text, opening, text_at}

-- the elements so far, and another one
pub elements_next : (form : Form) (texts : List (List ℕ)) (count : ℕ) (lines old mid new : List ℕ) → AddsElements form texts count old mid → lines ≡ text_at texts count → AddsElement form (count + 1) lines mid new
    → AddsElements form texts (count + 1) old new
elements_next form texts count lines old mid new so_far is next =
    let more : suc count ≡ count + 1 = omega arith in
    subst (λ (n : ℕ). AddsElements form texts n old new) more (mid, so_far, subst (λ (t : List ℕ). AddsElement form (count + 1) t mid new) is next)

-- elements behind what stands above them
four : (a b c d : List ℕ) → a ++ (b ++ c ++ d) ≡ a ++ b ++ c ++ d
four a b c d = simp append_assoc

pub elements_behind : (form : Form) (texts : List (List ℕ)) (count : ℕ) (above old new : List ℕ) → AddsElements form texts count old new → AddsElements form texts count (above ++ old) (above ++ new)
elements_behind form texts zero above old new same = ap (λ (t : List ℕ). above ++ t) same
elements_behind form texts (suc n) above old new (mid, before, (rest, is)) = (
  above ++ mid,
  elements_behind form texts n above old mid before,
  (rest, ap (λ (t : List ℕ). above ++ t) is ∙ four above mid (opening form (n + 1) (text_at texts n)) rest),
)

-- lines behind others
pub lines_then : (old mid new : List ℕ) → AddsLines old mid → AddsLines mid new → AddsLines old new
lines_then old mid _ first (NoLine text) = first
lines_then old mid new first (OneMore _ last _ line more short said) = OneMore old last new line (lines_then old mid last first more) short said
lines_then old mid new first (Numbered _ last _ number more line) = Numbered old last new number (lines_then old mid last first more) line

-- what they append
pub lines_append : (old new : List ℕ) → AddsLines old new → (more : List ℕ) × (new ≡ old ++ more)
lines_append old _ (NoLine text) = ([], sym (append-nil old))
lines_append old new (OneMore _ last _ line more short said) =
    let before = lines_append old last more in
    (before.0 ++ line_text line, said ∙ ap (λ (t : List ℕ). t ++ line_text line) before.1 ∙ append_assoc old before.0 (line_text line))
lines_append old new (Numbered _ last _ number more is) =
    let before = lines_append old last more in
    let text = decimal number ++ line_text is.line in
    (before.0 ++ text, is.said ∙ append_assoc last (decimal number) (line_text is.line) ∙ ap (λ (t : List ℕ). t ++ text) before.1 ∙ append_assoc old before.0 text)

-- a line with a number, and lines behind it
pub event : (number : ℕ) (words old mid new : List ℕ) → AddsNumbered number old mid → AddsLines mid new → AddsElement Text number words old new
event number words old mid new first others =
    let more = lines_append mid new others in
    let line = line_text first.line in
    (line ++ more.0, more.1 ∙ ap (λ (t : List ℕ). t ++ more.0) first.said ∙ append_assoc (old ++ decimal number) line more.0)
