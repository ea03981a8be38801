-- A picture: an element for each event, in their order. How it looks, and its other words, are open.
use Rattle.std.specs.Prelude.{◌≡◌, ℕ, zero, suc, ◌+◌, ◌==◌, ◌≤◌, nat_lt, ◌&&◌, List, [], ◌∷◌, ◌++◌, codes, length, map, slice_index_or, string_bytes, if◌then◌else◌}
use Rattle.std.specs.Fmt.{decimal}
use Rattle.std.specs.List.{flat_map, slice_split}
use Rattle.lisp_player.specs.declared.outcome.Outcome.{Outcome}
use Rattle.lisp_picture.specs.declared.drawing.Form.{Form}
use Rattle.lisp_picture.specs.declared.drawing.Form.TheVariants.{Svg, Text}
use Rattle.lisp_picture.specs.Markup.{escaped}

-- the lines of outcomes, and of some texts the one with a place
abbrev pub texts_of : {A : Type 0} → List (Outcome A) → List (List ℕ)
texts_of outcomes = map (λ o. string_bytes o.text) outcomes

abbrev pub text_at : List (List ℕ) → ℕ → List ℕ
text_at texts place = slice_index_or texts place []

-- the first line of a text
abbrev pub first_of : List (List ℕ) → List ℕ
first_of [] = []
first_of (line ∷ _) = line

abbrev pub first_line : List ℕ → List ℕ
first_line text = first_of (slice_split (λ b. b == 10) text)

-- the beginning of an event's element: its number, in an image as the element's name, and there the first of its lines as a tip
abbrev pub opening : Form → ℕ → List ℕ → List ℕ
opening Svg number lines = codes "<g id=\"e" ++ decimal number ++ codes "\"><title>" ++ escaped (first_line lines) ++ codes "</title>"
opening Text number lines = decimal number

-- to a text the element of an event was added, and those of the first so many events, in their order, which are numbered from 1 on
abbrev pub AddsElement : Form → ℕ → List ℕ → List ℕ → List ℕ → Type 0
AddsElement form number lines old new = (rest : List ℕ) × (new ≡ old ++ opening form number lines ++ rest)

abbrev pub AddsElements : Form → List (List ℕ) → ℕ → List ℕ → List ℕ → Type 0
AddsElements form texts zero old new = new ≡ old
AddsElements form texts (suc n) old new = (mid : List ℕ) × AddsElements form texts n old mid × AddsElement form (n + 1) (text_at texts n) mid new

-- the text is a picture, in this form, of events with these lines: what stands above their elements, these, and its end
pub record IsPicture (form : Form) (texts : List (List ℕ)) (picture : List ℕ) : Type 0 where
  pub above : List ℕ
  pub before_end : List ℕ
  pub elements : AddsElements form texts (length texts) above before_end
  pub end : List ℕ
  pub said : picture ≡ before_end ++ end

-- a character of ASCII that is printable
abbrev pub plain : ℕ → ℕ
plain c = if nat_lt 31 c && nat_lt c 127 then c else 63

abbrev pub plain_text : List ℕ → List ℕ
plain_text line = flat_map (λ c. plain c ∷ []) line

abbrev pub line_text : List ℕ → List ℕ
line_text line = plain_text line ++ 10 ∷ []

-- to a text a line was added that begins with a number: at most 100 characters, all of them printable
pub record AddsNumbered (number : ℕ) (old new : List ℕ) : Type 0 where
  pub line : List ℕ
  pub short : length (decimal number) + length line ≤ 100
  pub said : new ≡ old ++ decimal number ++ line_text line

-- lines, so or without a number
pub data AddsLines : List ℕ → List ℕ → Type 0 where
  NoLine : (text : List ℕ) → AddsLines text text
  OneMore : (old mid new line : List ℕ) → AddsLines old mid → length line ≤ 100 → new ≡ mid ++ line_text line → AddsLines old new
  Numbered : (old mid new : List ℕ) (number : ℕ) → AddsLines old mid → AddsNumbered number mid new → AddsLines old new
