-- Appending to a text.
use Rattle.std.proofs.Common.{◌≡◌, ℕ, ◌+◌, ◌-◌, ◌<◌, ◌≤◌, List, [], ◌∷◌, ◌++◌, length, get_or, take, Result, Ok, Err, refl, sym, ap, ◌∙◌, append_assoc}
use Rattle.std.specs.Prelude.{codes, OnOk, is_ok, if◌then◌else◌}
use Rattle.std.specs.Fmt.{decimal}
use Rattle.std.specs.Char.{encode_utf8}
use Rattle.std.specs.List.{flat_map}
use Rattle.std.proofs.lemmas.List.{append-nil, flat_map_more, take_all, take_more}
use Rattle.lisp_policy.specs.Configuration.{ConfigValue}
use Rattle.lisp_records.specs.Row.{RowValue}
use Rattle.lisp_texts.specs.Written.{record_text}
use Rattle.lisp_lines.specs.declared.wording.Wording.{Wording}
use Rattle.lisp_lines.specs.Name.{node_name, router_word}
use Rattle.lisp_lines.specs.Query.{hold_head, hold_text, row_text}

pub ruleset steps = (append_assoc, flat_map_more)

-- a line feed is a byte
pub line_feed : encode_utf8 10 ≡ 10 ∷ []
unfolding lib.Utf8.encode
line_feed = refl

-- a text to which a line feed was appended, if there was memory
pub ends : {X E : Type 0} (pushed : Result X E) (before after whole : List ℕ) → after ≡ (if is_ok pushed then before ++ encode_utf8 10 else before) → before ++ 10 ∷ [] ≡ whole → OnOk pushed (after ≡ whole)
ends (Ok x) before after whole is all = is ∙ ap (λ (t : List ℕ). before ++ t) line_feed ∙ all
ends (Err e) before after whole is all = tt

-- the text of one more element
pub one_more : {X : Type 0} (shown : X → List ℕ) (head : List ℕ) (xs : List X) (i : ℕ) (x : X) (before after : List ℕ) → i < length xs → x ≡ get_or xs i x → before ≡ head ++ flat_map shown (take i xs) → after ≡ before ++ shown x
    → after ≡ head ++ flat_map shown (take (i + 1) xs)
one_more {X = X} shown head xs i x before after inside here so_far more =
    let next : take i xs ++ x ∷ [] ≡ take (i + 1) xs = ap (λ (y : X). take i xs ++ y ∷ []) here ∙ sym (take_more xs i x inside) in
    more ∙ ap (λ (t : List ℕ). t ++ shown x) so_far ∙ flat_map_more shown head (take i xs) x ∙ ap (λ (ys : List X). head ++ flat_map shown ys) next

-- the line before the rows of a Map-Server
abbrev pub head_text : ConfigValue → ℕ → ℕ → List ℕ
head_text c server rows = hold_head (node_name c server) rows

-- that line before any row
pub head_alone : (c : ConfigValue) (server rows n : ℕ) (name text : List ℕ) → name ≡ node_name c server → n ≡ rows → text ≡ hold_head name n
    → text ≡ head_text c server rows ++ []
head_alone c server rows n name text named counted is = is ∙ rw (named, counted) (sym (append-nil (head_text c server rows)))

-- and behind it the lines of all rows
pub all_rows : (c : ConfigValue) (wording : Wording) (server now : ℕ) (rows : List RowValue) (i : ℕ) (text : List ℕ) → length rows ≤ i → text ≡ head_text c server (length rows) ++ flat_map (row_text c wording now) (take i rows)
    → text ≡ hold_text c wording server now rows
all_rows c wording server now rows i text le is =
    is ∙ ap (λ (hs : List RowValue). head_text c server (length rows) ++ flat_map (row_text c wording now) hs) (take_all i rows le)

-- the pieces of a row's line
pieces : (a b c d e f g h i j k l : List ℕ) → ((a ++ b) ++ c) ++ (d ++ (e ++ (f ++ (g ++ (h ++ (i ++ (j ++ (k ++ l)))))))) ≡ a ++ (b ++ c ++ d ++ e ++ (f ++ g ++ h ++ i) ++ j ++ k ++ l)
pieces a b c d e f g h i j k l = simp append_assoc refl

-- the line of a row, appended: its first word, its router, and the rest
pub row_line : (c : ConfigValue) (wording : Wording) (now : ℕ) (inside row : RowValue) (old first named new mapping : List ℕ) (age : ℕ) → inside ≡ row → first ≡ old ++ codes "row " → named ≡ first ++ router_word c wording inside.router
    → mapping ≡ record_text inside.mapping → age ≡ now - inside.accepted
    → new ≡ named ++ (codes " " ++ (mapping ++ (codes " key " ++ (decimal inside.key ++ (codes " nonce " ++ (decimal inside.nonce ++ (codes " age " ++ (decimal age ++ 10 ∷ []))))))))
    → new ≡ old ++ row_text c wording now row
row_line c wording now inside row old first named new mapping age seen begun router mapped aged is =
    is ∙ rw (router, begun, mapped, aged) (pieces old (codes "row ") (router_word c wording inside.router) (codes " ") (record_text inside.mapping) (codes " key ") (decimal inside.key) (codes " nonce ") (decimal inside.nonce) (codes " age ") (decimal (now - inside.accepted)) (10 ∷ []))
    ∙ ap (λ (h : RowValue). old ++ row_text c wording now h) seen
