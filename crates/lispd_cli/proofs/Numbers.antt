-- Texts that differ, and the numbers of a line.
use Rattle.std.proofs.Common.{◌≡◌, ◌≢◌, ◌∙◌, ◌≤◌, ◌-◌, ℕ, suc, Bool, false, Bor, List, [], ◌∷◌, ◌++◌, length, get_or, take, drop, codes, Option, None, Some, Result, Ok, Err, OnOk, is_err, true≢false, refl, sym, ap, subst, arith, append_assoc}
use Rattle.std.proofs.Math.Seq.{take-length}
use Rattle.std.specs.Str.{bytes_eq}
use Rattle.std.proofs.lemmas.Slice.Eq.{bytes_eq-Decides}
use Rattle.lisp_policy.proofs.Found.{not_true}
use Rattle.lisp_script.specs.Words.{is_word, texts}
use Rattle.lisp_refusals.specs.Table.{Explains}
use Rattle.lispd_cli.specs.Asking.{first_word, refused_in}
use Rattle.lispd_cli.specs.PrintedLine.{both, carried_by, is_kind, read_as, told_by, ExplainsEach}

-- texts that differ are not alike
pub differs : (word name : List ℕ) → word ≢ name → bytes_eq word name ≡ false
differs word name other = not_true (bytes_eq word name) (λ alike. other ((bytes_eq-Decides word name).0 alike))

pub apart : (word name : List ℕ) → word ≢ name → is_word name word ≡ false
apart word name other = not_true (is_word name word) (λ alike. other (sym ((bytes_eq-Decides name word).0 alike)))

-- an answer that begins with another word tells of no refusal
pub obeyed : (lines word : List ℕ) → word ≡ first_word lines → word ≢ codes "fault" → word ≢ codes "refused" → word ≢ codes "down" → None ≡ refused_in lines
obeyed lines word first fault refused down = rw (sym first, apart word _ fault, apart word _ refused, apart word _ down) refl

-- a list without its first element, as a pattern of slices has it
abbrev pub others : {X : Type 0} → List X → List X
others xs = take (length xs - 1) (drop 1 xs)

pub parted : {X : Type 0} (xs : List X) (d : X) → 1 ≤ length xs → xs ≡ get_or xs 0 d ∷ others xs
parted [] d some = absurd (omega (arith, some))
parted {X = X} (x ∷ xs) d some =
    let all : length (x ∷ xs) - 1 ≡ length xs = omega arith in
    ap (λ (l : List X). x ∷ l) (sym (ap (λ (n : ℕ). take n xs) all ∙ take-length xs))

pub one_less : {X : Type 0} (xs : List X) → 1 ≤ length xs → length xs ≡ suc (length (others xs))
one_less [] some = absurd (omega (arith, some))
one_less (x ∷ xs) some = ap length (parted (x ∷ xs) x some)

-- one more number is explained, and the others
pub explains_first : {E X : Type 0} (r : Result X E) (numbers : List ℕ) (d : ℕ) (old next new : Option (List ℕ)) → 1 ≤ length numbers → is_err r ≡ false
    → OnOk r (Explains (get_or numbers 0 d) old next) → ExplainsEach (others numbers) next new → ExplainsEach numbers old new
unfolding ExplainsEach
explains_first (Err e) numbers d old next new some ok one more = absurd (true≢false ok)
explains_first (Ok x) numbers d old next new some ok one more = subst (λ (ns : List ℕ). ExplainsEach ns old new) (sym (parted numbers d some)) (next, one, more)

-- numbers behind others
pub both_more : (xs : List ℕ) (first others : Option (List ℕ)) → both (Some xs) (both first others) ≡ both (both (Some xs) first) others
both_more xs None others = refl
both_more xs (Some ys) None = refl
both_more xs (Some ys) (Some zs) = ap Some (sym (append_assoc xs ys zs))

-- a name is read with its value
name_value : (name value : List ℕ) (words : List (List ℕ)) → is_kind name ≡ false → carried_by (name ∷ value ∷ words) ≡ both (told_by name value) (carried_by words)
unfolding carried_by
name_value name value words other = rw other refl

pub takes_value : (numbers more : List ℕ) (words : List (Bor (List ℕ))) (d e : Bor (List ℕ)) (total : Option (List ℕ)) (read : Bool) → 1 ≤ length words → 1 ≤ length (others words)
    → is_kind (get_or words 0 d).now ≡ false → read_as read more ≡ both (Some numbers) (told_by (get_or words 0 d).now (get_or (others words) 0 e).now)
    → both (Some numbers) (carried_by (texts words)) ≡ total → both (read_as read more) (carried_by (texts (others (others words)))) ≡ total
takes_value numbers more words d e total read some also other told so_far =
    let name = (get_or words 0 d).now in
    let value = (get_or (others words) 0 e).now in
    let left = texts (others (others words)) in
    let two : words ≡ get_or words 0 d ∷ get_or (others words) 0 e ∷ others (others words) =
    parted words d some ∙ ap (λ (ws : List (Bor (List ℕ))). get_or words 0 d ∷ ws) (parted (others words) e also) in
    let all : carried_by (texts words) ≡ both (told_by name value) (carried_by left) = ap (λ (ws : List (Bor (List ℕ))). carried_by (texts ws)) two ∙ name_value name value left other in
    ap (λ (m : Option (List ℕ)). both m (carried_by left)) told ∙ sym (both_more numbers (told_by name value) (carried_by left)) ∙ sym (ap (both (Some numbers)) all) ∙ so_far

pub ruleset steps = (append_assoc)
