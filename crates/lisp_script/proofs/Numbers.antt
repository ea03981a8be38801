-- The numbers of lines that have a command.
use Rattle.std.proofs.Common.{◌≡◌, ◌≢◌, ℕ, ◌+◌, Bool, true, false, nat_lt, List, [], ◌∷◌, ◌++◌, length, Option, Some, None, Result, Ok, Err, Bor, refl, sym, ap, ◌∙◌, arith, append_assoc}
use Rattle.std.specs.Prelude.{cond}
use Rattle.std.proofs.lemmas.Bool.{lt-ltb}
use Rattle.std.proofs.lemmas.List.{append-nil, map-append, length-append, length-map}
use Rattle.lisp_records.specs.Result.{◌>>=◌}
use Rattle.lisp_policy.specs.Configuration.{ConfigValue}
use Rattle.lisp_script.specs.Command.{CommandValue}
use Rattle.lisp_script.specs.Words.{words_of}
use Rattle.lisp_script.specs.declared.fault.ScriptFault.{ScriptFault}
use Rattle.lisp_script.specs.declared.fault.ScriptWhat.{ScriptWhat}
use Rattle.lisp_script.specs.Spelling.{and_more, at_line, command_of, in_line, in_lines, in_words, is_comment}
use Rattle.lisp_script.specs.CommandLines.{numbered, numbers_from}
use Rattle.lisp_lemmas.proofs.NumberedLines.{IsNext, texts}

-- ---- one line after the other

pub none : (n : ℕ) → numbers_from n [] ≡ []
unfolding numbers_from
none n = refl

both : (n : ℕ) (xs ys : List (List ℕ)) → numbers_from n (xs ++ ys) ≡ numbers_from n xs ++ numbers_from (n + length xs) ys
unfolding numbers_from
both n [] ys = ap (λ (k : ℕ). numbers_from k ys) (omega arith)
both n (x ∷ xs) ys =
    ap (λ (t : List ℕ). numbered n x ++ t) (both (n + 1) xs ys ∙ ap (λ (k : ℕ). numbers_from (n + 1) xs ++ numbers_from k ys) (omega arith))
    ∙ sym (append_assoc (numbered n x) (numbers_from (n + 1) xs) (numbers_from (n + length (x ∷ xs)) ys))

last : (n : ℕ) (xs : List (List ℕ)) (x : List ℕ) → numbers_from n (xs ++ x ∷ []) ≡ numbers_from n xs ++ numbered (n + length xs) x
unfolding numbers_from
last n xs x = both n xs (x ∷ []) ∙ ap (λ (t : List ℕ). numbers_from n xs ++ t) (append-nil (numbered (n + length xs) x))

pub one_more : (lines : List (List ℕ)) (xs : List (ℕ × Bor (List ℕ))) (x : ℕ × Bor (List ℕ)) (before after : List ℕ) → IsNext lines xs x
    → before ≡ numbers_from 1 (texts xs) → after ≡ before ++ numbered (x.0 + 1) x.1.now → after ≡ numbers_from 1 (texts (xs ++ x ∷ []))
one_more lines xs x before after next so_far more =
    let number : x.0 + 1 ≡ 1 + length (texts xs) = omega (arith, next.number, length-map xs (λ (y : ℕ × Bor (List ℕ)). y.1.now)) in
    more ∙ ap (λ (t : List ℕ). t ++ numbered (x.0 + 1) x.1.now) so_far ∙ ap (λ (k : ℕ). numbers_from 1 (texts xs) ++ numbered k x.1.now) number
    ∙ sym (last 1 (texts xs) x.1.now) ∙ ap (numbers_from 1) (sym (map-append (λ (y : ℕ × Bor (List ℕ)). y.1.now) xs (x ∷ [])))

-- ---- as many as commands

-- the commands of a line
abbrev count : Option CommandValue → ℕ
count None = 0
count (Some order) = 1

some_word : (word : List ℕ) (words : List (List ℕ)) → nat_lt 0 (length (word ∷ words)) ≡ true
some_word word words = lt-ltb 0 (length (word ∷ words)) (omega arith)

of_words : (c : ConfigValue) (n : ℕ) (words : List (List ℕ)) (found : Option CommandValue) → in_words c words ≡ Ok found → length (cond (nat_lt 0 (length words)) (n ∷ []) []) ≡ count found
of_words c n [] None is = refl
of_words c n [] (Some order) is = absurd cc
of_words c n (word ∷ words) found is = rw (some_word word words) (some (command_of c word words) found is)
  where
    some : (read : Result CommandValue ScriptWhat) (found : Option CommandValue) → (read >>= λ order. Ok (Some order)) ≡ Ok found → 1 ≡ count found
    some (Ok order) None is = absurd cc
    some (Ok order) (Some other) is = refl
    some (Err what) found is = absurd cc

of_line : (c : ConfigValue) (n : ℕ) (line : List ℕ) (found : Option CommandValue) → in_line c line ≡ Ok found → length (numbered n line) ≡ count found
of_line c n line found is = by (is_comment line) refl is
  where
    skipped : (found : Option CommandValue) → ◌≡◌ {A = Result (Option CommandValue) ScriptWhat} (Ok None) (Ok found) → 0 ≡ count found
    skipped None is = refl
    skipped (Some order) is = absurd cc

    by : (comment : Bool) → is_comment line ≡ comment → in_line c line ≡ Ok found → length (numbered n line) ≡ count found
    by true comment is = rw comment (skipped found (rw comment at is))
    by false comment is = rw comment (of_words c n (words_of line) found (rw comment at is))

pub as_many : (c : ConfigValue) (n : ℕ) (lines : List (List ℕ)) (orders : List CommandValue) → in_lines c n lines ≡ Ok orders → length (numbers_from n lines) ≡ length orders
unfolding in_lines numbers_from
as_many c n [] [] is = refl
as_many c n [] (order ∷ orders) is = absurd cc
as_many c n (line ∷ more) orders is = step (as_many c (n + 1) more) (in_line c line) refl (in_lines c (n + 1) more) refl is
  where
    joined : (found : Option CommandValue) (others orders : List CommandValue) → and_more found others ≡ orders → length orders ≡ count found + length others
    joined None others orders is = let same : length orders ≡ length others = ap length (sym is) in omega (arith, same)
    joined (Some first) others orders is = let same : length orders ≡ length (first ∷ others) = ap length (sym is) in omega (arith, same)

    step : ((others : List CommandValue) → in_lines c (n + 1) more ≡ Ok others → length (numbers_from (n + 1) more) ≡ length others) → (read : Result (Option CommandValue) ScriptWhat) → in_line c line ≡ read → (rest : Result (List CommandValue) ScriptFault) → in_lines c (n + 1) more ≡ rest
        → (at_line n read >>= λ first. rest >>= λ others. Ok (and_more first others)) ≡ Ok orders → length (numbered n line ++ numbers_from (n + 1) more) ≡ length orders
    step again (Err what) line_is rest rest_is is = absurd cc
    step again (Ok found) line_is (Err fault) rest_is is = absurd cc
    step again (Ok found) line_is (Ok others) rest_is is =
        let here : length (numbered n line) ≡ count found = of_line c n line found line_is in
        let there : length (numbers_from (n + 1) more) ≡ length others = again others rest_is in
        let same : and_more found others ≡ orders = cc in
        length-append (numbered n line) (numbers_from (n + 1) more) ∙ ap (λ (k : ℕ). k + length (numbers_from (n + 1) more)) here ∙ ap (λ (k : ℕ). count found + k) there ∙ sym (joined found others orders same)

-- ---- whether a line has words

pub no_words : (words : List (List ℕ)) → words ≡ [] → false ≡ nat_lt 0 (length words)
no_words [] is = refl
no_words (word ∷ words) is = absurd cc

pub some_words : (words : List (List ℕ)) → words ≢ [] → true ≡ nat_lt 0 (length words)
some_words [] is = absurd (is refl)
some_words (word ∷ words) is = sym (some_word word words)
