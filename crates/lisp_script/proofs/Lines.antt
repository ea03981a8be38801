-- Reading lines one after the other, as a loop does.
use Rattle.std.proofs.Common.{◌≡◌, ◌≢◌, ◌⊎◌, inl, inr, ℕ, ◌+◌, ◌<◌, List, [], ◌∷◌, ◌++◌, length, get_or, map, take, drop, Option, Some, None, Result, Ok, Err, Bor, refl, sym, ap, ◌∙◌, arith, add-one, drop-cons}
use Rattle.std.specs.List.{enumerate_from}
use Rattle.std.specs.Option.{option_to_list}
use Rattle.std.specs.Str.Lines.{lines}
use Rattle.std.proofs.lemmas.List.{length-map, map-append, take-map, take-append-drop}
use Rattle.std.proofs.lemmas.List.FromFn.{length-enumerate_from, get_or-enumerate_from}
use Rattle.lisp_lemmas.proofs.NumberedLines.{IsNext, texts}
use Rattle.lisp_records.specs.Result.{◌>>=◌}
use Rattle.lisp_policy.specs.Configuration.{ConfigValue}
use Rattle.lisp_script.specs.declared.fault.ScriptFault.{ScriptFault}
use Rattle.lisp_script.specs.declared.fault.ScriptWhat.{ScriptWhat}
use Rattle.lisp_script.specs.declared.fault.ScriptWhat.TheVariants.{Memory}
use Rattle.lisp_script.specs.Fault.{Gives}
use Rattle.lisp_script.specs.Command.{CommandValue}
use Rattle.lisp_script.specs.Words.{words_of}
use Rattle.lisp_script.specs.Spelling.{and_more, at_line, in_line, in_lines, with_line, HasWords, IsReached}
use Rattle.lisp_script.specs.Answers.{MayRunOutIn, MayRunOutOf}
use Rattle.lisp_script.proofs.Plain.{in_line_plain}
use Rattle.lisp_script.proofs.Records.{with_front}

-- no lines, no commands
pub in_none : (c : ConfigValue) (n : ℕ) → in_lines c n [] ≡ Ok []
unfolding in_lines
in_none c n = refl

-- nothing was read before
front_none : {E : Type 0} (read : Result (List CommandValue) E) → read ≡ with_front [] read
front_none (Ok orders) = refl
front_none (Err fault) = refl

-- a line moves from what is read to the front
regrouped : {E : Type 0} (one : Result (Option CommandValue) E) (front behind : Result (List CommandValue) E)
    → (one >>= λ first. (front >>= λ orders. with_front orders behind) >>= λ others. Ok (and_more first others)) ≡ ((one >>= λ first. front >>= λ others. Ok (and_more first others)) >>= λ orders. with_front orders behind)
regrouped (Err fault) front behind = refl
regrouped (Ok first) (Err fault) behind = refl
regrouped (Ok first) (Ok orders) (Err fault) = refl
regrouped (Ok None) (Ok orders) (Ok more) = refl
regrouped (Ok (Some one)) (Ok orders) (Ok more) = refl

-- lines in two parts
in_both : (c : ConfigValue) (n : ℕ) (xs ys : List (List ℕ)) → in_lines c n (xs ++ ys) ≡ (in_lines c n xs >>= λ orders. with_front orders (in_lines c (n + length xs) ys))
unfolding in_lines
in_both c n [] ys = front_none (in_lines c n ys) ∙ ap (λ (k : ℕ). with_front [] (in_lines c k ys)) (omega arith)
in_both c n (x ∷ xs) ys =
    let behind : in_lines c (n + 1) (xs ++ ys) ≡ (in_lines c (n + 1) xs >>= λ orders. with_front orders (in_lines c (n + length (x ∷ xs)) ys)) =
    in_both c (n + 1) xs ys ∙ ap (λ (k : ℕ). in_lines c (n + 1) xs >>= λ orders. with_front orders (in_lines c k ys)) (omega arith) in
    ap (λ (read : Result (List CommandValue) ScriptFault). at_line n (in_line c x) >>= λ first. read >>= λ others. Ok (and_more first others)) behind
    ∙ regrouped (at_line n (in_line c x)) (in_lines c (n + 1) xs) (in_lines c (n + length (x ∷ xs)) ys)

-- the last line that was read, behind the commands before
last_line : (before : List CommandValue) (n : ℕ) (read : Result (Option CommandValue) ScriptWhat) → with_front before (at_line n read >>= λ first. Ok (and_more first [])) ≡ at_line n (read >>= λ found. Ok (before ++ option_to_list found))
last_line before n (Ok None) = refl
last_line before n (Ok (Some one)) = refl
last_line before n (Err what) = refl

-- one more line
in_one_more : (c : ConfigValue) (xs : List (List ℕ)) (x : List ℕ) (before : List CommandValue) → in_lines c 1 xs ≡ Ok before → in_lines c 1 (xs ++ x ∷ []) ≡ at_line (1 + length xs) (with_line c before x)
unfolding in_lines
in_one_more c xs x before so_far = in_both c 1 xs (x ∷ []) ∙ rw so_far (last_line before (1 + length xs) (in_line c x))

-- a line that was read
pub goes_on : (May : Type 0) (c : ConfigValue) (xs : List (ℕ × Bor (List ℕ))) (x : ℕ × Bor (List ℕ)) (before after : List CommandValue) (n : ℕ) (read : Result (Unit {0}) ScriptWhat)
    → in_lines c 1 (texts xs) ≡ Ok before → Gives May (λ _. after) read (with_line c before x.1.now) → Ok tt ≡ at_line n read → in_lines c 1 (texts (xs ++ x ∷ [])) ≡ Ok after
goes_on May c xs x before after n (Ok _) so_far gives is =
    ap (λ (t : List (List ℕ)). in_lines c 1 t) (map-append (λ y. y.1.now) xs (x ∷ [])) ∙ in_one_more c (texts xs) x.1.now before so_far ∙ ap (λ (r : Result (List CommandValue) ScriptWhat). at_line (1 + length (texts xs)) r) gives
goes_on May c xs x before after n (Err what) so_far gives is = absurd cc

-- a fault of a line and the commands before is the line's
first_fault : (before : List CommandValue) (read : Result (Option CommandValue) ScriptWhat) (what : ScriptWhat) → (read >>= λ found. Ok (before ++ option_to_list found)) ≡ Err what → read ≡ Err what
first_fault before (Ok found) what e = absurd cc
first_fault before (Err other) what e = cc

-- lines up to a faulty one
in_faulty : (c : ConfigValue) (xs : List (List ℕ)) (x : List ℕ) (more : List (List ℕ)) (before : List CommandValue) (what : ScriptWhat) → in_lines c 1 xs ≡ Ok before → with_line c before x ≡ Err what
    → in_lines c 1 (xs ++ x ∷ more) ≡ Err (record { line = 1 + length xs; what = what })
unfolding in_lines
in_faulty c xs x more before what so_far wrong =
    let line : in_line c x ≡ Err what = first_fault before (in_line c x) what wrong in
    in_both c 1 xs (x ∷ more) ∙ rw (so_far, line) refl

-- a fault that is not of memory is that of a definition; one of memory is not, where a definition gives none
not_out : {Y May : Type 0} (what : ScriptWhat) (read : Result Y ScriptWhat) → (May × (what ≡ Memory)) ⊎ (read ≡ Err what) → what ≢ Memory → read ≡ Err what
not_out what read (inl out) other = absurd (other out.1)
not_out what read (inr is) other = is

out : {Y May : Type 0} (what : ScriptWhat) (read : Result Y ScriptWhat) → (May × (what ≡ Memory)) ⊎ (read ≡ Err what) → what ≡ Memory → read ≢ Err Memory → May
out what read (inl is) same plain = is.0
out what read (inr is) same plain = absurd (plain (is ∙ ap Err same))

-- a line that is faulty
pub stops : (May : Type 0) (c : ConfigValue) (lines : List (List ℕ)) (xs : List (ℕ × Bor (List ℕ))) (x : ℕ × Bor (List ℕ)) (before after : List CommandValue) (fault : ScriptFault) (read : Result (Unit {0}) ScriptWhat)
    → in_lines c 1 (texts xs) ≡ Ok before → Gives May (λ _. after) read (with_line c before x.1.now) → Err fault ≡ at_line (x.0 + 1) read → IsNext lines xs x → fault.what ≢ Memory → in_lines c 1 lines ≡ Err fault
stops May c lines xs x before after fault (Ok _) so_far gives is next other = absurd cc
stops May c lines xs x before after fault (Err what) so_far gives is next other =
    let same : fault ≡ record { line = x.0 + 1; what = what } = cc in
    let wrong : with_line c before x.1.now ≡ Err what = not_out what _ gives (λ e. other (ap (λ (f : ScriptFault). f.what) same ∙ e)) in
    let number : 1 + length (texts xs) ≡ x.0 + 1 = omega (arith, next.number, length-map xs (λ (y : ℕ × Bor (List ℕ)). y.1.now)) in
    ap (λ (t : List (List ℕ)). in_lines c 1 t) next.parts
    ∙ in_faulty c (texts xs) x.1.now (drop (length xs + 1) lines) before what so_far wrong
    ∙ ap (λ (n : ℕ). Err (record { line = n; what = what })) number
    ∙ ap Err (sym same)

-- memory runs out where it does in a line
pub runs_out : (May : Type 0) (c : ConfigValue) (line : List ℕ) (before after : List CommandValue) (n : ℕ) (fault : ScriptFault) (read : Result (Unit {0}) ScriptWhat)
    → Gives May (λ _. after) read (with_line c before line) → Err fault ≡ at_line n read → fault.what ≡ Memory → May
runs_out May c line before after n fault (Ok _) gives is e = absurd cc
runs_out May c line before after n fault (Err what) gives is e =
    let same : fault ≡ record { line = n; what = what } = cc in
    out what _ gives (sym (ap (λ (f : ScriptFault). f.what) same) ∙ e) (λ wrong. in_line_plain c line (first_fault before (in_line c line) Memory wrong))

-- an excuse of a line is one of the script
pub of_script : (may : Type 0) (text : List ℕ) (xs : List (ℕ × Bor (List ℕ))) (x : ℕ × Bor (List ℕ)) → IsNext (lines text) xs x → MayRunOutIn may (words_of x.1.now) → MayRunOutOf may text
of_script may text xs x next (inl out) = inl out
of_script may text xs x next (inr sites) = inr (record { before = texts xs; line = x.1.now; behind = drop (length xs + 1) (lines text); parts = next.parts; sites = sites })

-- then the line has words, and those before it are read
pub reaches : (c : ConfigValue) (text : List ℕ) (xs : List (ℕ × Bor (List ℕ))) (x : ℕ × Bor (List ℕ)) (before : List CommandValue) (fault : ScriptFault) (read : Result (Unit {0}) ScriptWhat)
    → in_lines c 1 (texts xs) ≡ Ok before → (read ≡ Err Memory → HasWords x.1.now) → Err fault ≡ at_line (x.0 + 1) read → IsNext (lines text) xs x → fault.what ≡ Memory → IsReached c text fault.line
reaches c text xs x before fault (Ok _) so_far asked is next e = absurd cc
reaches c text xs x before fault (Err what) so_far asked is next e =
    let same : fault ≡ record { line = x.0 + 1; what = what } = cc in
    let number : x.0 + 1 ≡ length (texts xs) + 1 = omega (arith, next.number, length-map xs (λ (y : ℕ × Bor (List ℕ)). y.1.now)) in
    record {
      before = texts xs;
      line = x.1.now;
      behind = drop (length xs + 1) (lines text);
      parts = next.parts;
      place = ap (λ (f : ScriptFault). f.line) same ∙ number;
      read = rw so_far refl;
      words = asked (ap Err (sym (ap (λ (f : ScriptFault). f.what) same) ∙ e));
    }
