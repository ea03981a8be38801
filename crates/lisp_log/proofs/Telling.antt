-- What a node tells, text by text.
use Rattle.std.proofs.Common.{◌≡◌, ℕ, ◌+◌, ◌<◌, List, [], ◌∷◌, ◌++◌, length, get_or, take, Result, Ok, Err, sym, ap, ◌∙◌, subst, inl, inr}
use Rattle.std.specs.Prelude.{String, string_bytes, IfOk, OnErr}
use Rattle.std.specs.List.{flat_map}
use Rattle.std.proofs.lemmas.List.{flat_map_more, take_more}
use Rattle.lisp_lines.specs.Front.{GivesText}
use Rattle.lisp_log.specs.Waiting.{WaitingState, put_line, drops_one}
use Rattle.lisp_log.specs.Log.{Puts, Sum, PutsAll}

-- a text that was made waits; one that wasn't is dropped
pub puts : {E Z : Type 0} (may_refuse : Type 0) (made : Result (String Z) E) (old new : WaitingState) (words : List ℕ) → IfOk made (λ text. new ≡ put_line old (string_bytes text)) → OnErr made (new ≡ drops_one old)
    → GivesText made words → OnErr made may_refuse → Puts may_refuse old new words
puts may_refuse (Ok text) old new words waits none is refused = inl (waits ∙ ap (λ (t : List ℕ). put_line old t) is)
puts may_refuse (Err e) old new words waits none is refused = inr (refused, none)

-- some sums, and then others
pub puts_both : (may_refuse : Type 0) (old between new : WaitingState) (sums others : List Sum) → PutsAll may_refuse old between sums → PutsAll may_refuse between new others → PutsAll may_refuse old new (sums ++ others)
puts_both may_refuse old between new [] others first second = subst (λ (w : WaitingState). PutsAll may_refuse w new others) first second
puts_both may_refuse old between new (sum ∷ sums) others (next, put, first) second = (next, put, puts_both may_refuse next between new sums others first second)

-- the sums of one more element
pub puts_more : {X : Type 0} (may_refuse : Type 0) (old between new : WaitingState) (sums : X → List Sum) (xs : List X) (i : ℕ) (d : X) → i < length xs → PutsAll may_refuse old between (flat_map sums (take i xs)) → PutsAll may_refuse between new (sums (get_or xs i d))
    → PutsAll may_refuse old new (flat_map sums (take (i + 1) xs))
puts_more {X} may_refuse old between new sums xs i d within first second =
    subst (λ (all : List Sum). PutsAll may_refuse old new all) (flat_map_more sums [] (take i xs) (get_or xs i d) ∙ ap (λ (ys : List X). flat_map sums ys) (sym (take_more xs i d within))) (
    puts_both may_refuse old between new (flat_map sums (take i xs)) (sums (get_or xs i d)) first second)
