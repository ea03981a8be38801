use Rattle.std.proofs.Common.{ℕ, List, [], ◌∷◌, ◌++◌, string_bytes, sym, ap, ◌∙◌, append_assoc, append-nil}
use Rattle.std.specs.List.{flat_map}
use Rattle.std.proofs.lemmas.List.{flat_map_more}
use Rattle.std.proofs.lemmas.Str.{IsUtf8-past_char, chars_past_char}
use Rattle.std.proofs.StrCases.{chars_of_empty}
use Rattle.lisp_picture.specs.Markup.{written}
use Rattle.lisp_picture.proofs.escape.put_escaped.Goals as goal

pub loop-character-preserved : goal.loop-character-preserved
loop-character-preserved g c =
    let held = c.loop-character.invariant in
    let parts = c.in-Some.ensures.steps.0 in (
      IsUtf8-past_char _ _ c.in-Some.character held.0 parts,
      held.1 ∙ ap (λ (cs : List ℕ). c.loop-character.yielded ++ cs) (chars_past_char _ _ c.in-Some.character held.0 parts) ∙ sym (append_assoc c.loop-character.yielded (c.in-Some.character ∷ []) _),
      c.in_ok-put_character.ensures.text ∙ ap (λ (t : List ℕ). t ++ written c.in-Some.character) held.2 ∙ flat_map_more written _ c.loop-character.yielded c.in-Some.character,
    )

pub returns-clause-text : goal.returns-clause-text
returns-clause-text g c =
    let held = c.loop-character.invariant in
    let all = held.1 ∙ ap (λ (cs : List ℕ). c.loop-character.yielded ++ cs) (chars_of_empty _ c.in-None.ensures.steps.0.0) ∙ append-nil _ in
    held.2 ∙ ap (λ (cs : List ℕ). string_bytes c.args.text.now ++ flat_map written cs) (sym all)
