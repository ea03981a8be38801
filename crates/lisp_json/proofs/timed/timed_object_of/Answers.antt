use Rattle.std.proofs.Common.{ℕ, List, Bor, ap, ◌∙◌}
use Rattle.std.proofs.lemmas.Result.{IfOk-weaker}
use Rattle.lisp_json.specs.Timed.{timed_text}
use Rattle.lisp_json.specs.Words.{texts}
use Rattle.lisp_json.proofs.Timing.{is_timed}
use Rattle.lisp_json.proofs.timed.timed_object_of.Goals as goal

pub returns-clause-object : goal.returns-clause-object
returns-clause-object g c =
    IfOk-weaker c.timed_text.result _ _
    (λ text writes.
    is_timed c.args.ms c.args.line.now c.time_of.result c.in_ok-object.object.items text.items (texts c.as_slice-words.result.now) c.of_words.result
    (ap (λ (ws : List (Bor (List ℕ))). texts ws) c.as_slice-words.ensures.value ∙ c.in_ok-words.ensures.words) c.time_of.ensures c.in_ok-object.ensures.object c.of_words.ensures
    (writes ∙ ap (λ (o : List ℕ). timed_text c.time_of.result c.of_words.result o) c.as_slice.ensures.value))
    c.timed_text.ensures.text
