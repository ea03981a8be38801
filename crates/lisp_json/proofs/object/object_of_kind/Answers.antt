use Rattle.std.specs.Option.{option_map}
use Rattle.std.proofs.lemmas.Result.{IfOk-weaker}
use Rattle.lisp_json.specs.Views.{explained_view, told_view}
use Rattle.lisp_json.specs.Words.{texts}
use Rattle.lisp_json.proofs.Lines.{is_object}
use Rattle.lisp_json.proofs.object.object_of_kind.Goals as goal

pub returns-clause-object : goal.returns-clause-object
returns-clause-object g c =
    IfOk-weaker c.object_text.result _ _
    (λ object text.
    is_object c.args.kind.now (texts c.args.words.now) (option_map explained_view c.explained_in.result) (told_view c.take_names.new.self) (told_view c.take_number.new.self) (told_view c.take_words.new.self)
    (texts c.in_ok-named.named.now) (texts c.in_ok-numbered.numbered.now) object.items c.in_ok-named.ensures.told c.explained_in.ensures c.in_ok-numbered.ensures.told c.in_ok-take_words.ensures.told text)
    c.object_text.ensures.text
