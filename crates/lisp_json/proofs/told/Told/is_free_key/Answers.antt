use Rattle.std.proofs.Common.{List, ap, ◌∙◌}
use Rattle.std.specs.List.{list_any}
use Rattle.std.specs.Str.{bytes_eq}
use Rattle.lisp_json.specs.Words.{is_key}
use Rattle.lisp_json.specs.declared.told.Member.{Member}
use Rattle.lisp_json.proofs.Taking.{is_free}
use Rattle.lisp_json.proofs.told.Told.is_free_key.Goals as goal

pub returns-then-is_key : goal.returns-then-is_key
returns-then-is_key g c =
    is_free (is_key c.args.word.now) c.has_name.result c.args.word.now c.args.self.now.members.items c.if-is_key.ensures
    (c.has_name.ensures ∙ ap (λ (ms : List Member). list_any (λ m. bytes_eq c.args.word.now m.name.now) ms) c.as_slice.ensures.value)
