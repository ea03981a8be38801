use Rattle.std.proofs.Common.{◌++◌, List, ap, ◌∙◌}
use Rattle.std.specs.Prelude.{string_bytes}
use Rattle.std.specs.List.{flat_map}
use Rattle.std.proofs.lemmas.List.{take_all}
use Rattle.lisp_records.specs.Address.{PrefixValue}
use Rattle.lisp_lines.specs.Nodes.{resolve_words}
use Rattle.lisp_lines.proofs.Appends.{one_more}
use Rattle.lisp_lines.proofs.nodes.put_resolve.Goals as goal

pub loop-prefix-preserved : goal.loop-prefix-preserved
loop-prefix-preserved g c =
    one_more resolve_words (string_bytes c.args.text.now) c.args.resolve.now c.loop-prefix.prefix-index c.prefix-item.result _ _
    c.loop-prefix-test.true c.prefix-item.is c.loop-prefix.invariant c.in_ok-put_prefix.ensures.text

pub returns-clause-text : goal.returns-clause-text
returns-clause-text g c =
    c.loop-prefix.invariant ∙ ap (λ (xs : List PrefixValue). string_bytes c.args.text.now ++ flat_map resolve_words xs) (take_all c.loop-prefix.prefix-index c.args.resolve.now c.loop-prefix-test.false)
