use Rattle.std.proofs.Common.{◌++◌, List, ap, ◌∙◌}
use Rattle.std.specs.Prelude.{string_bytes}
use Rattle.std.specs.List.{flat_map}
use Rattle.std.proofs.lemmas.List.{take_all}
use Rattle.lisp_policy.specs.Configuration.{RouterEntryValue}
use Rattle.lisp_lines.specs.Nodes.{router_words}
use Rattle.lisp_lines.proofs.Appends.{one_more}
use Rattle.lisp_lines.proofs.nodes.put_routers.Goals as goal

pub loop-router-preserved : goal.loop-router-preserved
loop-router-preserved g c =
    one_more router_words (string_bytes c.args.text.now) c.args.routers.now c.loop-router.router-index c.router-item.result _ _
    c.loop-router-test.true c.router-item.is c.loop-router.invariant c.in_ok-put_router.ensures.text

pub returns-clause-text : goal.returns-clause-text
returns-clause-text g c =
    c.loop-router.invariant ∙ ap (λ (xs : List RouterEntryValue). string_bytes c.args.text.now ++ flat_map router_words xs) (take_all c.loop-router.router-index c.args.routers.now c.loop-router-test.false)
