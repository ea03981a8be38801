use Rattle.std.proofs.Common.{◌++◌, List, ap, ◌∙◌}
use Rattle.std.specs.Prelude.{string_bytes}
use Rattle.std.specs.List.{flat_map}
use Rattle.std.proofs.lemmas.List.{take_all}
use Rattle.lisp_policy.specs.Configuration.{ServerEntryValue}
use Rattle.lisp_lines.specs.Nodes.{server_words}
use Rattle.lisp_lines.proofs.Appends.{one_more}
use Rattle.lisp_lines.proofs.nodes.put_servers.Goals as goal

pub loop-server-preserved : goal.loop-server-preserved
loop-server-preserved g c =
    one_more server_words (string_bytes c.args.text.now) c.args.servers.now c.loop-server.server-index c.server-item.result _ _
    c.loop-server-test.true c.server-item.is c.loop-server.invariant c.in_ok-put_server.ensures.text

pub returns-clause-text : goal.returns-clause-text
returns-clause-text g c =
    c.loop-server.invariant ∙ ap (λ (xs : List ServerEntryValue). string_bytes c.args.text.now ++ flat_map server_words xs) (take_all c.loop-server.server-index c.args.servers.now c.loop-server-test.false)
