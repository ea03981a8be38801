use Rattle.std.proofs.Common.{◌≡◌, ◌∙◌, arith}
use Rattle.std.proofs.lemmas.Result.{IfOk-weaker}
use Rattle.lisp_player.specs.Asked.{fault_text, missing_text}
use Rattle.lisp_player.proofs.Queries.{missing_wrong, missing_none}
use Rattle.lisp_player.proofs.asked.missing_line.Goals as goal
use Rattle.lisp_player.proofs.asked.missing_line.Goals.{then-node-node_count, else-node-node_count}

pub returns-clause-text : goal.returns-clause-text
returns-clause-text g c =
    let why : fault_text c.if-node-node_count.fault ≡ missing_text c.args.config.now c.args.node =
    elim c.if-node-node_count.branch [
      | then-node-node_count w ↦ missing_wrong c.args.config.now c.args.node c.if-node-node_count.fault w.fault-is (omega (arith, c.node_count.ensures, w.if-node-node_count.true))
      | else-node-node_count w ↦ missing_none c.args.config.now c.args.node c.if-node-node_count.fault w.fault-is (omega (arith, c.node_count.ensures, w.if-node-node_count.false))
    ] in
    IfOk-weaker c.fault_line.result _ _ (λ text is. is ∙ why) c.fault_line.ensures.text
