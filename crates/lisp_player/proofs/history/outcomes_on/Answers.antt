use Rattle.std.proofs.Common.{ℕ, ◌+◌, List, [], ◌∷◌, Some, length, map, refl, ap, subst, ◌∙◌, arith}
use Rattle.std.proofs.lemmas.List.{length-map, take_all, length-append}
use Rattle.std.proofs.lemmas.List.Elements.{All-nil}
use Rattle.std.specs.String.{string_bytes}
use Rattle.lisp_script.specs.Command.{CommandValue, command_value}
use Rattle.lisp_player.specs.Outcomes.{ListsKept, OutcomesLead, TellsLine, texts}
use Rattle.lisp_player.specs.Playing.{Wrote}
use Rattle.lisp_player.proofs.Leading.{wrote_none}
use Rattle.lisp_player.proofs.Taking.{text_leads}
use Rattle.lisp_player.proofs.Telling.{all_next, no_outcomes, outcomes_next, told_next}
use Rattle.lisp_player.proofs.history.outcomes_on.Goals as goal

pub loop-command-init : goal.loop-command-init
loop-command-init g c = rw c.new-outcomes.ensures.items (wrote_none _ _ _ _ _ _, no_outcomes _ _, refl, All-nil _, All-nil _)

pub loop-command-preserved : goal.loop-command-preserved
loop-command-preserved g c =
    let pushed = c.in_ok-try_push.ensures.items in (
      told_next _ _ c.in_ok-outcome_on.field-0 pushed g.row.A.Denot g.A.Memory.may_refuse g.A.Memory.may_refuse c.args.world.now c.loop-command.world c.outcome_on.new.world c.args.config.now c.args.commands.now c.loop-command.command-index c.command-item.result c.loop-command-test.true c.command-item.is c.loop-command.invariant.0 (text_leads g.row.A.Denot g.A.Memory.may_refuse g.A.Memory.may_refuse _ _ _ (command_value c.command-item.result) (string_bytes c.in_ok-outcome_on.field-0.text) c.in_ok-outcome_on.field-0.line c.in_ok-outcome_on.ensures.turns),
      outcomes_next g.row.A.Denot g.A.Memory.may_refuse g.A.Memory.may_refuse c.args.config.now _ _ c.in_ok-outcome_on.field-0 pushed c.args.world.now c.loop-command.world c.outcome_on.new.world c.args.commands.now c.loop-command.command-index c.command-item.result c.loop-command-test.true c.command-item.is c.loop-command.invariant.1 c.in_ok-outcome_on.ensures.turns,
      ap length pushed ∙ length-append c.loop-command.outcomes.items (c.in_ok-outcome_on.field-0 ∷ []) ∙ ap (λ (n : ℕ). n + 1) c.loop-command.invariant.2,
      all_next _ _ c.in_ok-outcome_on.field-0 pushed (TellsLine c.args.config.now) c.loop-command.invariant.3 c.in_ok-outcome_on.ensures.line,
      all_next _ _ c.in_ok-outcome_on.field-0 pushed ListsKept c.loop-command.invariant.4 c.in_ok-outcome_on.ensures.kept,
    )

pub returns-clause-plays : goal.returns-clause-plays
returns-clause-plays g c =
    let long = length-map c.args.commands.now command_value in
    subst (λ (orders : List CommandValue). Wrote g.row.A.Denot g.A.Memory.may_refuse g.A.Memory.may_refuse c.args.world.now c.loop-command.world c.args.config.now orders (Some []) (Some (texts c.loop-command.outcomes.items)))
    (take_all c.loop-command.command-index (map command_value c.args.commands.now) (omega (arith, c.loop-command-test.false, long))) c.loop-command.invariant.0

pub returns-clause-each : goal.returns-clause-each
returns-clause-each g c =
    let long = length-map c.args.commands.now command_value in
    subst (λ (orders : List CommandValue). OutcomesLead g.row.A.Denot g.A.Memory.may_refuse g.A.Memory.may_refuse c.args.world.now c.loop-command.world c.args.config.now orders c.loop-command.outcomes.items)
    (take_all c.loop-command.command-index (map command_value c.args.commands.now) (omega (arith, c.loop-command-test.false, long))) c.loop-command.invariant.1
