-- What was asked of a node's outside from its start on is a network's part.
use Rattle.std.proofs.Common.{◌≡◌, ℕ, List, [], false, Ok, Err, refl, ap, ◌∙◌}
use Rattle.lisp_policy.specs.Configuration.{ConfigValue}
use Rattle.lisp_policy.specs.Site.{SiteValue}
use Rattle.lisp_nonces.specs.Store.{StoreState}
use Rattle.lisp_model.specs.Network.{IsNetwork}
use Rattle.lisp_turns.specs.Beginning.{Begins, MayBegin, IsWholePart, RunsAsPart}
use Rattle.lisp_turns.specs.Node.{NodeState}
use Rattle.lisp_turns.specs.Outside.{Call, OutsideState, logged}
use Rattle.lisp_turns.specs.Requests.{ResolvingValue}
use Rattle.lisp_turns.specs.Stretch.{beginning, StartsTurns}
use Rattle.lisp_turns.specs.Turn.{TurnState, UncutTurns, LosesTurn, hearing_calls}
use Rattle.lisp_turns.specs.declared.turn.Uncommitted.{Uncommitted}
use Rattle.lisp_turns.proofs.Turning.{turns_are}
use Rattle.lisp_turns.proofs.Parts.{turns_are_parts, hearing_lines, hearing_sent}
use Rattle.lisp_turns.proofs.BeginningLater.{beginnings_stand}
use Rattle.lisp_turns.proofs.Asking.{logged_twice}

module _ (A : Type 0) (config : ConfigValue) (number places count : ℕ) (begun : NodeState) (resolving : ResolvingValue) (before : OutsideState) (last : TurnState)
    (took : UncutTurns A config number places count (beginning begun resolving before) last) (network : IsNetwork config) (sites : List SiteValue) (store : StoreState) (may : MayBegin store before.moment)
    (begins : Begins config sites number store before.moment begun) where
  -- what was asked in turns
  record AsksPart : Type 0 where
    pub calls : List Call
    pub asked : last.outside.log ≡ logged calls before.log
    pub part : IsWholePart config sites number store before.moment calls

  asks_part : AsksPart
  asks_part =
      let first = beginnings_stand config sites number store before.moment begun network may begins in
      let stood = first.3 in
      let on = turns_are_parts A config number places count _ _ (turns_are A config number places _ _ _ took) first.0 first.1 first.2 stood.stands stood.config_is stood.has stood.clock in
      record {
        calls = on.calls;
        asked = on.asked;
        part = record {
          first = first.0;
          opening = first.1;
          before = first.2;
          begun = stood.begun;
          config_is = stood.config_is;
          kept = stood.kept;
          unsent = stood.bag;
          steps = on.steps;
          left = on.left;
          part = on.part;
        };
      }

-- all turns
pub starts_as_part : {A : Type 0} {config : ConfigValue} {number places turns : ℕ} {begun node : NodeState} {resolving : ResolvingValue} {before after : OutsideState}
    → StartsTurns A config number places turns begun node resolving before after → RunsAsPart config number begun before after (Ok tt)
starts_as_part {A} {config} {number} {places} {turns} {begun} {node} {resolving} {before} starts = λ network sites store may begins.
    let part = asks_part A config number places starts.took.count begun resolving before _ starts.took.took network sites store may begins in
    (part.calls, [], part.asked, (refl, refl), refl, part.part)

-- turns, and one that is lost
pub loses_as_part : {A : Type 0} {config : ConfigValue} {number places turns : ℕ} {begun node : NodeState} {resolving : ResolvingValue} {before after : OutsideState} {why : Uncommitted}
    → LosesTurn A config number places turns why.turns_left (beginning begun resolving before) node after → RunsAsPart config number begun before after (Err why)
loses_as_part {A} {config} {number} {places} {turns} {begun} {node} {resolving} {before} {after} {why} loses = λ network sites store may begins.
    let part = asks_part A config number places loses.count begun resolving before loses.before loses.took network sites store may begins in
    let turn = loses.lost in
    let lost = hearing_calls number turn.reception turn.now turn.dead turn.intake false in (
      part.calls,
      lost,
      ap (λ (s : OutsideState). s.log) turn.calls ∙ ap (logged lost) part.asked ∙ logged_twice part.calls lost before.log,
      (hearing_lines number turn.reception turn.now turn.dead turn.intake false, hearing_sent number turn.reception turn.now turn.dead turn.intake false),
      tt,
      part.part,
    )
