-- What a Map-Server shows in a turn it holds at its end.
use Rattle.std.proofs.Common.{◌≡◌, ℕ, ◌-◌, Bool, true, false, List, [], ◌∷◌, Option, Some, None, refl, sym, ap, subst, ◌∙◌}
use Rattle.std.specs.Prelude.{if◌then◌else◌}
use Rattle.std.specs.List.{AllByRecursion}
use Rattle.std.specs.Option.{option_and_then}
use Rattle.std.proofs.lemmas.Bool.{lt-ltb}
use Rattle.lisp_records.specs.Row.{RowValue, IsAlive, is_alive}
use Rattle.lisp_policy.specs.Configuration.{ConfigValue}
use Rattle.lisp_nonces.specs.declared.fate.Fate.TheVariants.{Done}
use Rattle.lisp_lookup.specs.Table.{IsHeld, Expires, if_alive}
use Rattle.lisp_model.specs.declared.event.Event.TheVariants as events
use Rattle.lisp_model.specs.Trace.{EventValue}
use Rattle.lisp_refinement.specs.World.{ServerNodeState}
use Rattle.lisp_refinement.proofs.Gets.{none_is_some, same_some}
use Rattle.lisp_turns.specs.Act.{ActValue}
use Rattle.lisp_turns.specs.Acts.{TurnAct, DoesAll}
use Rattle.lisp_turns.specs.Due.{IsDuty}
use Rattle.lisp_turns.specs.Made.{IsMade}
use Rattle.lisp_turns.specs.Node.{NodeState, Server, Router, Passes}
use Rattle.lisp_turns.specs.Pause.{may_try}
use Rattle.lisp_turns.specs.Turn.{ServesIf}
use Rattle.lisp_turns.specs.declared.pause.Pause.{Pause}
use Rattle.lisp_deployment.specs.Told.{AnswersShowHeld}

-- a row that is found alive was there, and is so
alive_was : (row : Option RowValue) (now : ℕ) (h : RowValue) → option_and_then (if_alive now) row ≡ Some h → row ≡ Some h
alive_was None now h is = absurd (none_is_some is)
alive_was (Some g) now h is = by (is_alive g now) is
  where
    by : (b : Bool) → (if b then Some g else None) ≡ Some h → Some g ≡ Some h
    by true found = found
    by false found = absurd (none_is_some found)

alive_stays : (row : Option RowValue) (now : ℕ) (h : RowValue) → row ≡ Some h → IsAlive h now → option_and_then (if_alive now) row ≡ Some h
alive_stays row now h is alive = ap (option_and_then (if_alive now)) is ∙ ap (λ b. if b then Some h else None) (lt-ltb (now - h.accepted) h.life alive)

-- what is held stays so where dead rows go
held_on : (rows left : List RowValue) (now : ℕ) (held : List RowValue) → Expires rows left now → IsHeld rows now held → IsHeld left now held
held_on rows left now held expires is = record {
  rising = is.rising;
  each = λ h. (
    λ has. (let was = (is.each h).0 has in (expires h.router h.mapping.eid ∙ alive_stays _ now h was.0 was.1, was.1)),
    λ there. (is.each h).1 (alive_was _ now h (sym (expires h.router h.mapping.eid) ∙ there.0), there.1),
  );
}

-- the rows of a Map-Server
abbrev rows_of : NodeState → Option (List RowValue)
rows_of (Server n) = Some n.core.rows
rows_of (Router n) = None

-- a node that has rows is a Map-Server
server_with : (node : NodeState) (rows : List RowValue) → rows_of node ≡ Some rows → (n : ServerNodeState) × (node ≡ Server n) × (n.core.rows ≡ rows)
server_with (Server n) rows has = (n, refl, same_some n.core.rows rows has)
server_with (Router n) rows has = absurd (none_is_some has)

-- what is due at it changes none
one_duty : (A : Type 0) (config : ConfigValue) (number : ℕ) (old new : NodeState) (now : ℕ) (event : EventValue) (act : ActValue) (rows : List RowValue)
    → IsDuty number event → IsMade A config number old new now event act → rows_of old ≡ Some rows → rows_of new ≡ Some rows
one_duty A config number (Server old) (Server new) now (events.Resend server router) act rows duty (same, (me, router_is, answer, resends, alone, act_is)) has =
    ap (λ (x : ServerNodeState). Some x.core.rows) alone ∙ has
one_duty A config number (Server old) (Router new) now (events.Resend server router) act rows duty made has = absurd made.1
one_duty A config number (Server old) new now (events.Send router server part Done) act rows duty made has = absurd made.1
one_duty A config number (Router old) new now event act rows duty made has = absurd (none_is_some has)
one_duty A config number (Server old) new now _ act rows duty made has = absurd duty

all_duties : (A : Type 0) (config : ConfigValue) (number : ℕ) (old new : NodeState) (now : ℕ) (acts : List TurnAct) (rows : List RowValue)
    → AllByRecursion (λ (a : TurnAct). IsDuty number a.event) acts → DoesAll A config number old new now acts → rows_of old ≡ Some rows → rows_of new ≡ Some rows
all_duties A config number old new now [] rows duties same has = ap rows_of same ∙ has
all_duties A config number old new now (a ∷ earlier) rows (duty, duties) (between, did, does) has =
    one_duty A config number between new now a.event a.act rows duty does.made (all_duties A config number old between now earlier rows duties did has)

are_duties : (config : ConfigValue) (tries : Bool) (number : ℕ) (before after : NodeState) (now : ℕ) (pause left : Pause) (acts : List TurnAct)
    → ServesIf config tries number before after now pause left acts → AllByRecursion (λ (a : TurnAct). IsDuty number a.event) acts
are_duties config true number before after now pause left acts serves = serves.duties
are_duties config false number before after now pause left acts (none, same) = subst (AllByRecursion (λ (a : TurnAct). IsDuty number a.event)) (sym none) tt

-- dead rows go
passed_rows : (old new : NodeState) (now : ℕ) (rows : List RowValue) → Passes old new now → rows_of old ≡ Some rows
    → (left : List RowValue) × (rows_of new ≡ Some left) × Expires rows left now
passed_rows (Server old) (Server new) now rows passes has = (new.core.rows, refl, subst (λ (l : List RowValue). Expires l new.core.rows now) (same_some old.core.rows rows has) passes.rows)
passed_rows (Server old) (Router new) now rows passes has = absurd passes
passed_rows (Router old) new now rows passes has = absurd (none_is_some has)

pub answers_show_held : (A : Type 0) → AnswersShowHeld A
answers_show_held A config server calls old new takes known shown held is rows =
    let turn = takes.turn in
    let left = passed_rows turn.between turn.left turn.now shown.core.rows turn.withdrawn (ap rows_of is) in
    let duties = are_duties config (may_try (old.nodes server).sends turn.now) server turn.left (new.nodes server).node turn.now (old.nodes server).sends (new.nodes server).sends turn.served turn.serves in
    let node = server_with (new.nodes server).node left.0 (all_duties A config server turn.left (new.nodes server).node turn.now turn.served left.0 duties turn.did_serve left.1) in
    record {
      known = known;
      node = node.0;
      running = node.1;
      rows = subst (λ (p : List RowValue × ℕ). IsHeld p.0 p.1 held) {x = (left.0, turn.now)} {y = (node.0.core.rows, new.moment)} (λ i. (sym node.2 i, sym takes.moment i))
          (held_on shown.core.rows left.0 turn.now held left.2 rows);
    }
