use Rattle.std.proofs.Common.{◌∙◌, ap, refl, inr, sym, arith, map, Result, Err}
use Rattle.std.proofs.lemmas.List.{length-map}
use Rattle.lisp_model.specs.Trace.{event_value}
use Rattle.lisp_model.specs.declared.line.Line.{Line}
use Rattle.lisp_model.specs.declared.world_fault.WorldFault.{WorldFault}
use Rattle.lisp_world.proofs.Taking.{possible_of, event_there, runs_none, runs_all, runs_next, stops_here, why_refused, at_error, at_value}
use Rattle.lisp_refinement.proofs.Headlines.{networks_promise}
use Rattle.lisp_world.proofs.world.World.run.Goals as goal

pub loop-i-init : goal.loop-i-init
loop-i-init g c = (runs_none _ _ c.args.self.now c.args.lines.now.items (map event_value c.args.events.now), λ calm. calm)

pub returns-then-is_err : goal.returns-then-is_err
returns-then-is_err g c =
    let there = event_there c.args.events.now c.loop-i.i c.index-events-i.result c.loop-i-test.true c.index-events-i.is in
    record {
      runs = stops_here _ _ _ _ _ _ _ _ _ _ c.make_room.ensures.items there c.loop-i.invariant.0 _ _ refl (inr refl);
      headline = networks_promise _;
      memory = λ out. at_error c.make_room.result (sym c.is_err.ensures.value ∙ c.if-is_err.true) c.make_room.ensures.refused;
      calm = c.loop-i.invariant.1;
    }

pub push_reserved-requires : goal.push_reserved-requires
push_reserved-requires g c =
    let room = at_value c.make_room.result (sym c.is_err.ensures.value ∙ c.if-is_err.false) c.make_room.ensures.ok in
    omega (arith, room)

pub returns-in-Err : goal.returns-in-Err
returns-in-Err g c =
    let there = event_there c.args.events.now c.loop-i.i c.index-events-i.result c.loop-i-test.true c.index-events-i.is in
    record {
      runs = stops_here _ _ _ _ _ _ _ _ _ _ c.make_room.ensures.items there c.loop-i.invariant.0 _ _ c.in-Err.ensures.err (why_refused Line _ _ c.in-Err.ensures.fault);
      headline = networks_promise _;
      memory = λ out. c.in-Err.ensures.memory (ap refused out);
      calm = λ calm. c.step.ensures.calm.calm (c.loop-i.invariant.1 calm);
    }
  where
    refused : WorldFault → Result Line WorldFault
    refused fault = Err fault

pub loop-i-preserved : goal.loop-i-preserved
loop-i-preserved g c =
    let there = event_there c.args.events.now c.loop-i.i c.index-events-i.result c.loop-i-test.true c.index-events-i.is in (
      runs_next _ _ _ _ (map event_value c.args.events.now) _ _ _ _ _ c.make_room.ensures.items there c.loop-i.invariant.0 _ _ _ c.push_reserved.ensures.items (record { possible = possible_of _ _ c.in-Ok.ensures.fault; stands = c.in-Ok.ensures.stands; calm = c.in-Ok.ensures.calm; tells = c.in-Ok.ensures.tells }),
      λ calm. c.step.ensures.calm.calm (c.loop-i.invariant.1 calm),
    )

pub returns : goal.returns
returns g c =
    let runs = runs_all _ _ _ _ _ _ _ c.loop-i.i (omega (arith, length-map c.args.events.now event_value, c.loop-i-test.false)) c.loop-i.invariant.0 in
    record { runs = runs; headline = networks_promise _; memory = tt; calm = c.loop-i.invariant.1 }
