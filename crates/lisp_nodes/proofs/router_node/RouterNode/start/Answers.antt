use Rattle.std.proofs.Common.{List, ap, refl, subst, sym, ◌∙◌}
use Rattle.std.specs.Option.{unwrap_or}
use Rattle.lisp_records.specs.Record.{MapRecordValue}
use Rattle.lisp_etr.specs.{Config.EtrConfigValue, Etr.EtrState}
use Rattle.lisp_refinement.specs.{World.Down, Calls.CoreAnswersStart}
use Rattle.lisp_nodes.specs.Cores.{core_of}
use Rattle.lisp_nodes.proofs.RouterCalls.{no_fault, same_fault}
use Rattle.lisp_nodes.proofs.router_node.RouterNode.start.Goals.{in-Ok, in-Err}
use Rattle.lisp_nodes.proofs.router_node.RouterNode.start.Goals as goal

pub returns-clause-starts : goal.returns-clause-starts
returns-clause-starts g c =
    rw (← c.self.view_is)
    (record {
      starts = subst (λ (from : EtrConfigValue × List MapRecordValue). CoreAnswersStart from.0 from.1 c.args.how.now (g.S.NonceStore.seen c.self.inside.store) (g.S.NonceStore.seen c.start.new.store) (core_of c.match-start.core.0) c.match-start.core.1)
          (λ i. (c.stopped-config.ensures.config i, (c.unwrap_or-database.ensures ∙ ap (unwrap_or c.args.how.db) c.stopped-config.ensures.database) i))
          (elim c.match-start.branch [
            | in-Ok w ↦ rw w.core-is (record { etr = w.in-Ok.etr; up = refl; starts = w.in-Ok.ensures.started; last = w.in-Ok.ensures.last })
            | in-Err w ↦ rw w.core-is (record { down = λ i. Down (w.in-Err.ensures.back.0 i) (w.in-Err.ensures.back.1 i); cause = w.in-Err.ensures.cause })
          ]);
      same = c.start.ensures.same;
      proceeds = c.start.ensures.proceeds;
    })

-- its key is that of what it started from
pub invariant_of-result : goal.invariant_of-result
invariant_of-result g c =
    let same = c.self.invariant ∙ ap (λ (s : EtrConfigValue). s.key_id) (sym c.stopped-config.ensures.config) in
    elim c.match-start.branch [
      | in-Ok w ↦ rw w.core-is (same ∙ ap (λ (e : EtrState). e.config.key_id) (sym w.in-Ok.ensures.started))
      | in-Err w ↦ rw w.core-is (same ∙ ap (λ (s : EtrConfigValue). s.key_id) (sym w.in-Err.ensures.back.0))
    ]

pub returns-clause-memory : goal.returns-clause-memory
returns-clause-memory g c = elim c.match-start.branch [
  | in-Ok w ↦ rw w.core-is (no_fault _ _)
  | in-Err w ↦ rw w.core-is (λ is. w.in-Err.ensures.memory (same_fault _ _ is))
]

pub returns-clause-store_memory : goal.returns-clause-store_memory
returns-clause-store_memory g c = elim c.match-start.branch [
  | in-Ok w ↦ rw w.core-is (no_fault _ _)
  | in-Err w ↦ rw w.core-is (λ is. w.in-Err.ensures.store_memory (same_fault _ _ is))
]
