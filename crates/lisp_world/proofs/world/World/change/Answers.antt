use Rattle.std.proofs.Common.{[], ◌∙◌, append-nil, sym, ap, length, arith}
use Rattle.std.proofs.lemmas.List.{length-set}
use Rattle.lisp_nodes.proofs.RouterCalls.{acted, same_bag, changed_line}
use Rattle.lisp_world.proofs.Taking.{event_taken, changed_tells}
use Rattle.lisp_world.proofs.world.World.change.Goals as goal

pub returns : goal.returns
returns g c =
    let there = rw (← c.self.view_is) at c.in_ok-place.ensures.place in
    let possible = rw (← c.self.view_is) at c.in_ok-place.ensures.fault in
    let said = c.changed.ensures
    ∙ changed_line c.args.router (length c.records-records.result.now) c.args.db.now c.index_mut.result.now.core c.change-is_up.result (ap length c.records-records.ensures.value) c.change-is_up.ensures.1 in
    rw (← c.self.view_is)
    (event_taken _ _ (Unit {0}) _ _ _ _ (sym possible) (record {
      acts = acted _ _ _ c.in_ok-place.place [] c.index_mut.result.now c.change-is_up.new.self there c.index_mut.ensures.value (same_bag _ _ (sym (append-nil c.self.inside.bag.items)));
      fits = c.records-records.ensures.fits;
      changes = rw (← c.in_ok-copy.ensures.equal) c.change-is_up.ensures.0;
      said = said;
    }) (changed_tells _ _ c.args.router c.args.db.now _ _ said))

pub index_mut-requires : goal.index_mut-requires
index_mut-requires g c =
    omega (arith, rw (← c.self.view_is) at c.in_ok-place.ensures.place, c.self.inside.routers.ok.0)

-- as many routers as before
pub invariant_of-self : goal.invariant_of-self
invariant_of-self g c =
    (c.self.invariant.0, omega (arith, length-set c.self.inside.routers.items c.in_ok-place.place c.change-is_up.new.self, c.self.invariant.1))
