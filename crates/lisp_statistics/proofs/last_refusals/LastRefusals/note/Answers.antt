use Rattle.std.proofs.Common.{Some, ap, sym}
use Rattle.std.specs.Option.{is_some}
use Rattle.lisp_statistics.proofs.Places.{not_placed, placed}
use Rattle.lisp_statistics.proofs.last_refusals.LastRefusals.note.Goals as goal

pub returns-in-Some : goal.returns-in-Some
returns-in-Some g c =
    let found = c.in-Some.ensures.value in
    placed c.args.self.now.by_address _ c.args.from.now c.args.number _ found ((c.get_mut.follows.holds (Some c.args.number)).3 (sym (ap is_some found)))

pub returns-in_default : goal.returns-in_default
returns-in_default g c = not_placed c.args.self.now.by_address _ c.args.from.now c.args.number c.in_default.ensures.value c.get_mut.follows.holds-at-none
