use Rattle.std.proofs.Common.{rules, ◌≡◌, ◌<◌, ◌∙◌, None, Some, length, get_or}
use Rattle.lisp_records.specs.Parts.{part_count}
use Rattle.lisp_etr.specs.Rounds.{due_part}
use Rattle.lisp_etr.proofs.RoundsLaws.{due_place, first_found}
use Rattle.lisp_etr.proofs.etr.Etr.due.Goals as goal

pub returns-in_err-part-clause-due : goal.returns-in_err-part-clause-due
returns-in_err-part-clause-due g c =
    let count : c.parts-parts.result ≡ part_count c.args.self.now.database = search rules in
    let found : c.first_due.result ≡ Some c.in_ok-server.server = search rules in
    let rounds : c.deref.result.now ≡ c.args.self.now.rounds = search rules in
    let place = due_place c.args.now c.parts-parts.result (part_count c.args.self.now.database) c.in_ok-server.server c.deref.result.now c.args.self.now.rounds c.first_due.result c.first_due.ensures.place found count rounds in
    let within : c.in_ok-server.server < length c.args.self.now.rounds = search rules in
    let here : c.index.result.now ≡ get_or c.args.self.now.rounds c.in_ok-server.server c.index.result.now = search rules in
    let none : None ≡ due_part c.args.now (part_count c.args.self.now.database) c.index.result.now = search rules in
    let told : c.from_residual-in_err-part.result ≡ None = search rules in
    told ∙ first_found (due_part c.args.now (part_count c.args.self.now.database)) c.args.self.now.rounds c.in_ok-server.server c.index.result.now None place within here none

pub returns-clause-due : goal.returns-clause-due
returns-clause-due g c =
    let count : c.parts-parts.result ≡ part_count c.args.self.now.database = search rules in
    let found : c.first_due.result ≡ Some c.in_ok-server.server = search rules in
    let rounds : c.deref.result.now ≡ c.args.self.now.rounds = search rules in
    let place = due_place c.args.now c.parts-parts.result (part_count c.args.self.now.database) c.in_ok-server.server c.deref.result.now c.args.self.now.rounds c.first_due.result c.first_due.ensures.place found count rounds in
    let within : c.in_ok-server.server < length c.args.self.now.rounds = search rules in
    let here : c.index.result.now ≡ get_or c.args.self.now.rounds c.in_ok-server.server c.index.result.now = search rules in
    let part : Some c.in_ok-part.part ≡ due_part c.args.now (part_count c.args.self.now.database) c.index.result.now = search rules in
    first_found (due_part c.args.now (part_count c.args.self.now.database)) c.args.self.now.rounds c.in_ok-server.server c.index.result.now (Some c.in_ok-part.part) place within here part
