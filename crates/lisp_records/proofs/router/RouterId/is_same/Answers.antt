use Rattle.std.proofs.lemmas.Bool.{eq-eqb}
use Rattle.lisp_records.proofs.Numbers.{sixteen_alike}
use Rattle.lisp_records.proofs.router.RouterId.is_same.Goals as goal

pub returns-then-self-other : goal.returns-then-self-other
returns-then-self-other c =
    let left = c.number_of.ensures in
    let right = c.number_of-then-self-other.ensures in
    rw (left.number, right.number, eq-eqb c.args.self.now.site c.args.other.now.site c.if-self-other.true) (sixteen_alike c.args.self.now.xtr c.args.other.now.xtr left.width right.width left.bytes right.bytes)
