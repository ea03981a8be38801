use Rattle.lisp_check.proofs.Among.{among_same, some_among}
use Rattle.lisp_check.proofs.line.entry_headers.Goals as goal

pub returns-in_ok-owner-in-Some : goal.returns-in_ok-owner-in-Some
returns-in_ok-owner-in-Some c = some_among (λ headers. headers.now) c.numbered-in-Some.result _ _ c.numbered-in-Some.ensures (among_same _ _ _ c.in_ok-headers.ensures c.headers.ensures)

pub returns-in_default : goal.returns-in_default
returns-in_default c = among_same _ _ _ c.in_ok-headers.ensures c.headers.ensures
