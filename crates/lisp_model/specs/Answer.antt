-- Answer: who answers for an address (RFC 9301 section 8.3).
use Rattle.std.specs.Prelude.{ℕ, List}
use Rattle.lisp_records.specs.declared.address.Addr.{Addr}
use Rattle.lisp_lookup.specs.declared.answer.Answer.{Answer}
use Rattle.lisp_lookup.specs.Answer.{Answers}
use Rattle.lisp_model.specs.Trace.{Step, Opening, sites, clock}
use Rattle.lisp_model.specs.Held.{rows}
use Rattle.lisp_model.specs.Bag.{since_start}

-- a server answers by the rows that it holds now
abbrev pub IsAnswer : {A : Type 0} → Opening → List Step → ℕ → Addr → Answer A → Type 0
IsAnswer o T server addr answer = Answers (rows (since_start o T server) (clock T)) (sites o T server) addr (clock T) answer
