use Rattle.std.proofs.Common.{◌≡◌, Ok, Err, ap, subst, sym, ◌∙◌}
use Rattle.std.proofs.lemmas.Result.{err_from_is_err_and}
use Rattle.lisp_records.specs.Database.{database_of}
use Rattle.lisp_etr.specs.Etr.{EtrState}
use Rattle.lisp_etr.proofs.Refusals.{send_fault, store_fault}
use Rattle.lisp_etr.proofs.etr.Etr.send.Goals as goal

pub returns-clause-fits : goal.returns-clause-fits
returns-clause-fits g c = subst (λ (s : EtrState). database_of s.database ≡ Ok s.database) c.self.view_is c.parts.ensures.fits

pub returns-in_err-self-inside-clause-store : goal.returns-in_err-self-inside-clause-store
returns-in_err-self-inside-clause-store g c =
    let fault = err_from_is_err_and c.from_residual-in_err-self-inside.result c.from_residual-in_err-self-inside.ensures.1 in
    let save = c.in_err-self-inside.ensures in
    rw (← c.self.view_is, fault.1 ∙ ap Err fault.2) (record {
      safe = tt;
      keeps_safe = save.still_safe;
      settles = λ honest. tt;
      leaves = save.leaves;
      others = save.others;
      unasked = save.unasked;
      saved = λ honest above. tt;
      saves = λ above. tt;
      save_fails = λ failed. save.save_fails (ap Err (send_fault failed));
      doubted = λ failed. save.doubted (ap Err (send_fault failed));
      refused = save.refused;
      cause = λ failed. save.cause (ap Err (send_fault failed));
      sound = λ damaged. save.store.2 (store_fault (ap Err (sym save.store.1) ∙ damaged));
      proceeds = save.proceeds;
    })

pub returns-clause-store : goal.returns-clause-store
returns-clause-store g c =
    let save = c.in_ok-self-inside.ensures in
    rw (← c.self.view_is) (record {
      safe = save.safe;
      keeps_safe = save.keeps_safe;
      settles = save.settles;
      leaves = λ honest. tt;
      others = save.others;
      unasked = save.unasked;
      saved = save.saved;
      saves = save.saves;
      save_fails = λ clash. absurd cc;
      doubted = λ clash. absurd cc;
      refused = tt;
      cause = λ clash. absurd cc;
      sound = λ clash. absurd cc;
      proceeds = save.proceeds;
    })
