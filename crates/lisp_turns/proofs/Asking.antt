-- Calls that were made, one after another.
use Rattle.std.proofs.Common.{◌≡◌, List, [], ◌∷◌, ◌++◌, Option, Some, None, refl, sym, ap, ◌∙◌}
use Rattle.std.proofs.lemmas.List.{append_assoc}
use Rattle.lisp_turns.specs.Outside.{Call, OutsideState, Logs, logged}
use Rattle.lisp_turns.specs.Stretch.{Asks}

pub logged_none : (log : Option (List Call)) → logged [] log ≡ log
logged_none None = refl
logged_none (Some calls) = refl

pub logged_twice : (xs ys : List Call) (log : Option (List Call)) → logged ys (logged xs log) ≡ logged (ys ++ xs) log
logged_twice xs ys None = refl
logged_twice xs ys (Some calls) = ap Some (sym (append_assoc ys xs calls))

pub asks_none : (s : OutsideState) → Asks s s []
asks_none s = ap (λ (log : Option (List Call)). record s { log = log }) (sym (logged_none s.log))

pub asks_one : (a b : OutsideState) (call : Call) → Logs a b call → Asks a b (call ∷ [])
asks_one a b call logs = logs ∙ (λ i. record { log = logged (call ∷ []) a.log; moment = a.moment; is_cut = sym (ap (λ (s : OutsideState). s.is_cut) logs) i; is_asked = a.is_asked })

pub asks_then : (a b c : OutsideState) (xs ys : List Call) → Asks a b xs → Asks b c ys → Asks a c (ys ++ xs)
asks_then a b c xs ys first second =
    let log = ap (λ (s : OutsideState). logged ys s.log) first ∙ logged_twice xs ys a.log in
    second ∙ (λ i. record { log = log i; moment = (first i).moment; is_cut = c.is_cut; is_asked = (first i).is_asked })
