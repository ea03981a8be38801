use Rattle.std.proofs.Common.{◌≡◌, sym, subst, true, arith, rules}
use Rattle.std.specs.Prelude.{OnOk}
use Rattle.sqlite.specs.State.{HasCleanDisk, Survives}
use Rattle.sqlite.specs.Held.{state}
use Rattle.sqlite.proofs.StateLemmas.{survives_then}
use Rattle.sqlite.proofs.Callers.{survives_begin}
use Rattle.lisp_database.specs.Kept.{AreMade, MakesTables}
use Rattle.lisp_database.proofs.Calls.{if_done}
use Rattle.lisp_database.proofs.Making.{both, tables_made}
use Rattle.lisp_database.proofs.tables.create.Goals as goal

pub returns-clause-made : goal.returns-clause-made
returns-clause-made g c clean =
    let old = c.args.connection.now in
    let mid = c.execute.new.self.conn.now in
    let last = c.execute-2.new.self.conn.now in
    let begun = c.transaction-transaction.ensures.begun in
    let end = c.commit.new.self.0 in
    let same : end ≡ c.connection-2-1.given.0 = search rules in
    let late : HasCleanDisk (state g.S.Store end) = search rules in
    let clean_last : HasCleanDisk (state g.S.Store last) = omega (arith, late, c.commit.ensures.survives.clean) in
    let one = c.in_ok-execute.ensures.runs (omega (arith, clean_last, c.execute-2.ensures.survives.clean)) (rw begun) in
    let two = c.in_ok-execute-2.ensures.runs clean_last one.1.mode in
    let made = both (state g.S.Store (record old { in_transaction = true })) (state g.S.Store mid) (state g.S.Store last) _ _ c.requires (rw begun at one.0) two.0 in
    subst (λ h. OnOk c.commit.result (MakesTables (state g.S.Store h))) same
    (if_done c.commit.result _ _ (λ ok. tables_made (state g.S.Store last) (state g.S.Store end) made ok.1) (c.commit.ensures.ok late))

pub returns-clause-crash : goal.returns-clause-crash
returns-clause-crash g c =
    let old = c.args.connection.now in
    let mid = c.execute.new.self.conn.now in
    let last = c.execute-2.new.self.conn.now in
    let begun = c.transaction-transaction.ensures.begun in
    let end = c.commit.new.self.0 in
    let ran = λ (clean : HasCleanDisk (state g.S.Store last)).
    let one = c.in_ok-execute.ensures.runs (omega (arith, clean, c.execute-2.ensures.survives.clean)) (rw begun) in
    let two = c.in_ok-execute-2.ensures.runs clean one.1.mode in
    (both (state g.S.Store (record old { in_transaction = true })) (state g.S.Store mid) (state g.S.Store last) _ _ c.requires (rw begun at one.0) two.0).1 in
    let inside = survives_then (state g.S.Store c.transaction-transaction.result.conn.now) (state g.S.Store mid) (state g.S.Store last) _ _ (λ _. ⊥) (λ _ db none. none) (λ _ db none. none)
    c.execute.ensures.survives c.execute-2.ensures.survives in
    let whole = survives_then (state g.S.Store old) (state g.S.Store last) (state g.S.Store end) _ _ AreMade (λ _ db none. absurd none)
    (λ clean db is. subst AreMade (sym is) (ran (omega (arith, clean, c.commit.ensures.survives.clean)))) (survives_begin g.S.Store old (state g.S.Store last) _ (rw begun at inside)) c.commit.ensures.survives in
    let same : end ≡ c.connection-2-1.given.0 = search rules in
    subst (λ h. Survives (state g.S.Store old) (state g.S.Store h) AreMade) same whole
