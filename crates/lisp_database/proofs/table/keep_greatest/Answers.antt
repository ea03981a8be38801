use Rattle.std.proofs.Common.{refl, arith}
use Rattle.sqlite.specs.State.{HasCleanDisk}
use Rattle.sqlite.specs.Held.{state}
use Rattle.lisp_database.proofs.Calls.{if_failed}
use Rattle.lisp_database.proofs.Greatest.{leaves_after, still_of_nonces, rises, crash, commits_nothing}
use Rattle.lisp_database.proofs.table.keep_greatest.Goals as goal

pub returns-clause-greatest : goal.returns-clause-greatest
returns-clause-greatest g c has clean =
    let old = state g.S.Store c.args.connection.now in
    let mid = state g.S.Store c.load_nonce.new.connection in
    let new = state g.S.Store c.save_nonce.new.connection in
    let clean_mid : HasCleanDisk mid = omega (arith, clean, c.save_nonce.ensures.crash.clean) in
    let same = c.in_ok-kept.ensures.unchanged has.tables clean_mid in
    rises old mid new c.args.pair.now c.args.nonce c.in_ok-kept.kept same (c.in_ok-kept.ensures.kept has clean_mid) (c.if-is_as_great.ensures.rises refl)
    (c.in_ok-save_nonce.ensures.saved (still_of_nonces old mid same has) clean)

pub returns-clause-crash : goal.returns-clause-crash
returns-clause-crash g c =
    let old = state g.S.Store c.args.connection.now in
    let mid = state g.S.Store c.load_nonce.new.connection in
    let new = state g.S.Store c.save_nonce.new.connection in
    crash old mid new c.args.pair.now c.args.nonce (λ has clean. c.in_ok-kept.ensures.unchanged has (omega (arith, clean, c.save_nonce.ensures.crash.clean))) c.load_nonce.ensures.crash c.save_nonce.ensures.crash

pub returns-in_err-save_nonce-clause-crash : goal.returns-in_err-save_nonce-clause-crash
returns-in_err-save_nonce-clause-crash g c =
    let old = state g.S.Store c.args.connection.now in
    let mid = state g.S.Store c.load_nonce.new.connection in
    let new = state g.S.Store c.save_nonce.new.connection in
    crash old mid new c.args.pair.now c.args.nonce (λ has clean. c.in_ok-kept.ensures.unchanged has (omega (arith, clean, c.save_nonce.ensures.crash.clean))) c.load_nonce.ensures.crash c.save_nonce.ensures.crash

pub returns-in_err-save_nonce-clause-failed : goal.returns-in_err-save_nonce-clause-failed
returns-in_err-save_nonce-clause-failed g c has clean =
    let old = state g.S.Store c.args.connection.now in
    let mid = state g.S.Store c.load_nonce.new.connection in
    let new = state g.S.Store c.save_nonce.new.connection in
    if_failed c.from_residual-in_err-save_nonce.result _
    (leaves_after old mid new (c.in_ok-kept.ensures.unchanged has (omega (arith, clean, c.save_nonce.ensures.crash.clean))) (c.in_err-save_nonce.ensures.failed clean))

pub returns-in_err-kept-clause-crash : goal.returns-in_err-kept-clause-crash
returns-in_err-kept-clause-crash g c = commits_nothing (state g.S.Store c.args.connection.now) (state g.S.Store c.load_nonce.new.connection) c.args.pair.now c.args.nonce c.load_nonce.ensures.crash

pub returns-then-is_as_great-clause-crash : goal.returns-then-is_as_great-clause-crash
returns-then-is_as_great-clause-crash g c = commits_nothing (state g.S.Store c.args.connection.now) (state g.S.Store c.load_nonce.new.connection) c.args.pair.now c.args.nonce c.load_nonce.ensures.crash
