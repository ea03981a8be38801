use Rattle.std.proofs.lemmas.Result.{on_ok_weaker, on_err_weaker}
use Rattle.lisp_store.proofs.KeptFiles.{keeps_alone, keeps_in_doubt, keeps_others}
use Rattle.lisp_store.proofs.file.FileStoreNonceStore.save.Goals as goal

pub returns-clause-done : goal.returns-clause-done
returns-clause-done g c honest =
    let files = (g.F.Folder.seen c.write_nonce-saved.new.folder).files in
    rw c.counted.ensures.same (on_ok_weaker c.write_nonce-saved.result (keeps_alone files c.args.pair.now c.write_nonce-saved.ensures.pair c.args.nonce c.ranges.nonce.fits) (c.write_nonce-saved.ensures.done honest))

pub returns-clause-doubt : goal.returns-clause-doubt
returns-clause-doubt g c honest =
    let old = (g.F.Folder.seen c.args.self.now.folder).files in
    let files = (g.F.Folder.seen c.write_nonce-saved.new.folder).files in
    rw c.counted.ensures.same (on_err_weaker c.write_nonce-saved.result (keeps_in_doubt old files c.args.pair.now c.write_nonce-saved.ensures.pair c.args.nonce c.ranges.nonce.fits) (c.write_nonce-saved.ensures.doubt honest))

pub returns-clause-others : goal.returns-clause-others
returns-clause-others g c honest =
    let old = (g.F.Folder.seen c.args.self.now.folder).files in
    let files = (g.F.Folder.seen c.write_nonce-saved.new.folder).files in
    keeps_others old files c.args.pair.now c.write_nonce-saved.ensures.pair (c.write_nonce-saved.ensures.others honest)
