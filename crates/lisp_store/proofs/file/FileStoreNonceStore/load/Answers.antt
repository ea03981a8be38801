use Rattle.lisp_store.proofs.KeptFiles.{reads_kept}
use Rattle.lisp_store.proofs.file.FileStoreNonceStore.load.Goals as goal

pub returns-clause-member : goal.returns-clause-member
returns-clause-member g c honest =
    let read = c.read_nonce-loaded in
    rw c.counted.ensures.same (reads_kept (g.F.Folder.seen c.args.self.now.folder).files c.args.pair.now read.ensures.pair read.result read.ensures.range (read.ensures.nonce honest))
