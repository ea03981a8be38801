use Rattle.lisp_store.proofs.KeptFiles.{keeps_some}
use Rattle.lisp_store.proofs.file.FileStoreWorldStore.lose.Goals as goal

pub returns-clause-some : goal.returns-clause-some
returns-clause-some g c honest = keeps_some (g.F.Folder.seen c.args.self.now.folder).files (g.met.F.Folder.has_contents c.args.self.now.folder honest)
