use Rattle.lisp_store.proofs.KeptFiles.{keeps_some}
use Rattle.lisp_store.proofs.file.FileStoreWorldStore.restart.Goals as goal

pub returns-clause-narrows : goal.returns-clause-narrows
returns-clause-narrows g c honest pair = record { some = keeps_some (g.F.Folder.seen c.args.self.now.folder).files (g.met.F.Folder.has_contents c.args.self.now.folder honest) pair; each = λ value at. at }
