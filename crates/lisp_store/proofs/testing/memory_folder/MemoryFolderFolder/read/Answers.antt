use Rattle.std.proofs.Common.{length, reverse, Option, List, ℕ, sym, ap, subst, ◌∙◌}
use Rattle.lisp_store.specs.Folder.{IsFront}
use Rattle.lisp_store.specs.MemoryFolder.{MemoryFolderState, ReplacedValue, first_content, content_found}
use Rattle.lisp_store.proofs.MemoryFiles.{first_found, has_first}
use Rattle.lisp_store.proofs.testing.memory_folder.MemoryFolderFolder.read.Goals as goal

-- the content that is copied is the first
pub returns-clause-first : goal.returns-clause-first
returns-clause-first g c =
    let content = c.content.ensures
    ∙ ap (λ (items : List ReplacedValue). content_found c.args.name.now (reverse items)) c.deref.ensures.value
    ∙ ap (λ (m : MemoryFolderState). content_found c.args.name.now m.replaced) c.self.view_is
    ∙ sym (first_found c.args.self.now c.args.name.now) in
    subst (λ (content : Option (List ℕ)). IsFront (length c.copied.new.buffer) c.copied.result c.copied.new.buffer content) content c.copied.ensures.front

pub returns-clause-content : goal.returns-clause-content
returns-clause-content g c honest = (first_content c.args.self.now c.args.name.now, has_first c.args.self.now c.args.name.now, returns-clause-first g c)
