use Rattle.std.proofs.Common.{◌≡◌, ◌==◌, ◌∷◌, reverse, ap, ◌∙◌}
use Rattle.lisp_store.specs.MemoryFolder.{MemoryFolderState, replace_answer}
use Rattle.lisp_store.proofs.MemoryFiles.{one_noted, contents_then, others_then, done_then, doubt_then}
use Rattle.lisp_store.proofs.testing.memory_folder.MemoryFolderFolder.replace.Given as given
use Rattle.lisp_store.proofs.testing.memory_folder.MemoryFolderFolder.replace.Goals as goal

-- what was done last, and that it is this call
last : (g : given.Over) (c : goal.After-answer g) → reverse c.note.new.replaced.items ≡ c.in_ok-last.last ∷ c.args.self.now.replaced
last g c = one_noted c.self.inside.replaced.items c.note.new.replaced.items c.in_ok-last.last c.args.self.now c.in_ok-note.ensures.noted (ap (λ (m : MemoryFolderState). m.replaced) c.self.view_is)

is : (g : given.Over) (c : goal.After-answer g) → c.in_ok-last.last ≡ record { name = c.args.name.now; bytes = c.args.bytes.now; failed = c.args.self.now.turn == 1 }
is g c = c.in_ok-last.ensures.value ∙ ap (λ (m : MemoryFolderState). record { name = c.args.name.now; bytes = c.args.bytes.now; failed = m.turn == 1 }) c.self.view_is

answer : (g : given.Over) (c : goal.After-answer g) → c.answer.result ≡ replace_answer c.args.self.now
answer g c = c.answer.ensures.answer ∙ ap replace_answer c.self.view_is

pub returns-clause-contents : goal.returns-clause-contents
returns-clause-contents g c has = contents_then c.args.self.now c.args.name.now c.args.bytes.now c.in_ok-last.last _ (last g c) (is g c)

pub returns-clause-done : goal.returns-clause-done
returns-clause-done g c honest = rw (answer g c) (done_then c.args.self.now c.args.name.now c.args.bytes.now c.in_ok-last.last _ (last g c) (is g c))

pub returns-clause-doubt : goal.returns-clause-doubt
returns-clause-doubt g c honest = rw (answer g c) (doubt_then c.args.self.now c.args.name.now c.args.bytes.now c.in_ok-last.last _ (last g c) (is g c))

pub returns-clause-others : goal.returns-clause-others
returns-clause-others g c honest q differ = others_then c.args.self.now c.args.name.now c.args.bytes.now c.in_ok-last.last _ (last g c) (is g c) q differ
