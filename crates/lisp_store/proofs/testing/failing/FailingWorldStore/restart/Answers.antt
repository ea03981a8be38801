use Rattle.lisp_store.proofs.testing.failing.FailingWorldStore.restart.Goals as goal

pub returns-clause-narrows : goal.returns-clause-narrows
returns-clause-narrows g c q = rw (← c.self.view_is) (c.restart.ensures.narrows q)
