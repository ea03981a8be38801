-- No change between two entries of a router: no event in between names a database for it.
use Rattle.std.specs.Prelude.{◌≡◌, ℕ, ◌<◌, ◌==◌, Bool, false, List, reverse, slice_get, Some}
use Rattle.lisp_model.specs.declared.event.Event.TheVariants as events
use Rattle.lisp_model.specs.Trace.{EventValue, Step}
use Rattle.lisp_model.specs.History.{SentRegister}

-- the event names a database for the router
abbrev pub gives_database : EventValue → ℕ → Bool
gives_database (events.Change router _) r = router == r
gives_database (events.Restart node _ (Some _)) r = node == r
gives_database (events.Lose node _ (Some _)) r = node == r
gives_database _ r = false

-- no step with a place between the two does, the first step having place 0
abbrev pub Keeps : List Step → ℕ → ℕ → ℕ → Type 0
Keeps T router first last = (place : ℕ) (s : Step) → first < place → place < last → slice_get (reverse T) place ≡ Some s
    → gives_database s.event router ≡ false

pub record NoChange (T : List Step) (a b : SentRegister) : Type 0 where
  pub router : a.router ≡ b.router
  pub later : Keeps T a.router a.position b.position
  pub earlier : Keeps T a.router b.position a.position
