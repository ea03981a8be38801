-- A life of a node that runs, over any store and whatever is outside.
use Rattle.std.specs.Prelude.{◌≡◌, ℕ, List, [], ◌++◌, Result, Ok, Err, IfOk, OnOk}
use Rattle.lisp_budget.specs.Budget.{unused}
use Rattle.lisp_policy.specs.Configuration.{ConfigValue}
use Rattle.lisp_policy.specs.Site.{SiteValue}
use Rattle.lisp_nonces.specs.Store.{StoreState}
use Rattle.lisp_model.specs.Network.{IsNetwork}
use Rattle.lisp_turns.specs.Beginning.{Begins, MayBegin, IsMute, IsWholePart}
use Rattle.lisp_turns.specs.Node.{NodeState}
use Rattle.lisp_turns.specs.Outside.{Call, OutsideState, ReadsClock, logged}
use Rattle.lisp_turns.specs.Requests.{ResolvingValue}
use Rattle.lisp_turns.specs.Stretch.{EndsTurns}
use Rattle.lisp_turns.specs.declared.turn.Uncommitted.{Uncommitted}
use Rattle.lisp_udp.specs.declared.life.Life.{Life}
use Rattle.lisp_udp.specs.declared.resolving.Answering.{Answering}

-- In what follows `seen` is what is known of what is outside, unless that failed; a Map-Server begins under these sites.

-- the clock is read, before a life begins
abbrev pub ReadsFirst : {O F : Type 0} → (O → OutsideState) → Result O F → Result O F → ℕ → Type 0
ReadsFirst seen (Ok before) (Ok started) now = ReadsClock (seen before) (seen started) now
ReadsFirst seen (Err fault) (Err same) now = (same ≡ fault) × (now ≡ 0)
ReadsFirst seen _ _ now = ⊥

-- a node began over its store at the moment that the clock told last
abbrev pub BeginsOver : {O F : Type 0} → (O → OutsideState) → ConfigValue → List SiteValue → ℕ → StoreState → Result O F → NodeState → Type 0
BeginsOver seen config sites number store outside begun = IfOk outside (λ started. Begins config sites number store (seen started).moment begun)

-- What a node of a network prints and sends from the moment on at which it began is a legal trace's part of it, if it may begin over its
-- store at that moment; of a turn that was lost others see nothing.
abbrev pub PlaysPart : ConfigValue → List SiteValue → ℕ → StoreState → ℕ → OutsideState → OutsideState → Result (Unit {0}) Uncommitted → Type 0
PlaysPart config sites number store now started over ended = MayBegin store now
    → (calls lost : List Call) × (over.log ≡ logged (lost ++ calls) started.log) × IsMute lost × OnOk ended (lost ≡ []) × IsWholePart config sites number store now calls

-- so it is of one that begins at the moment that its clock tells then; of one that began at the moment that it told last
abbrev pub RunsOver : {N O F : Type 0} → (O → OutsideState) → ConfigValue → List SiteValue → ℕ → StoreState → Result O F → Result (Life N O) F → Type 0
RunsOver seen config sites number store outside result = IsNetwork config → IfOk outside (λ before. IfOk result (λ life. (started : OutsideState) × (now : ℕ)
    × ReadsClock (seen before) started now × PlaysPart config sites number store now started (seen life.outside) life.ended))

abbrev pub RunsFrom : {N O F : Type 0} → (O → OutsideState) → ConfigValue → List SiteValue → ℕ → StoreState → Result O F → Result (Life N O) F → Type 0
RunsFrom seen config sites number store outside result = IsNetwork config → IfOk outside (λ started. IfOk result (λ life.
    PlaysPart config sites number store (seen started).moment (seen started) (seen life.outside) life.ended))

-- how it answers Map-Requests as it begins, as its user says: of its bytes a second to each destination, and of 262,144 to all, none is used
abbrev pub at_first : Answering → ResolvingValue
at_first answering = record { quiet = answering.quiet; budget = unused answering.each 262144 }

-- it begins over its store, at the moment that its clock tells then, and takes so many turns; fewer where a line can't be printed, or a
-- turn was lost. A is the kind of its memory, `state` what is known of the node
abbrev pub TakesItsTurns : {N O F : Type 0} → Type 0 → (N → NodeState) → (O → OutsideState) → ConfigValue → List SiteValue → ℕ → StoreState → (places : ℕ) (answering : Answering) (turns : ℕ) → Result O F → Result (Life N O) F → Type 0
TakesItsTurns A state seen config sites number store places answering turns outside result = IfOk outside (λ before. IfOk result (λ life. (started : OutsideState) × (now : ℕ)
    × ReadsClock (seen before) started now × (begun : NodeState) × Begins config sites number store now begun
    × EndsTurns A config number places turns begun (state life.node) (at_first answering) started (seen life.outside) life.ended))

-- so does one that began at the moment that the clock told last
abbrev pub TakesTurnsFrom : {N O F : Type 0} → Type 0 → (N → NodeState) → (O → OutsideState) → ConfigValue → List SiteValue → ℕ → StoreState → (places : ℕ) (answering : Answering) (turns : ℕ) → Result O F → Result (Life N O) F → Type 0
TakesTurnsFrom A state seen config sites number store places answering turns outside result = IfOk outside (λ started. IfOk result (λ life. (begun : NodeState)
    × Begins config sites number store (seen started).moment begun × EndsTurns A config number places turns begun (state life.node) (at_first answering) (seen started) (seen life.outside) life.ended))
