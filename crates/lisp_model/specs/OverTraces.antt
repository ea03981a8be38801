-- What laws over traces say: a promise holds of each.
use Rattle.std.specs.Prelude.{List, ◌∷◌}
use Rattle.lisp_model.specs.Trace.{Opening, Step}
use Rattle.lisp_model.specs.Legal.{Legal, LegalTrace}
use Rattle.lisp_model.specs.Clean.{Clean}
use Rattle.lisp_model.specs.Network.{IsNetwork}

-- of each legal trace
abbrev pub OfLegalTraces : (Opening → List Step → Type 0) → Type 0
OfLegalTraces P = (o : Opening) (T : List Step) → LegalTrace o T → P o T

-- of each legal step after a legal trace
abbrev pub OfLegalSteps : (Opening → List Step → Step → Type 0) → Type 0
OfLegalSteps P = (o : Opening) (T : List Step) (s : Step) → LegalTrace o T → Legal o T s → P o T s

-- of each legal and clean trace of a network
abbrev pub OfCleanTraces : (Opening → List Step → Type 0) → Type 0
OfCleanTraces P = (o : Opening) (T : List Step) → IsNetwork o.config → LegalTrace o T → Clean o T → P o T

-- of the last step of each
abbrev pub OfCleanSteps : (Opening → List Step → Step → Type 0) → Type 0
OfCleanSteps P = (o : Opening) (T : List Step) (s : Step) → IsNetwork o.config → LegalTrace o (s ∷ T) → Clean o (s ∷ T)
    → P o T s
