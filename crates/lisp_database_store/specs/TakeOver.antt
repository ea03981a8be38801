-- What a take-over of files makes of a database.
use Rattle.std.specs.Prelude.{◌≡◌, ◌⊎◌, ℕ, List, length}
use Rattle.lisp_store.specs.declared.kept_nonce.KeptNonce.{KeptNonce}
use Rattle.lisp_database_store.specs.Meaning.{Meaning}
use Rattle.lisp_database_store.specs.Table.{TakesAll}
use Rattle.lisp_database_store.specs.declared.database.Database.{Database}

-- there was no file, and nothing changed; or so many nonces are kept
abbrev pub TakesOver : {T : Type 0} → Meaning T → Database T → Database T → ℕ → Type 0
TakesOver means old new count =
    ((count ≡ 0) × (new ≡ old)) ⊎ ((nonces : List KeptNonce) × (count ≡ length nonces) × TakesAll means old.table new.table nonces)
