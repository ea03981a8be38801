-- What the files of a folder are found to keep.
use Rattle.std.specs.Prelude.{ℕ, List, [], ◌∷◌, Option, Some, Result, Ok, Err}
use Rattle.std.specs.declared.io.ErrorKind.{ErrorKind}
use Rattle.std.specs.declared.io.ErrorKind.TheVariants as kinds
use Rattle.lisp_nonces.specs.declared.pair.Pair.{Pair}
use Rattle.lisp_nonces.specs.declared.fault.StoreFault.{StoreFault}
use Rattle.lisp_nonces.specs.declared.fault.StoreFault.TheVariants as faults
use Rattle.lisp_store.specs.declared.kept_nonce.KeptNonce.{KeptNonce}
use Rattle.lisp_store.specs.declared.found_files.Damage.{Damage}
use Rattle.lisp_store.specs.declared.found_files.Damage.TheVariants.{Content, NoFile, Denied, Unread}
use Rattle.lisp_store.specs.declared.found_files.DamagedFile.{DamagedFile}

-- why a file can't be read, by the kind of the device's error
abbrev pub damage_by_kind : Option ErrorKind → Damage
damage_by_kind (Some kinds.InvalidInput) = NoFile
damage_by_kind (Some kinds.PermissionDenied) = Denied
damage_by_kind _ = Unread

-- the nonce that a load of a pair found, if it found one
abbrev pub nonces_in : Pair → Result (Option ℕ) StoreFault → List KeptNonce
nonces_in pair (Ok (Some nonce)) = record { pair = pair; nonce = nonce } ∷ []
nonces_in pair _ = []

-- the file of a pair, if a load of it found it damaged, or failed by the device with an error of a kind
abbrev pub damaged_in : Pair → Option ErrorKind → Result (Option ℕ) StoreFault → List DamagedFile
damaged_in pair kind (Err faults.Damaged) = record { pair = pair; damage = Content } ∷ []
damaged_in pair kind (Err faults.Device) = record { pair = pair; damage = damage_by_kind kind } ∷ []
damaged_in pair kind _ = []
