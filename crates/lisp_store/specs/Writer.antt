-- Who wrote a store last, and what is another then.
use Rattle.std.specs.Prelude.{◌≡◌, ◌≢◌, ◌↔◌, ◌⊎◌, ℕ, List, [], IsTrue, String, string_bytes}
use Rattle.lisp_store.specs.declared.writer.Writer.{Writer}
use Rattle.lisp_store.specs.declared.writer.Change.{Change}

-- of two ids, both are known, and they aren't the same
pub record IsOther (last now : List ℕ) : Type 0 where
  pub last_known : last ≢ []
  pub now_known : now ≢ []
  pub differ : last ≢ now

-- an id is known now, and wasn't the last
pub record IsNew (last now : List ℕ) : Type 0 where
  pub known : now ≢ []
  pub differs : last ≢ now

-- something is known of a writer that the last one hadn't
abbrev pub IsNews : Writer → Writer → Type 0
IsNews last now = IsNew (string_bytes last.machine_id) (string_bytes now.machine_id) ⊎ IsNew (string_bytes last.boot_id) (string_bytes now.boot_id)

-- what is another than at the last writer
pub record TellsChange (last now : Writer) (change : Change) : Type 0 where
  pub machine : IsTrue change.machine ↔ IsOther (string_bytes last.machine_id) (string_bytes now.machine_id)
  pub boot : IsTrue change.boot ↔ IsOther (string_bytes last.boot_id) (string_bytes now.boot_id)

-- an id that isn't known now is the last one
pub record KeepsKnown {A : Type 0} (last now joined : String A) : Type 0 where
  pub none : string_bytes now ≡ [] → joined ≡ last
  pub some : string_bytes now ≢ [] → joined ≡ now
