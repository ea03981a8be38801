-- Copies of the database of a node that runs: what they may be named, and what a user is answered.
use Rattle.std.specs.Prelude.{◌≡◌, ◌≤◌, ℕ, ◌==◌, ◌&&◌, ◌||◌, nat_le, nat_eq, Bool, IsTrue, false, List, [], ◌∷◌, ◌++◌, length, codes}
use Rattle.std.specs.Cmp.Lexicographic.{pointwise}
use Rattle.std.specs.Fmt.{decimal}
use Rattle.std.specs.List.{list_all, starts_with, ends_with}

-- an ASCII digit or letter, `-` (45), `.` (46) or `_` (95)
abbrev pub is_plain_byte : ℕ → Bool
is_plain_byte b = (nat_le 48 b && nat_le b 57) || (nat_le 65 b && nat_le b 90) || (nat_le 97 b && nat_le b 122) || b == 45 || b == 46 || b == 95

-- a name that a node gives to files of its own
abbrev pub is_own_name : List ℕ → Bool
is_own_name name = starts_with nat_eq name (codes "nonces.db") || ends_with nat_eq name (codes ".nonce") || pointwise nat_eq name (codes "control")

-- 1 to 100 such bytes, of which the first is no `.`; no name of the node's own
abbrev pub IsBackupName : List ℕ → Type 0
IsBackupName name = (1 ≤ length name) × (length name ≤ 100) × IsTrue (list_all is_plain_byte name) × (starts_with nat_eq name (codes ".") ≡ false) × (is_own_name name ≡ false)

-- `backup NAME FILE bytes N`
abbrev pub backup_text : List ℕ → List ℕ → ℕ → List ℕ
backup_text name file bytes = codes "backup " ++ name ++ codes " " ++ file ++ codes " bytes " ++ decimal bytes ++ 10 ∷ []

-- no copy was made
abbrev pub refused_text : List ℕ
refused_text = codes "fault 145" ++ 10 ∷ []
