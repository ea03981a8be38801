-- Texts in a document of XML. They can't be markup there.
use Rattle.std.specs.Prelude.{◌≡◌, ◌≢◌, ℕ, ◌&&◌, ◌||◌, nat_lt, nat_eq, Bool, List, ◌++◌, codes, Result, String, string_bytes, OnOk, if◌then◌else◌}
use Rattle.std.specs.List.{flat_map, AllByRecursion}
use Rattle.std.specs.Char.{encode_utf8}
use Rattle.std.specs.Str.{chars}

-- at Ok the words were appended to the text
abbrev pub Adds : {X E Z : Type 0} → Result X E → String Z → String Z → List ℕ → Type 0
Adds result old new words = OnOk result (string_bytes new ≡ string_bytes old ++ words)

-- a document can't have control characters, nor these two
abbrev pub is_shown : ℕ → Bool
is_shown c = (nat_lt 31 c && nat_lt c 127) || (nat_lt 159 c && nat_lt c 65534) || nat_lt 65535 c

-- a character as it is written: as an entity where it could be markup, as `?` where a document can't have it
unfoldable pub written : ℕ → List ℕ
written c =
    if nat_eq c 38 then codes "&amp;"
    else if nat_eq c 60 then codes "&lt;"
    else if nat_eq c 62 then codes "&gt;"
    else if nat_eq c 34 then codes "&quot;"
    else if is_shown c then encode_utf8 c
    else codes "?"

-- and a text
abbrev pub escaped : List ℕ → List ℕ
escaped words = flat_map written (chars words)

-- there is no byte that begins or ends an element, or ends an attribute
abbrev pub HasNoMarkup : List ℕ → Type 0
HasNoMarkup bytes = AllByRecursion (λ b. (b ≢ 60) × (b ≢ 62) × (b ≢ 34)) bytes
