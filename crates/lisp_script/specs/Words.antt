-- What single words of a script stand for. Each is a value, or what is wrong with the word.
use Rattle.std.specs.Prelude.{ℕ, ◌+◌, ◌==◌, Bool, nat_eq, nat_lt, List, [], ◌∷◌, ◌++◌, length, map, codes, position, Result, Ok, Err, if◌then◌else◌}
use Rattle.std.specs.Cmp.Lexicographic.{pointwise}
use Rattle.std.specs.List.{filter, flat_map, slice_split}
use Rattle.std.specs.Option.{option_map, ok_or}
use denote.Ref.{Bor}
use Rattle.hex.specs.Hex.{decode_of}
use Rattle.toml.specs.Parse.{parse_document}
use Rattle.lisp_records.specs.declared.address.Addr.{Addr}
use Rattle.lisp_records.specs.Address.{PrefixValue}
use Rattle.lisp_records.specs.Record.{MapRecordValue}
use Rattle.lisp_records.specs.Database.{database_of}
use Rattle.lisp_records.specs.Result.{◌>>=◌}
use Rattle.lisp_nonces.specs.declared.fate.Fate.{Fate}
use Rattle.lisp_nonces.specs.declared.fate.Fate.TheVariants.{Doubt, LoadFails}
use Rattle.lisp_texts.specs.Number.{number_of}
use Rattle.lisp_texts.specs.Reading.{address_of, prefix_of, record_text_of}
use Rattle.lisp_policy.specs.Site.{SiteValue}
use Rattle.lisp_policy.specs.Configuration.{ConfigValue, names}
use Rattle.lisp_sites.specs.Table.{sites_in}
use Rattle.lisp_script.specs.declared.fault.ScriptWhat.{ScriptWhat}
use Rattle.lisp_script.specs.declared.fault.ScriptWhat.TheVariants.{Word, Name, Number, Record, Hex}

-- the texts of words
abbrev pub texts : List (Bor (List ℕ)) → List (List ℕ)
texts words = map (λ w. w.now) words

-- the words of a line, between spaces (32)
abbrev pub words_of : List ℕ → List (List ℕ)
words_of line = filter (λ w. nat_lt 0 (length w)) (slice_split (λ b. b == 32) line)

-- the texts are alike
abbrev pub is_word : List ℕ → List ℕ → Bool
is_word = pointwise nat_eq

-- a node by its name, Map-Servers first; one that must be a Map-Server, or a router
unfoldable pub node_of : ConfigValue → List ℕ → Result ℕ ScriptWhat
node_of c word = ok_or (position (λ name. is_word name word) (names c)) Name

unfoldable pub server_of : ConfigValue → List ℕ → Result ℕ ScriptWhat
server_of c word = ok_or (position (λ s. is_word s.name word) c.servers) Name

unfoldable pub router_of : ConfigValue → List ℕ → Result ℕ ScriptWhat
router_of c word = ok_or (option_map (λ i. length c.servers + i) (position (λ r. is_word r.name word) c.routers)) Name

-- a decimal number
abbrev pub number_in : List ℕ → Result ℕ ScriptWhat
number_in word = ok_or (number_of word) Number

-- a Key ID: a number of at most 255
abbrev pub as_key : ℕ → Result ℕ ScriptWhat
as_key number = if nat_lt number 256 then Ok number else Err Number

abbrev pub key_in : List ℕ → Result ℕ ScriptWhat
key_in word = do
  number ← number_in word
  as_key number

-- an address
abbrev pub address_in : List ℕ → Result Addr ScriptWhat
address_in word = ok_or (address_of word) Record

-- an EID-Prefix
abbrev pub prefix_in : List ℕ → Result PrefixValue ScriptWhat
prefix_in word = ok_or (prefix_of word) Record

-- bytes in hexadecimal digits, or '-' for none
abbrev pub or_fault : {X E : Type 0} → ScriptWhat → Result X E → Result X ScriptWhat
or_fault what (Ok x) = Ok x
or_fault what (Err e) = Err what

abbrev pub bytes_in : List ℕ → Result (List ℕ) ScriptWhat
bytes_in word = if is_word word (codes "-") then Ok [] else or_fault Hex (decode_of word)

-- what becomes of a save; of a load; and of a load or a save
abbrev pub doubt_in : List ℕ → Result Fate ScriptWhat
doubt_in word = if is_word word (codes "doubt") then Ok Doubt else Err Word

abbrev pub load_fails_in : List ℕ → Result Fate ScriptWhat
load_fails_in word = if is_word word (codes "loadfails") then Ok LoadFails else Err Word

abbrev pub fate_in : List ℕ → Result Fate ScriptWhat
fate_in word = if is_word word (codes "loadfails") then Ok LoadFails else doubt_in word

-- a database: the one word 'empty', or its records
unfoldable pub records_in : List (List ℕ) → Result (List MapRecordValue) ScriptWhat
records_in [] = Ok []
records_in (word ∷ words) = do
  first ← ok_or (record_text_of word) Record
  others ← records_in words
  Ok (first ∷ others)

abbrev pub some_records : List (List ℕ) → Result (List MapRecordValue) ScriptWhat
some_records words = do
  records ← records_in words
  or_fault Record (database_of records)

abbrev pub database_in : List (List ℕ) → Result (List MapRecordValue) ScriptWhat
database_in (word ∷ []) = if is_word word (codes "empty") then Ok [] else some_records (word ∷ [])
database_in words = some_records words

-- the word before sites
abbrev pub mark_in : List ℕ → Result (Unit {0}) ScriptWhat
mark_in word = if is_word word (codes "---") then Ok tt else Err Word

-- sites: words that are a line of TOML, read with a space (32) behind each
abbrev pub spaced : List (List ℕ) → List ℕ
spaced words = flat_map (λ w. w ++ 32 ∷ []) words

abbrev pub sites_in_words : List (List ℕ) → Result (List SiteValue) ScriptWhat
sites_in_words words = or_fault Record (sites_in (parse_document (spaced words)))
