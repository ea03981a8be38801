-- The words of `server`, `router`, `forget`, `raise` and `look`, as `clap` matched them.
use Rattle.std.specs.Prelude.{◌≡◌, ℕ, ◌*◌, ◌^◌, nat_lt, Bool, List, [], codes, Option, Some, None, unwrap_or, IfSome, if◌then◌else◌}
use Rattle.std.specs.Option.{option_map}
use Rattle.clap.specs.Words.{first_value, found_of}
use Rattle.clap.specs.declared.parser.matches.ArgMatches.{ArgMatches}
use Rattle.lisp_records.specs.declared.address.Addr.{Addr}
use Rattle.lisp_records.specs.Address.{PrefixValue, family, max_len, prefix_around}
use Rattle.lisp_texts.specs.Number.{number_of}
use Rattle.lisp_texts.specs.Reading.{address_of, prefix_of}
use Rattle.lisp_look.specs.declared.question.Question.{Question}
use Rattle.lispd_cli.specs.Options.{flag_of}
use Rattle.lispd_cli.specs.declared.words.NodeWords.{NodeWords}
use Rattle.lispd_cli.specs.declared.words.ForgetWords.{ForgetWords}
use Rattle.lispd_cli.specs.declared.words.RaiseWords.{RaiseWords}

-- a word that is required, by its name
abbrev pub word_in : ArgMatches → List ℕ → List ℕ
word_in words name = unwrap_or (first_value (found_of words) name) []

-- whether a switch was given
abbrev pub is_given_in : ArgMatches → List ℕ → Bool
is_given_in words name = flag_of (first_value (found_of words) name)

-- the text of an option, where it was given
abbrev pub option_in : ArgMatches → List ℕ → Option (List ℕ)
option_in words name = first_value (found_of words) name

-- how many turns: a decimal number below 2^32; without an end where it wasn't given
abbrev pub turns_below : Option ℕ → Option (Option ℕ)
turns_below None = None
turns_below (Some n) = if nat_lt n (2 ^ 32) then Some (Some n) else None

abbrev pub turns_of : Option (List ℕ) → Option (Option ℕ)
turns_of None = Some None
turns_of (Some text) = turns_below (number_of text)

-- a decimal number between two bounds
abbrev pub within : ℕ → ℕ → Option ℕ → Option ℕ
within least most None = None
within least most (Some n) = if nat_lt n least then None else if nat_lt most n then None else Some n

-- that of an option, which has one where it wasn't given
abbrev pub number_given : ℕ → ℕ → ℕ → Option (List ℕ) → Option ℕ
number_given left_out least most None = Some left_out
number_given left_out least most (Some text) = within least most (number_of text)

-- for how many ms after its start a Map-Server sends no negative Map-Reply: from 0 to 3600 seconds; 60 seconds where it wasn't given
abbrev pub quiet_of : Option (List ℕ) → Option ℕ
quiet_of given = option_map (λ seconds. seconds * 1000) (number_given 60 0 3600 given)

-- each word is that which was given, in its form
pub record ReadsNode (words : ArgMatches) (read : NodeWords) : Type 0 where
  pub config : read.config.now ≡ word_in words (codes "CONFIG")
  pub name : read.name.now ≡ word_in words (codes "NAME")
  pub dir : read.dir.now ≡ word_in words (codes "store")
  pub turns : turns_of (option_in words (codes "turns")) ≡ Some read.turns
  pub known : read.is_known ≡ is_given_in words (codes "known")
  pub json : read.is_json ≡ is_given_in words (codes "json")
  pub database : read.has_database ≡ is_given_in words (codes "database")
  -- how many datagrams a turn takes at most
  pub group : number_given 1 1 64 (option_in words (codes "group")) ≡ Some read.group
  pub quiet : quiet_of (option_in words (codes "quiet")) ≡ Some read.quiet
  -- how many bytes a second go out for Map-Requests to each destination
  pub budget : number_given 4096 1024 262144 (option_in words (codes "budget")) ≡ Some read.budget
  pub control : option_map (λ dir. dir.now) read.control ≡ option_in words (codes "control")

-- each word of `forget` is that which was given
pub record ReadsForget (words : ArgMatches) (read : ForgetWords) : Type 0 where
  pub name : read.name.now ≡ word_in words (codes "NAME")
  pub dir : read.dir.now ≡ word_in words (codes "store")
  pub database : read.has_database ≡ is_given_in words (codes "database")
  pub list : option_map (λ list. list.now) read.list ≡ option_in words (codes "LIST")
  pub removes : read.removes ≡ is_given_in words (codes "remove")

-- each word of `raise` is that which was given
pub record ReadsRaise (words : ArgMatches) (read : RaiseWords) : Type 0 where
  pub name : read.name.now ≡ word_in words (codes "NAME")
  pub dir : read.dir.now ≡ word_in words (codes "store")
  pub database : read.has_database ≡ is_given_in words (codes "database")
  -- by how much nonces are raised
  pub by : within 1 4294967295 (number_of (word_in words (codes "N"))) ≡ Some read.by

-- an EID-Prefix, or an address, which is one with the full mask length
abbrev pub or_whole : Option PrefixValue → Option Addr → Option PrefixValue
or_whole (Some prefix) addr = Some prefix
or_whole None addr = option_map (λ a. prefix_around a (max_len a)) addr

abbrev pub eid_in : List ℕ → Option PrefixValue
eid_in text = or_whole (prefix_of text) (address_of text)

-- the ITR-RLOC, where it was given
abbrev pub given : Option Addr → Option (Option Addr)
given None = None
given (Some addr) = Some (Some addr)

abbrev pub from_in : Option (List ℕ) → Option (Option Addr)
from_in None = Some None
from_in (Some text) = given (address_of text)

-- each word is that which was given, in its form; the ITR-RLOC is of the family of the Map-Server
pub record ReadsQuestion (words : ArgMatches) (read : Question) : Type 0 where
  pub eid : eid_in (word_in words (codes "EID")) ≡ Some read.eid
  pub server : address_of (word_in words (codes "server")) ≡ Some read.server
  pub from : from_in (option_in words (codes "from")) ≡ Some read.from
  pub family : IfSome read.from (λ from. family from ≡ family read.server)
  -- how many Map-Requests are sent at most
  pub tries : number_given 3 1 100 (option_in words (codes "tries")) ≡ Some read.tries
