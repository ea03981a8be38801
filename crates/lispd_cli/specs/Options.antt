-- The options of `answer`, as `clap` matched them: each in its form, the defaults where they are
-- absent, in the order --site, --key, --secret, --prefix.
use Rattle.std.specs.Prelude.{◌≡◌, ℕ, Bool, false, List, codes, Option, Some, None, Result, Ok, Err, IsOk, nat_lt, if◌then◌else◌}
use Rattle.std.specs.Str.{bytes_eq}
use Rattle.clap.specs.Words.{first_value, found_of}
use Rattle.clap.specs.declared.parser.matches.ArgMatches.{ArgMatches}
use denote.Ref.{Bor}
use Rattle.lisp_records.specs.Address.{PrefixValue}
use Rattle.lisp_records.specs.Result.{◌>>=◌}
use Rattle.lisp_texts.specs.Number.{number_of}
use Rattle.lisp_texts.specs.Form.{site_id_of, secret_text_of}
use Rattle.lisp_texts.specs.Reading.{prefix_of}
use Rattle.lispd_cli.specs.declared.options.AnswerOption.{AnswerOption}
use Rattle.lispd_cli.specs.declared.options.AnswerOption.TheVariants.{Site, Key, Secret, Prefix}
use Rattle.lispd_cli.specs.declared.fault.SetupFault.{SetupFault}
use Rattle.lispd_cli.specs.declared.fault.SetupFault.TheVariants.{BadOption, OutOfMemory}
use Rattle.lisp_answer.specs.Setup.{AnswerSetupValue, default_setup}

-- an option's name on the command line, without its dashes
abbrev pub option_name : AnswerOption → List ℕ
option_name Site = codes "site"
option_name Key = codes "key"
option_name Secret = codes "secret"
option_name Prefix = codes "prefix"

-- the text of an option, where it was given
abbrev pub option_text : Option (Bor ArgMatches) → List ℕ → Option (List ℕ)
option_text None id = None
option_text (Some matches) id = first_value (found_of matches.now) id

-- the value of a text in its form, or the fault that names the option
abbrev pub in_form : {X : Type 0} → AnswerOption → Option X → Result X SetupFault
in_form option (Some x) = Ok x
in_form option None = Err (BadOption option)

-- an option in its form, or the default where it was not given
abbrev pub or_default : {X : Type 0} → AnswerOption → X → (List ℕ → Option X) → Option (List ℕ) → Result X SetupFault
or_default option x form None = Ok x
or_default option x form (Some text) = in_form option (form text)

-- a number, where it is at most 255
abbrev pub byte_of : Option ℕ → Option ℕ
byte_of None = None
byte_of (Some n) = if nat_lt n 256 then Some n else None

-- a Key ID: a decimal number up to 255
abbrev pub key_of : List ℕ → Option ℕ
key_of text = byte_of (number_of text)

-- a flag is given as `true`
abbrev pub flag_of : Option (List ℕ) → Bool
flag_of None = false
flag_of (Some text) = bytes_eq text (codes "true")

-- the options, one by one
abbrev pub site_in : Option (Bor ArgMatches) → Result ℕ SetupFault
site_in matches = or_default Site default_setup.site site_id_of (option_text matches (option_name Site))

abbrev pub key_in : Option (Bor ArgMatches) → Result ℕ SetupFault
key_in matches = or_default Key default_setup.key key_of (option_text matches (option_name Key))

abbrev pub secret_in : Option (Bor ArgMatches) → Result (List ℕ) SetupFault
secret_in matches = or_default Secret default_setup.secret secret_text_of (option_text matches (option_name Secret))

abbrev pub prefix_in : Option (Bor ArgMatches) → Result PrefixValue SetupFault
prefix_in matches = or_default Prefix default_setup.prefix prefix_of (option_text matches (option_name Prefix))

-- the options before the secret are in their forms
abbrev pub ReachesSecret : Option (Bor ArgMatches) → Type 0
ReachesSecret matches = IsOk (site_in matches) × IsOk (key_in matches)

unfoldable pub setup_of : Option (Bor ArgMatches) → Result AnswerSetupValue SetupFault
setup_of matches = do
  site ← site_in matches
  key ← key_in matches
  secret ← secret_in matches
  prefix ← prefix_in matches
  Ok (record {
    site = site;
    key = key;
    secret = secret;
    prefix = prefix;
    more_specifics = flag_of (option_text matches (codes "more-specifics"));
  })

-- the result, seen by view, is the value, or the fault of a form; out of memory may come at any time
abbrev pub Gives : {X Y : Type 0} → (X → Y) → Result X SetupFault → Result Y SetupFault → Type 0
Gives view (Ok x) value = value ≡ Ok (view x)
Gives view (Err OutOfMemory) value = Unit {0}
Gives view (Err fault) value = value ≡ Err fault
