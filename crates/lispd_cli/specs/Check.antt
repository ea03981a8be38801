-- What `check` warns of.
use Rattle.std.specs.Prelude.{◌≡◌, ℕ, Bool, true, false, List, [], ◌∷◌, ◌++◌, not, ◌==◌, length, codes, Result, Ok, OnOk, String, string_bytes, None, Option, IfSome}
use Rattle.std.specs.List.{flat_map}
use Rattle.std.specs.Io.KnownBytes.{Appends}
use Rattle.toml.specs.Parse.{parse_document}
use Rattle.lisp_policy.specs.Configuration.{ConfigValue}
use Rattle.lisp_sites.specs.Table.{config_of}
use Rattle.lisp_check.specs.declared.warning.Warning.{Warning}
use Rattle.lisp_check.specs.Warning.{all_warnings}
use Rattle.lisp_check.specs.Line.{IsHeaderLine}
use Rattle.lispd_cli.specs.declared.check.Checked.{Checked}
use Rattle.lispd_cli.specs.declared.findings.Finding.{Finding}
use Rattle.lispd_cli.specs.declared.findings.What.TheVariants.{Config, Open}

-- a warning of a file, as a line
abbrev pub warning_line : List ℕ → List ℕ → List ℕ
warning_line path words = codes "warning: " ++ (path ++ (codes ": " ++ (words ++ codes "\n")))

-- so many of them, behind a text; and at Ok one for each of some
abbrev pub AddedLines : List ℕ → List ℕ → List ℕ → ℕ → Type 0
AddedLines path old new count = (words : List (List ℕ)) × (length words ≡ count) × (new ≡ old ++ flat_map (warning_line path) words)

abbrev pub PutsLines : {X E S Z : Type 0} → Result X E → List ℕ → String Z → String Z → List S → Type 0
PutsLines result path old new some = OnOk result (AddedLines path (string_bytes old) (string_bytes new) (length some))

-- that others can read the file
abbrev pub of_mode : Bool → List Finding
of_mode true = record { line = None; what = Open } ∷ []
of_mode false = []

-- a warning, with the line of a header in the text or none
abbrev pub IsPlaced : List ℕ → Warning → Finding → Type 0
IsPlaced text warning found = IfSome found.line (IsHeaderLine text) × (found.what ≡ Config warning)

abbrev pub ArePlaced : List ℕ → List Warning → List Finding → Type 0
ArePlaced text [] [] = Unit {0}
ArePlaced text (warning ∷ warnings) (found ∷ others) = IsPlaced text warning found × ArePlaced text warnings others
ArePlaced _ _ _ = ⊥

-- such warnings were added to some; and at Ok they were
abbrev pub AddedPlaced : List ℕ → List Finding → List Finding → List Warning → Type 0
AddedPlaced text old new warnings = (placed : List Finding) × ArePlaced text warnings placed × (new ≡ old ++ placed)

abbrev pub AddsPlaced : {X E : Type 0} → Result X E → List ℕ → List Finding → List Finding → List Warning → Type 0
AddsPlaced result text old new warnings = OnOk result (AddedPlaced text old new warnings)

-- what is warned of the configuration that a text is: keys that no configuration has and secrets, then what may not be meant, in its order
-- and with its line, then that others can read the file
pub record AreFindings (c : ConfigValue) (text : List ℕ) (is_open : Bool) (all : List Finding) : Type 0 where
  pub unknown : List Finding
  pub placed : List Finding
  pub lines : ArePlaced text (all_warnings c) placed
  pub all_is : all ≡ unknown ++ placed ++ of_mode is_open

-- whether there are any
pub record HasFindings (c : ConfigValue) (text : List ℕ) (is_open : Bool) (all : List Finding) (warned : Bool) : Type 0 where
  pub findings : AreFindings c text is_open all
  pub warned_is : warned ≡ not (length all == 0)

-- after some bytes, a line was written for each; and whether there are any
pub record Warns {W : Type 0} (c : ConfigValue) (text : List ℕ) (is_open : Bool) (path : List ℕ) (contents : W → Option (List ℕ)) (old new : W) (warned : Bool) : Type 0 where
  pub all : List Finding
  pub has : HasFindings c text is_open all warned
  pub before : List ℕ
  pub words : List (List ℕ)
  pub each : length words ≡ length all
  pub written : Appends (contents old) (contents new) (before ++ flat_map (warning_line path) words)

-- those of the configuration that a text is
abbrev pub WarnsOfText : {W : Type 0} → List ℕ → (W → Option (List ℕ)) → W → W → Bool → Type 0
WarnsOfText path contents old new warned = (text : List ℕ) × (c : ConfigValue) × (is_open : Bool) × (config_of (parse_document text) ≡ Ok c) × Warns c text is_open path contents old new warned

-- a configuration that was read is that of its document, whose text is that of its file
pub record IsChecked (checked : Checked) : Type 0 where
  pub config : config_of (parse_document checked.document.text) ≡ Ok checked.config
  pub text : string_bytes checked.source.text ≡ checked.document.text

-- whether it has warnings
abbrev pub HasWarnings : Checked → Bool → Type 0
HasWarnings checked warned = (all : List Finding) × HasFindings checked.config checked.document.text checked.source.is_open_to_others all warned
