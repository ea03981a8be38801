-- An input is a schedule, or what is wrong with it.
use Rattle.std.proofs.Common.{◌≡◌, ◌⊎◌, ℕ, Bool, true, false, List, [], length, Some, None, Result, Ok, Err, refl, sym, ap, ◌∙◌}
use Rattle.std.specs.Prelude.{◌≢◌}
use Rattle.lisp_records.specs.Result.{◌>>=◌}
use Rattle.std.specs.Str.{IsUtf8, is_utf8}
use Rattle.std.proofs.lemmas.Str.{is_utf8-from_IsUtf8, IsUtf8-from_is_utf8}
use Rattle.toml.specs.Parse.{parse_document}
use Rattle.lisp_policy.specs.Configuration.{ConfigValue}
use Rattle.lisp_sites.specs.Table.{config_of, Fails}
use Rattle.lisp_sites.specs.declared.fault.ConfigFault.{ConfigFault}
use Rattle.lisp_sites.specs.declared.fault.ConfigFault.TheVariants as config_faults
use Rattle.lisp_script.specs.Command.{CommandValue}
use Rattle.lisp_script.specs.Spelling.{script_of, HasReload, IsReached}
use Rattle.lisp_script.specs.declared.fault.ScriptFault.{ScriptFault}
use Rattle.lisp_script.specs.declared.fault.ScriptWhat.{ScriptWhat}
use Rattle.lisp_script.specs.declared.fault.ScriptWhat.TheVariants as whats
use Rattle.lisp_script.specs.declared.play_fault.PlayFault.TheVariants as faults
use Rattle.lisp_script.specs.Parts.{parted}
use Rattle.lisp_script.specs.declared.play_fault.PlayFault.{PlayFault}
use Rattle.lisp_script.specs.CommandLines.{command_lines, schedule_lines, AsManyAsCommands, AsManyAsOrders}
use Rattle.lisp_script.specs.Schedule.{as_fault, script_in, parts_in, schedule_of, HasParts, IsNoConfig, IsNoScript}

module _ (input : List ℕ) where
  is_no_utf8 : (test : Bool) → is_utf8 input ≡ test → (IsUtf8 input → ⊥) → is_utf8 input ≡ false
  is_no_utf8 true is not = absurd (not (IsUtf8-from_is_utf8 input is))
  is_no_utf8 false is not = is

  -- it is no text
  pub no_text : (IsUtf8 input → ⊥) → schedule_of input ≡ Err faults.NotUtf8
  unfolding schedule_of
  no_text not = rw (is_no_utf8 (is_utf8 input) refl not) refl

  pub no_lines_of_text : (IsUtf8 input → ⊥) → [] ≡ schedule_lines input
  no_lines_of_text not = rw (is_no_utf8 (is_utf8 input) refl not) refl

  -- no schedule has no commands
  pub no_orders : (why : PlayFault) (numbers : List ℕ) → schedule_of input ≡ Err why → AsManyAsOrders input numbers
  no_orders why numbers fault schedule is = absurd cc

  module _ (utf8 : IsUtf8 input) where
    pub no_lines : parted input ≡ None → [] ≡ schedule_lines input
    no_lines none = rw (is_utf8-from_IsUtf8 input utf8, none) refl

    -- it has no two parts
    pub no_parts : parted input ≡ None → schedule_of input ≡ Err faults.NoScript
    unfolding schedule_of
    no_parts none = rw (is_utf8-from_IsUtf8 input utf8, none) refl

    module _ (configuration script : List ℕ) (parts : parted input ≡ Some (configuration, script)) where
      in_parts : schedule_of input ≡ parts_in (configuration, script)
      unfolding schedule_of
      in_parts = rw (is_utf8-from_IsUtf8 input utf8, parts) refl

      has_parts : HasParts input (configuration, script)
      has_parts = (is_utf8-from_IsUtf8 input utf8, parts)

      -- the lines of the second one
      pub lines_there : (numbers : List ℕ) → numbers ≡ command_lines script → numbers ≡ schedule_lines input
      lines_there numbers is = is ∙ rw (is_utf8-from_IsUtf8 input utf8, parts) refl

      pub as_many_orders : (numbers : List ℕ) → AsManyAsCommands script numbers → AsManyAsOrders input numbers
      unfolding parts_in script_in
      as_many_orders numbers many schedule is = configured (config_of (parse_document configuration)) (sym in_parts ∙ is)
        where
          scripted : (c : ConfigValue) (read : Result (List CommandValue) ScriptFault) → script_of c script ≡ read
              → (as_fault faults.Script read >>= λ orders. Ok (c, orders)) ≡ Ok schedule → length numbers ≡ length schedule.1
          scripted c (Err why) read is = absurd cc
          scripted c (Ok orders) read is =
              let same : (c, orders) ≡ schedule = cc in
              many c orders read ∙ ap (λ (s : ConfigValue × List CommandValue). length s.1) same

          configured : (read : Result ConfigValue ConfigFault)
              → (as_fault faults.Config read >>= λ c. script_in c script) ≡ Ok schedule → length numbers ≡ length schedule.1
          configured (Err why) is = absurd cc
          configured (Ok c) is = scripted c (script_of c script) refl is

      -- the first one is no configuration
      no_config : (why : ConfigFault) → config_of (parse_document configuration) ≡ Err why → schedule_of input ≡ Err (faults.Config why)
      unfolding parts_in
      no_config why is = in_parts ∙ rw is refl

      pub no_configuration : (why : ConfigFault) → Fails why (config_of (parse_document configuration)) → IsNoConfig input why
      no_configuration config_faults.Toml is = no_config config_faults.Toml is
      no_configuration (config_faults.Missing name) is = no_config (config_faults.Missing name) is
      no_configuration (config_faults.BadValue name) is = no_config (config_faults.BadValue name) is
      no_configuration (config_faults.Repeated name) is = no_config (config_faults.Repeated name) is
      no_configuration config_faults.OutOfMemory is = ((configuration, script), has_parts)

      module _ (c : ConfigValue) (config : config_of (parse_document configuration) ≡ Ok c) where
        -- the second one is no script, or one
        faulty : (why : ScriptFault) → script_of c script ≡ Err why → schedule_of input ≡ Err (faults.Script why)
        unfolding parts_in script_in
        faulty why is = in_parts ∙ rw (config, is) refl

        pub a_schedule : (orders : List CommandValue) → script_of c script ≡ Ok orders → schedule_of input ≡ Ok (c, orders)
        unfolding parts_in script_in
        a_schedule orders is = in_parts ∙ rw (config, is) refl

        module _ (May : Type 0) (line : ℕ) where
          pub no_script : (what : ScriptWhat) → (what ≢ whats.Memory → script_of c script ≡ Err (record { line = line; what = what })) → (what ≡ whats.Memory → May ⊎ HasReload script) → (what ≡ whats.Memory → IsReached c script line)
              → IsNoScript May input line what
          no_script whats.Memory fault may reached = record { parts = (configuration, script); parted = has_parts; may = may refl; config = c; configured = config; reached = reached refl }
          no_script whats.Word fault may reached = faulty _ (fault (λ e. absurd cc))
          no_script whats.Count fault may reached = faulty _ (fault (λ e. absurd cc))
          no_script whats.Name fault may reached = faulty _ (fault (λ e. absurd cc))
          no_script whats.Number fault may reached = faulty _ (fault (λ e. absurd cc))
          no_script whats.Record fault may reached = faulty _ (fault (λ e. absurd cc))
          no_script whats.Hex fault may reached = faulty _ (fault (λ e. absurd cc))
