-- What the text of a configuration starts, by its steps.
use Rattle.std.proofs.Common.{◌≡◌, ℕ, Bool, true, false, cond, List, Option, Some, None, Result, Ok, Err, refl, ap, ◌∙◌}
use Rattle.std.specs.Prelude.{slice_get, nat_lt, length}
use Rattle.std.specs.List.{find, position, position_or_len}
use Rattle.std.specs.Str.{is_utf8, IsUtf8}
use Rattle.std.proofs.lemmas.List.Folds.{find_at}
use Rattle.std.proofs.lemmas.Str.{IsUtf8-from_is_utf8, is_utf8-from_IsUtf8}
use Rattle.lisp_records.specs.Result.{◌>>=◌}
use Rattle.lisp_policy.specs.Configuration.{ConfigValue, RouterEntryValue}
use Rattle.lisp_sites.specs.declared.fault.ConfigFault.{ConfigFault}
use Rattle.lisp_sites.specs.declared.fault.ConfigFault.TheVariants as config_faults
use Rattle.lisp_sites.specs.Table.{Fails, config_of}
use Rattle.toml.specs.Parse.{parse_document}
use Rattle.std.proofs.lemmas.Bool.{ltb-false}
use Rattle.std.proofs.lemmas.Option.{slice_get_past}
use Rattle.lisp_registration.specs.Starting.{Comes, configured, text_config, or_no_router}
use Rattle.lisp_registration.specs.declared.fault.NodeFault.{NodeFault}
use Rattle.lisp_registration.specs.declared.fault.NodeFault.TheVariants.{NotUtf8, Configuration, NoRouter, OutOfMemory}

-- bytes that are no text
pub not_text : (bytes : List ℕ) → ¬ (IsUtf8 bytes) → is_utf8 bytes ≡ false
not_text bytes wrong = by (is_utf8 bytes) refl
  where
    by : (b : Bool) → is_utf8 bytes ≡ b → b ≡ false
    by true is = absurd (wrong (IsUtf8-from_is_utf8 bytes is))
    by false is = refl

-- bytes that are one
pub is_read : (bytes text : List ℕ) → text ≡ bytes → IsUtf8 bytes → configured (config_of (parse_document text)) ≡ text_config bytes
is_read bytes text same utf8 = rw (is_utf8-from_IsUtf8 bytes utf8, same) refl

-- a fault of a configuration that was read
pub fails_so : {X Y : Type 0} (view : X → Y) (fault : ConfigFault) (read : Result Y ConfigFault) → Fails fault read → Comes view (Err (Configuration fault)) (configured read)
fails_so view config_faults.Toml read is = ap configured is
fails_so view (config_faults.Missing field) read is = ap configured is
fails_so view (config_faults.BadValue field) read is = ap configured is
fails_so view (config_faults.Repeated field) read is = ap configured is
fails_so view config_faults.OutOfMemory read is = tt

module _ (p : RouterEntryValue → Bool) (config : ConfigValue) where
  -- the router that was found by its place
  pub found : (place : ℕ) (entry : RouterEntryValue) → position p config.routers ≡ Some place → slice_get config.routers place ≡ Some entry → or_no_router config (find p config.routers) ≡ Ok (config, entry)
  found place entry at there = ap (or_no_router config) (find_at p config.routers ∙ by (nat_lt (position_or_len p config.routers) (length config.routers)) at)
    where
      by : (b : Bool) → cond b (Some (position_or_len p config.routers)) None ≡ Some place → slice_get config.routers (position_or_len p config.routers) ≡ Some entry
      by true same = (let is : position_or_len p config.routers ≡ place = cc in ap (λ (n : ℕ). slice_get config.routers n) is ∙ there)
      by false none = (let clash : ◌≡◌ {A = Option ℕ} None (Some place) = none in absurd cc)

  -- no router was found
  pub not_found : position p config.routers ≡ None → or_no_router config (find p config.routers) ≡ Err NoRouter
  not_found none = ap (or_no_router config) (find_at p config.routers ∙ by (nat_lt (position_or_len p config.routers) (length config.routers)) refl none)
    where
      by : (b : Bool) → nat_lt (position_or_len p config.routers) (length config.routers) ≡ b → cond b (Some (position_or_len p config.routers)) None ≡ None → slice_get config.routers (position_or_len p config.routers) ≡ None
      by true less none = (let clash : ◌≡◌ {A = Option ℕ} (Some (position_or_len p config.routers)) None = none in absurd cc)
      by false less none = slice_get_past config.routers (position_or_len p config.routers) (ltb-false _ _ less)

-- a fault of the first step is one of both
pub fault_follows : {X Y Z : Type 0} (view : X → Y) (next : Y → Result Z NodeFault) (fault : NodeFault) (given : Result Y NodeFault) → Comes view (Err fault) given → Comes (λ (z : Z). z) (Err fault) (given >>= next)
fault_follows view next NotUtf8 given is = ap (λ g. g >>= next) is
fault_follows view next (Configuration config_faults.Toml) given is = ap (λ g. g >>= next) is
fault_follows view next (Configuration (config_faults.Missing field)) given is = ap (λ g. g >>= next) is
fault_follows view next (Configuration (config_faults.BadValue field)) given is = ap (λ g. g >>= next) is
fault_follows view next (Configuration (config_faults.Repeated field)) given is = ap (λ g. g >>= next) is
fault_follows view next (Configuration config_faults.OutOfMemory) given is = tt
fault_follows view next NoRouter given is = ap (λ g. g >>= next) is
fault_follows view next OutOfMemory given is = tt
