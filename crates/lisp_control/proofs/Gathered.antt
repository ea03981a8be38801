-- The sites that bytes say.
use Rattle.std.proofs.Common.{◌≡◌, ℕ, Bool, true, false, List, Some, None, Ok, refl, sym, ap, ◌∙◌}
use Rattle.std.specs.Result.{result_ok}
use Rattle.std.specs.Str.{IsUtf8, is_utf8}
use Rattle.std.proofs.lemmas.Str.{is_utf8-from_IsUtf8, IsUtf8-from_is_utf8}
use Rattle.toml.specs.Parse.{parse_document}
use Rattle.lisp_policy.specs.Site.{SiteValue}
use Rattle.lisp_sites.specs.Table.{sites_in}
use Rattle.lisp_control.specs.Gathering.{sites_of_bytes}

module _ (bytes : List ℕ) where
  is_no_utf8 : (test : Bool) → is_utf8 bytes ≡ test → (IsUtf8 bytes → ⊥) → is_utf8 bytes ≡ false
  is_no_utf8 true is not = absurd (not (IsUtf8-from_is_utf8 bytes is))
  is_no_utf8 false is not = is

  -- none where they are no text
  pub no_text : (IsUtf8 bytes → ⊥) → sites_of_bytes bytes ≡ None
  no_text not = rw (is_no_utf8 (is_utf8 bytes) refl not) refl

  -- those of the text that they are
  pub of_text : (text : List ℕ) (sites : List SiteValue) → text ≡ bytes → IsUtf8 bytes → sites_in (parse_document text) ≡ Ok sites → sites_of_bytes bytes ≡ Some sites
  of_text text sites same utf8 read = rw (is_utf8-from_IsUtf8 bytes utf8) (ap result_ok (ap (λ (t : List ℕ). sites_in (parse_document t)) (sym same) ∙ read))
