use Rattle.std.proofs.Common.{◌≡◌, ◌<◌, List, length, Some, None, Ok, refl, sym, ap, subst, ◌∙◌}
use Rattle.std.specs.Prelude.{slice_get}
use Rattle.std.specs.List.{position}
use Rattle.std.specs.Str.{bytes_eq}
use Rattle.std.proofs.lemmas.Option.{slice_get_read}
use Rattle.lisp_policy.specs.Configuration.{RouterEntryValue}
use Rattle.lisp_registration.proofs.Configured.{found, not_found}
use Rattle.lisp_registration.proofs.starting.settings_of.Goals as goal

pub returns-in_default-clause-settings : goal.returns-in_default-clause-settings
returns-in_default-clause-settings c =
    let none : position (λ r. bytes_eq r.name c.args.name.now) c.in_ok-config.config.routers ≡ None = subst (λ (l : List RouterEntryValue). position (λ r. bytes_eq r.name c.args.name.now) l ≡ None) c.routers.ensures.routers (sym c.in_default.ensures.place) in
    rw (c.in_ok-config.ensures.config, not_found (λ r. bytes_eq r.name c.args.name.now) c.in_ok-config.config none) refl

pub returns-clause-settings : goal.returns-clause-settings
returns-clause-settings c =
    let some : position (λ r. bytes_eq r.name c.args.name.now) c.in_ok-config.config.routers ≡ Some c.in-Some.place = subst (λ (l : List RouterEntryValue). position (λ r. bytes_eq r.name c.args.name.now) l ≡ Some c.in-Some.place) c.routers.ensures.routers (sym c.in-Some.ensures.place) in
    let within : c.in-Some.place < length c.routers-2.result.now = rw (c.routers-2.ensures.routers, sym c.routers.ensures.routers) c.in-Some.ensures.within in
    let there : slice_get c.in_ok-config.config.routers c.in-Some.place ≡ Some c.index-routers-place.result = subst (λ (l : List RouterEntryValue). slice_get l c.in-Some.place ≡ Some c.index-routers-place.result) c.routers-2.ensures.routers (slice_get_read _ _ c.in-Some.place c.index-routers-place.result refl within c.index-routers-place.is) in
    let settings = c.in_ok-settings.ensures.settings in
    let same : settings.0 ≡ c.index-routers-place.result = (let e : Some settings.0 ≡ Some c.index-routers-place.result = sym settings.1 ∙ there in cc) in
    rw (c.in_ok-config.ensures.config, found (λ r. bytes_eq r.name c.args.name.now) c.in_ok-config.config c.in-Some.place settings.0 some settings.1)
    (λ i. Ok (sym settings.2 i, (ap (λ (r : RouterEntryValue). r.database) (same ∙ sym c.entry.view_is) ∙ sym c.in_ok-database.ensures.equal) i))
