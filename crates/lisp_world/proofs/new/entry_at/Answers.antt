use Rattle.std.proofs.Common.{◌≡◌, List, Some, get_or, sym, ap, subst, ◌∙◌, length, arith}
use Rattle.std.proofs.lemmas.Option.{slice_get-get_or}
use Rattle.lisp_policy.specs.Configuration.{RouterEntryValue, IsRouterEntry, HasServers}
use Rattle.lisp_refinement.proofs.Places.{all_at}
use Rattle.lisp_world.proofs.new.entry_at.Goals as goal

pub returns-clause-there : goal.returns-clause-there
returns-clause-there g c =
    let entry : c.index-routers-place.result ≡ get_or c.args.config.now.routers c.args.place c.index-routers-place.result =
    c.index-routers-place.is ∙ ap (λ (l : List RouterEntryValue). get_or l c.args.place c.index-routers-place.result) c.routers.ensures.routers in
    slice_get-get_or c.args.config.now.routers c.args.place c.index-routers-place.result c.requires ∙ ap Some (sym entry)

pub returns-clause-servers : goal.returns-clause-servers
returns-clause-servers g c =
    let entry : c.index-routers-place.result ≡ get_or c.args.config.now.routers c.args.place c.index-routers-place.result =
    c.index-routers-place.is ∙ ap (λ (l : List RouterEntryValue). get_or l c.args.place c.index-routers-place.result) c.routers.ensures.routers in
    let is : IsRouterEntry c.args.config.now (get_or c.args.config.now.routers c.args.place c.index-routers-place.result) =
    all_at (IsRouterEntry c.args.config.now) c.args.config.now.routers c.routers.ensures.configuration.routers _ _ c.requires in
    subst (λ (r : RouterEntryValue). HasServers c.args.config.now.servers r) (sym entry) is.servers

pub bounds-routers-place : goal.bounds-routers-place
bounds-routers-place g c = (let long = ap length c.routers.ensures.routers in omega (arith, c.requires, long))

pub offset_bounds-routers-place : goal.offset_bounds-routers-place
offset_bounds-routers-place g c = (let long = ap length c.routers.ensures.routers in omega (arith, c.requires, long))
