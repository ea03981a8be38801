-- The secrets that a node of a trace holds are some that it may hold: of the sites that a Map-Server took each time, which are of the
-- configuration, or were given to one.
use Rattle.std.proofs.Common.{◌≡◌, ◌⊎◌, inl, inr, ℕ, Bool, true, false, List, [], ◌∷◌, map, refl, subst, ◌++◌, Some, sym}
use Rattle.std.specs.Prelude.{◌==◌, if◌then◌else◌}
use Rattle.std.proofs.lemmas.Bool.Decides.{Decides-eqb}
use Rattle.std.specs.List.{AllByRecursion, Contains, flat_map}
use Rattle.std.proofs.lemmas.List.Elements.{Contains-append_left, Contains-append_right}
use Rattle.lisp_policy.specs.Site.{SiteValue}
use Rattle.lisp_model.specs.declared.event.Event.TheVariants as events
use Rattle.lisp_model.specs.declared.line.Line.{Line}
use Rattle.lisp_model.specs.declared.line.Line.TheVariants as lines
use Rattle.lisp_model.specs.declared.refusal.Refusal.TheVariants as refusals
use Rattle.lisp_model.specs.Clean.{secrets_of}
use Rattle.lisp_model.specs.Keys.{KnowsKey}
use Rattle.lisp_model.specs.Legal.{LegalTrace, MayCome, context_of}
use Rattle.lisp_model.specs.Trace.{EventValue, Step, Opening, etr_config, is_server, key_after, key, sites, sites_after}
use Rattle.lisp_model.proofs.ListLemmas.{at_head, head_or_tail, in_none, in_tail}
use Rattle.lisp_turns.specs.Acts.{TurnAct}
use Rattle.lisp_turns.specs.Outside.{Call, Listens}
use Rattle.lisp_turns.specs.Part.{WasOrdered}
use Rattle.lisp_turns.specs.declared.order.Order.TheVariants as orders
use Rattle.lisp_turns.proofs.Reaching.{all_append, all_wider}
use Rattle.lisp_deployment.specs.Lives.{TakesOneOf, sites_taken_in, sites_taken}
use Rattle.lisp_deployment.specs.Received.{MayBeUnder, MayHold, sites_told}

-- a router is under the key of its configuration, or one of its site
under_key : (o : Opening) (T : List Step) (r : ℕ) → LegalTrace o T → MayBeUnder o.config r (key o T r)
under_key o [] r legal = inl refl
under_key o (s ∷ T) r legal = at (under_key o T r legal.1) s.event s.line legal.0.row
  where
    goes_over : MayBeUnder o.config r (key o T r) → (b : Bool) (router next : ℕ) → (router == r) ≡ b → KnowsKey o.config router next → MayBeUnder o.config r (if b then next else key o T r)
    goes_over before true router next is known = inr (subst (λ (k : ℕ). KnowsKey o.config k next) ((Decides-eqb router r).0 is) known)
    goes_over before false router next is known = before

    at : MayBeUnder o.config r (key o T r) → (event : EventValue) (line : Line) → MayCome (context_of o T s) event line → MayBeUnder o.config r (key_after event line r (key o T r))
    at before (events.Rotate router next fate) (lines.Rotated named under) row = goes_over before (router == r) router next refl row.may.known
    at before (events.Lose router next db) (lines.Emptied named under) row = goes_over before (router == r) router next refl row.lost.may.known
    at before (events.Lose router next db) (lines.Refused named (refusals.Start fault)) row = goes_over before (router == r) router next refl row.lost.may.known
    at before (events.Lose router next db) _ row = absurd row
    at before _ _ row = before

-- all sites that Map-Servers take in steps are of the configuration or given
abbrev pub TakeGiven : Opening → List (List SiteValue) → List Step → Type 0
TakeGiven o given steps = AllByRecursion (λ s. TakesOneOf (o.config.sites ∷ given) s.event) steps

-- so those of a Map-Server are
pub sites_given : (o : Opening) (given : List (List SiteValue)) (T : List Step) (server : ℕ) → TakeGiven o given T → Contains (o.config.sites ∷ given) (sites o T server)
sites_given o given [] server take = at_head o.config.sites given
sites_given o given (s ∷ T) server take = by s.event take.0 (sites_given o given T server take.1)
  where
    by : (event : EventValue) → TakesOneOf (o.config.sites ∷ given) event → Contains (o.config.sites ∷ given) (sites o T server) → Contains (o.config.sites ∷ given) (sites_after event server (sites o T server))
    by (events.Reload node new) takes before = at (node == server)
      where
        at : (b : Bool) → Contains (o.config.sites ∷ given) (if b then new else sites o T server)
        at true = takes
        at false = before
    by _ takes before = before

-- the secrets of a node are some that it may hold
pub may_hold : (o : Opening) (given : List (List SiteValue)) (T : List Step) (number : ℕ) → LegalTrace o T → TakeGiven o given T → (secret : List ℕ) → Contains (secrets_of o T number) secret → MayHold o.config given number secret
may_hold o given T number legal take secret has = by (is_server o.config number) refl has
  where
    by : (b : Bool) → is_server o.config number ≡ b
        → Contains (if b then flat_map (λ s. map (λ k. k.secret) s.keys) (sites o T number) else (etr_config o T number).secret ∷ []) secret → MayHold o.config given number secret
    by true is there = inl (is, sites o T number, sites_given o given T number take, there)
    by false is there = its (head_or_tail (etr_config o T number).secret [] secret there)
      where
        its : (secret ≡ (etr_config o T number).secret) ⊎ Contains [] secret → MayHold o.config given number secret
        its (inl same) = inr (is, key o T number, under_key o T number legal, same)
        its (inr none) = absurd (in_none secret none)

-- ---- the sites that Map-Servers take

-- who takes one of some sites takes one of more
one_of_more : (some more : List (List SiteValue)) → ((sites : List SiteValue) → Contains some sites → Contains more sites) → (event : EventValue) → TakesOneOf some event → TakesOneOf more event
one_of_more some more are (events.Reload server sites) takes = are sites takes
one_of_more some more are _ takes = tt

-- behind the first sites of all
behind_first : (first : List SiteValue) (some more : List (List SiteValue)) → ((sites : List SiteValue) → Contains some sites → Contains more sites)
    → (sites : List SiteValue) → Contains (first ∷ some) sites → Contains (first ∷ more) sites
behind_first first some more are sites has = by (head_or_tail first some sites has)
  where
    by : (sites ≡ first) ⊎ Contains some sites → Contains (first ∷ more) sites
    by (inl is) = subst (λ (x : List SiteValue). Contains (first ∷ more) x) (sym is) (at_head first more)
    by (inr later) = in_tail first more sites (are sites later)

-- ---- sites that are taken in acts

one_taken : (given : List (List SiteValue)) (event : EventValue) → ((sites : List SiteValue) → Contains (sites_taken_in event) sites → Contains given sites) → TakesOneOf given event
one_taken given (events.Reload server sites) are = are sites (at_head sites [])
one_taken given _ are = tt

pub acts_take : (given : List (List SiteValue)) (acts : List TurnAct) → ((sites : List SiteValue) → Contains (sites_taken acts) sites → Contains given sites) → AllByRecursion (λ a. TakesOneOf given a.event) acts
acts_take given [] are = tt
acts_take given (a ∷ earlier) are = (
  one_taken given a.event (λ sites has. are sites (Contains-append_left (sites_taken_in a.event) (sites_taken earlier) sites has)),
  acts_take given earlier (λ sites has. are sites (Contains-append_right (sites_taken_in a.event) (sites_taken earlier) sites has)),
)

-- ---- sites that were told

more_told : (c : Call) (calls : List Call) (sites : List SiteValue) → Contains (sites_told calls) sites → Contains (sites_told (c ∷ calls)) sites
more_told (Listens (Some (orders.Reload others))) calls sites has = in_tail others (sites_told calls) sites has
more_told (Listens _) calls sites has = has
more_told _ calls sites has = has

told_sites : (calls : List Call) (sites : List SiteValue) → Contains calls (Listens (Some (orders.Reload sites))) → Contains (sites_told calls) sites
told_sites [] sites has = absurd (in_none (Listens (Some (orders.Reload sites))) has)
told_sites (c ∷ calls) sites has = by (head_or_tail c calls (Listens (Some (orders.Reload sites))) has) (told_sites calls sites)
  where
    by : (Listens (Some (orders.Reload sites)) ≡ c) ⊎ Contains calls (Listens (Some (orders.Reload sites))) → (Contains calls (Listens (Some (orders.Reload sites))) → Contains (sites_told calls) sites) → Contains (sites_told (c ∷ calls)) sites
    by (inl is) go = subst (λ (x : Call). Contains (sites_told (x ∷ calls)) sites) is (at_head sites (sites_told calls))
    by (inr later) go = more_told c calls sites (go later)

told_one : (first : List SiteValue) (calls : List Call) (given : List (List SiteValue)) → ((sites : List SiteValue) → Contains (sites_told calls) sites → Contains given sites)
    → (event : EventValue) → WasOrdered calls event → TakesOneOf (first ∷ given) event
told_one first calls given are (events.Reload server sites) has = in_tail first given sites (are sites (told_sites calls sites has))
told_one first calls given are _ has = tt

-- ---- a trace in which no other sites are taken goes on

-- by what nodes were told
pub ordered_given : (o : Opening) (calls : List Call) (given : List (List SiteValue)) → ((sites : List SiteValue) → Contains (sites_told calls) sites → Contains given sites)
    → (steps T : List Step) → AllByRecursion (λ s. WasOrdered calls s.event) steps → TakeGiven o given T → TakeGiven o given (steps ++ T)
ordered_given o calls given are steps T ordered took =
    all_append (λ (s : Step). TakesOneOf (o.config.sites ∷ given) s.event) steps T
    (all_wider (λ (s : Step). WasOrdered calls s.event) (λ (s : Step). TakesOneOf (o.config.sites ∷ given) s.event) (λ s. told_one o.config.sites calls given are s.event) steps ordered) took

-- by steps in which one of some is taken
pub taken_given : (o : Opening) (some given : List (List SiteValue)) → ((sites : List SiteValue) → Contains some sites → Contains given sites)
    → (steps T : List Step) → AllByRecursion (λ s. TakesOneOf some s.event) steps → TakeGiven o given T → TakeGiven o given (steps ++ T)
taken_given o some given are steps T takes took =
    all_append (λ (s : Step). TakesOneOf (o.config.sites ∷ given) s.event) steps T
    (all_wider (λ (s : Step). TakesOneOf some s.event) (λ (s : Step). TakesOneOf (o.config.sites ∷ given) s.event)
    (λ s. one_of_more some (o.config.sites ∷ given) (λ sites has. in_tail o.config.sites given sites (are sites has)) s.event) steps takes) took

-- and so it is where more are given
pub more_given : (o : Opening) (more given : List (List SiteValue)) (T : List Step) → TakeGiven o given T → TakeGiven o (more ++ given) T
more_given o more given T took =
    all_wider (λ (s : Step). TakesOneOf (o.config.sites ∷ given) s.event) (λ (s : Step). TakesOneOf (o.config.sites ∷ more ++ given) s.event)
    (λ s. one_of_more (o.config.sites ∷ given) (o.config.sites ∷ more ++ given) (behind_first o.config.sites given (more ++ given) (Contains-append_right more given)) s.event) T took
