-- What the nodes of a deployment received, and that nobody outside knows a secret: then its trace is clean.
use Rattle.std.specs.Prelude.{◌≡◌, ◌⊎◌, ℕ, true, false, List, [], ◌∷◌, ◌++◌, map, Some}
use Rattle.std.specs.List.{AllByRecursion, Contains, flat_map}
use Rattle.lisp_records.specs.declared.address.Addr.{Addr}
use Rattle.lisp_policy.specs.Configuration.{ConfigValue}
use Rattle.lisp_policy.specs.Site.{SiteValue}
use Rattle.lisp_messages.specs.Authentic.{is_authentic}
use Rattle.lisp_nonces.specs.Store.{StoreState}
use Rattle.lisp_model.specs.Clean.{Clean, IsNoise}
use Rattle.lisp_model.specs.Keys.{KnowsKey}
use Rattle.lisp_model.specs.Network.{IsNetwork}
use Rattle.lisp_model.specs.Trace.{Opening, address_at, router_at, secret_at, is_server}
use Rattle.lisp_refinement.specs.Headline.{OverClean}
use Rattle.lisp_refinement.specs.World.{DatagramValue, WorldState}
use Rattle.lisp_turns.specs.Outside.{Call, Listens}
use Rattle.lisp_turns.specs.Part.{datagram_from, received_of, arrived_in}
use Rattle.lisp_turns.specs.declared.order.Order.TheVariants as orders
use Rattle.lisp_deployment.specs.Deeds.{Deed, Turn, Life, DoesDeed, DoDeeds, HasTrace}
use Rattle.lisp_deployment.specs.Deployment.{DeploymentState}
use Rattle.lisp_deployment.specs.Lives.{sites_taken}
use Rattle.lisp_deployment.specs.Opening.{DeploymentBegins, DeploymentOpens}

-- the node whose deed it is
abbrev pub node_of : Deed → ℕ
node_of (Turn number calls) = number
node_of (Life number told) = number

-- what a node received in a deed, and from which address: in a turn; or in the turn in which it crashed, as far as it did anything of it
-- by then
abbrev pub received_in : (A : Type 0) (config : ConfigValue) (deed : Deed) (old new : DeploymentState) → DoesDeed A config deed old new
    → List (Addr × List ℕ)
received_in A config (Turn number calls) old new takes = received_of calls
received_in A config (Life number told) old new begins = arrived_in (begins.life.untold ++ told)

-- the sites that a node was told to take, each time all of them
abbrev pub sites_told : List Call → List (List SiteValue)
sites_told [] = []
sites_told (Listens (Some (orders.Reload sites)) ∷ calls) = sites ∷ sites_told calls
sites_told (_ ∷ calls) = sites_told calls

-- the sites that a node was given in a deed, and nodes in deeds: those that it was told to take, and perhaps did; and those of its next life
abbrev pub given_in : (A : Type 0) (config : ConfigValue) (deed : Deed) (old new : DeploymentState) → DoesDeed A config deed old new
    → List (List SiteValue)
given_in A config (Turn number calls) old new takes = sites_told calls
given_in A config (Life number told) old new begins = begins.life.sites ∷ sites_taken (begins.life.untold ++ told)

abbrev pub given_by : (A : Type 0) (config : ConfigValue) (deeds : List Deed) (old new : DeploymentState) → DoDeeds A config deeds old new
    → List (List SiteValue)
given_by A config [] old new did = []
given_by A config (deed ∷ earlier) old new (between, did, does) = given_in A config deed between new does
    ++ given_by A config earlier old between did

-- a key that a router may be under: the one that it is configured with, or one that its site has
abbrev pub MayBeUnder : ConfigValue → ℕ → ℕ → Type 0
MayBeUnder config number key = (key ≡ (router_at config number).key_id) ⊎ KnowsKey config number key

-- a secret that a node may hold: of a Map-Server each of all sites of its configuration, or of others that were given; of a router that of
-- each key that it may be under
abbrev pub MayHold : ConfigValue → List (List SiteValue) → ℕ → List ℕ → Type 0
MayHold config given number secret =
    ((is_server config number ≡ true) × (sites : List SiteValue) × Contains (config.sites ∷ given) sites
    × Contains (flat_map (λ s. map (λ k. k.secret) s.keys) sites) secret)
    ⊎ ((is_server config number ≡ false) × (key : ℕ) × MayBeUnder config number key
    × (secret ≡ secret_at config.sites (router_at config number).me.site key))

-- the bytes are authentic under none of them
abbrev pub IsForgedFor : ConfigValue → List (List SiteValue) → ℕ → List ℕ → Type 0
IsForgedFor config given number bytes = (secret : List ℕ) → MayHold config given number secret → is_authentic bytes secret ≡ false

-- What a node received: a datagram that a node of the deployment sent before, from that address to the node's own; or bytes from outside
-- that spell no message, or aren't authentic under any secret that the node may hold.
abbrev pub IsUnforged : ConfigValue → List (List SiteValue) → List DatagramValue → ℕ → Addr × List ℕ → Type 0
IsUnforged config given sent number message = Contains sent (datagram_from message.0 (address_at config number, message.1))
    ⊎ (IsNoise message.1 ⊎ IsForgedFor config given number message.1)

-- so is all that was received in deeds, whichever sites were given by then
abbrev pub ReceivesUnforged : (A : Type 0) (config : ConfigValue) (deeds : List Deed) (old new : DeploymentState)
    → DoDeeds A config deeds old new → Type 0
ReceivesUnforged A config [] old new did = Unit {0}
ReceivesUnforged A config (deed ∷ earlier) old new (between, did, does) = ReceivesUnforged A config earlier old between did
    × AllByRecursion (IsUnforged config (given_by A config (deed ∷ earlier) old new (between, did, does)) between.sent (node_of deed))
    (received_in A config deed between new does)

-- A deployment has a clean trace: what the headline says over clean traces holds of it.
pub record HasCleanTrace (config : ConfigValue) (deeds : List Deed) (d : DeploymentState) (first : WorldState) (o : Opening)
    : Type 0 where
  pub has : HasTrace config deeds d first o
  pub clean : Clean o has.trace
  pub over_clean : OverClean has.network o has.trace

-- So has each that began, whatever its nodes did since, where nothing that they received was forged.
abbrev pub UnforgedDeploymentsAreClean : Type 0 → Type 0
UnforgedDeploymentsAreClean A = (config : ConfigValue) (stores : ℕ → StoreState) (begun d : DeploymentState) (deeds : List Deed)
    → IsNetwork config → DeploymentBegins config stores begun → (did : DoDeeds A config deeds begun d)
    → ReceivesUnforged A config deeds begun d did
    → (first : WorldState) × (o : Opening) × DeploymentOpens config stores begun first o × HasCleanTrace config deeds d first o
