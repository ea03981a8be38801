-- Which node the text of a configuration starts, or why it starts none.
use Rattle.std.specs.Prelude.{◌≡◌, ℕ, true, List, Option, Some, None, Result, Ok, Err, IsErrOf, if◌then◌else◌}
use Rattle.std.specs.List.{find}
use Rattle.std.specs.Str.{bytes_eq, is_utf8}
use Rattle.toml.specs.Parse.{parse_document}
use Rattle.lisp_records.specs.Record.{MapRecordValue, bit}
use Rattle.lisp_records.specs.Result.{◌>>=◌}
use Rattle.lisp_policy.specs.Configuration.{ConfigValue, RouterEntryValue}
use Rattle.lisp_policy.specs.Extends.{extends}
use Rattle.lisp_policy.specs.Site.{SiteValue}
use Rattle.lisp_sites.specs.declared.fault.ConfigFault.{ConfigFault}
use Rattle.lisp_sites.specs.declared.fault.ConfigFault.TheVariants as config_faults
use Rattle.lisp_sites.specs.Table.{config_of}
use Rattle.lisp_nonces.specs.declared.pair.Pair.{Pair}
use Rattle.lisp_etr.specs.Config.{EtrConfigValue, sent_pair}
use Rattle.lisp_etr.specs.Etr.{etr_changed}
use Rattle.lisp_model.specs.Trace.{etr_config_of}
use Rattle.lisp_server.specs.Server.{empty_server, reloaded}
use Rattle.lisp_embedded.specs.declared.hosted.HostedServer.{HostedServer}
use Rattle.lisp_embedded.specs.declared.hosted.HostedRouter.{HostedRouter}
use Rattle.lisp_embedded.specs.Routers.{started_from}
use Rattle.lisp_registration.specs.declared.fault.NodeFault.{NodeFault}
use Rattle.lisp_registration.specs.declared.fault.HandleFault.TheVariants.{Null}
use Rattle.lisp_registration.specs.declared.pair.PlainPair.{PlainPair}
use Rattle.lisp_registration.specs.Fault.{handle_fault_number, node_fault_number}
use Rattle.lisp_registration.specs.Server.{plain_pair}
use Rattle.lisp_registration.specs.declared.fault.NodeFault.TheVariants.{NotUtf8, Configuration, NoRouter, OutOfMemory}
pub mod Asked

-- what is read of a configuration, or its fault
abbrev pub configured : {X : Type 0} → Result X ConfigFault → Result X NodeFault
configured (Ok x) = Ok x
configured (Err fault) = Err (Configuration fault)

-- the configuration of a text
abbrev pub text_config : List ℕ → Result ConfigValue NodeFault
text_config text = if is_utf8 text then configured (config_of (parse_document text)) else Err NotUtf8

-- a router, where there is one
abbrev pub or_no_router : ConfigValue → Option RouterEntryValue → Result (ConfigValue × RouterEntryValue) NodeFault
or_no_router config (Some entry) = Ok (config, entry)
or_no_router config None = Err NoRouter

-- the router of a name, with its configuration
abbrev pub text_entry : List ℕ → List ℕ → Result (ConfigValue × RouterEntryValue) NodeFault
text_entry text name = text_config text >>= λ config. or_no_router config (find (λ r. bytes_eq r.name name) config.routers)

-- what the router of a name is configured with, and what it registers
abbrev pub text_settings : List ℕ → List ℕ → Result (EtrConfigValue × List MapRecordValue) NodeFault
text_settings text name = text_entry text name >>= λ x. Ok (etr_config_of x.0 x.1, x.1.database)

-- memory may run out as the configuration of this text is read, and only of a text that is UTF-8: open, as `Config::from_toml`
-- leaves it. No proof may use `Asked` but that of the call of `from_toml`, so that no other code can say that memory ran out there
pub MayRunOut : List ℕ → Type 0
MayRunOut text = is_utf8 text ≡ true

-- an answer is that memory ran out as a configuration was read, 24, only where it may for this text
abbrev pub RunsOutReading : {X : Type 0} → List ℕ → Result X NodeFault → Type 0
RunsOutReading text answer = IsErrOf answer (Configuration config_faults.OutOfMemory) → MayRunOut text

-- ---- nodes

-- the sites of a configuration
abbrev pub text_sites : List ℕ → Result (List SiteValue) NodeFault
text_sites text = text_config text >>= λ config. Ok config.sites

-- a Map-Server of these sites, holding nothing
abbrev pub text_server : List ℕ → Result HostedServer NodeFault
text_server text = text_sites text >>= λ sites. Ok (record { server = empty_server sites })

-- the router of a name, which goes on from the nonce that was passed
abbrev pub text_router : List ℕ → List ℕ → Option ℕ → ℕ → Result HostedRouter NodeFault
text_router text name kept now = text_settings text name >>= λ x. Ok (record { router = started_from x.0 x.1 kept now })

-- what the nonces of the router of a name are kept for
abbrev pub text_pair : List ℕ → List ℕ → Result Pair NodeFault
text_pair text name = text_settings text name >>= λ x. Ok (sent_pair x.0)

-- what the router of a name registers
abbrev pub text_database : List ℕ → List ℕ → Result (List MapRecordValue) NodeFault
text_database text name = text_settings text name >>= λ x. Ok x.1

-- ---- answers

-- an answer, seen by view, is what the text gives, except that out of memory may come in its place
abbrev pub Comes : {X Y : Type 0} → (X → Y) → Result X NodeFault → Result Y NodeFault → Type 0
Comes view (Ok x) given = given ≡ Ok (view x)
Comes view (Err OutOfMemory) given = Unit {0}
Comes view (Err (Configuration config_faults.OutOfMemory)) given = Unit {0}
Comes view (Err fault) given = given ≡ Err fault

-- what a call from C leaves that starts a node: the node, or the number and what the handle held
abbrev pub told_start : {X : Type 0} → Result X NodeFault → Option X → ℕ × Option X
told_start (Ok node) old = (0, Some node)
told_start (Err fault) old = (node_fault_number fault, old)

-- it starts what the text gives
abbrev pub StartsNode : {X : Type 0} → Result X NodeFault → Option X → ℕ → Option X → Type 0
StartsNode {X = X} given old number new = (answer : Result X NodeFault) × Comes (λ x. x) answer given × ((number, new) ≡ told_start answer old)

-- a Map-Server that takes other sites, if there is one
abbrev pub told_reload : Result (List SiteValue) NodeFault → Option HostedServer → ℕ → ℕ × (Option HostedServer × ℕ)
told_reload (Ok sites) (Some hosted) goes_on = (0, (Some (record { server = reloaded hosted.server sites }), bit (extends hosted.server.sites sites)))
told_reload (Ok sites) None goes_on = (handle_fault_number Null, (None, goes_on))
told_reload (Err fault) old goes_on = (node_fault_number fault, (old, goes_on))

-- it takes the text's sites
abbrev pub ReloadsServer : Result (List SiteValue) NodeFault → Option HostedServer → ℕ → ℕ → Option HostedServer → ℕ → Type 0
ReloadsServer given old goes_on number new goes_on' = (answer : Result (List SiteValue) NodeFault) × Comes (λ x. x) answer given × ((number, (new, goes_on')) ≡ told_reload answer old goes_on)

-- a router that registers another database from a time on, where the handle holds one
abbrev pub told_change : Result (List MapRecordValue) NodeFault → Option HostedRouter → ℕ → ℕ × Option HostedRouter
told_change (Ok database) (Some hosted) now = (0, Some (record { router = etr_changed hosted.router database now }))
told_change (Ok database) None now = (handle_fault_number Null, None)
told_change (Err fault) old now = (node_fault_number fault, old)

-- it registers what the text gives
abbrev pub ChangesRouter : Result (List MapRecordValue) NodeFault → ℕ → Option HostedRouter → ℕ → Option HostedRouter → Type 0
ChangesRouter given now old number new = (answer : Result (List MapRecordValue) NodeFault) × Comes (λ x. x) answer given × ((number, new) ≡ told_change answer old now)

-- what a call leaves that asks for the pair of a router: the pair, or the number and what was there
abbrev pub told_pair : Result Pair NodeFault → PlainPair → ℕ × PlainPair
told_pair (Ok pair) old = (0, plain_pair (Some pair))
told_pair (Err fault) old = (node_fault_number fault, old)

abbrev pub TellsRouterPair : Result Pair NodeFault → PlainPair → ℕ → PlainPair → Type 0
TellsRouterPair given old number new = (answer : Result Pair NodeFault) × Comes (λ x. x) answer given × ((number, new) ≡ told_pair answer old)
