-- What the functions answer that read values of a document.
use Rattle.std.specs.Prelude.{ℕ, List, Result}
use denote.Ref.{Bor}
use Rattle.toml.specs.Data.{Data, Items}
use Rattle.toml.specs.View.{view, items_view}
use Rattle.toml.specs.declared.value.Value.{Value}
use Rattle.lisp_records.specs.declared.address.Addr.{Addr}
use Rattle.lisp_records.specs.Result.{Reads}
use Rattle.lisp_texts.specs.Form.{secret_text_of}
use Rattle.lisp_policy.specs.Site.{SiteValue}
use Rattle.lisp_policy.specs.Configuration.{ServerEntryValue, RouterEntryValue}
use Rattle.lisp_sites.specs.declared.field.Field.{Field}
use Rattle.lisp_sites.specs.declared.fault.ConfigFault.{ConfigFault}
use Rattle.lisp_sites.specs.declared.place.PlacedFault.{PlacedFault}
use Rattle.lisp_sites.specs.Form.{text_as}
use Rattle.lisp_sites.specs.Table.{Gives, GivesAt, required, each, one_more, each_item, router_node, router_at, routers_of}

-- the elements of an array, or its fault
abbrev pub ReadsItems : Result (Bor (List Value)) ConfigFault → Result Items ConfigFault → Type 0
ReadsItems result read = Reads (λ values. items_view values.now) result read

-- a text, or its fault
abbrev pub ReadsText : Result (Bor (List ℕ)) ConfigFault → Result (List ℕ) ConfigFault → Type 0
ReadsText result read = Reads (λ text. text.now) result read

-- a secret that has to be there
abbrev pub GivesSecret : Result (List ℕ) ConfigFault → Field → List ℕ → Value → Type 0
GivesSecret result name key entry = Gives (λ secret. secret) result (required name key (text_as secret_text_of) (view entry))

-- one more entry, behind those of a list
abbrev pub GivesOneMore : {S X U : Type 0} → (S → List X) → S → S → Result U PlacedFault → (List X → Data → Result X PlacedFault) → Value → Type 0
GivesOneMore entries old new result read entry = GivesAt (λ _. entries new) result (one_more read (entries old) (view entry))

-- the entries of an array, behind those of a list
abbrev pub GivesEach : {S X : Type 0} → (S → List X) → Result S PlacedFault → Field → (List X → Data → Result X PlacedFault) → S → List Value → Type 0
GivesEach entries result array read list values = GivesAt entries result (each array read (entries list) 1 (items_view values))

-- those of an array of tables, none where it is absent
abbrev pub GivesTables : {S X : Type 0} → (S → List X) → Result S PlacedFault → Field → List ℕ → (List X → Data → Result X PlacedFault) → S → Value → Type 0
GivesTables entries result array key read list entry = GivesAt entries result (each_item array key read (entries list) (view entry))

-- the name and the address of a router that has the name of no Map-Server and of no router before it
abbrev pub GivesNode : Result (List ℕ × Addr) ConfigFault → List ServerEntryValue → List RouterEntryValue → Value → Type 0
GivesNode result servers before entry = Gives (λ node. (node.0, node.1)) result (router_node servers before (view entry))

-- a router behind those before it, and all routers of a document
abbrev pub GivesRouter : Result RouterEntryValue PlacedFault → List SiteValue → List ServerEntryValue → List RouterEntryValue → Value → Type 0
GivesRouter result sites servers before entry = GivesAt (λ router. router) result (router_at sites servers before (view entry))

abbrev pub GivesRouters : Result (List RouterEntryValue) PlacedFault → List SiteValue → List ServerEntryValue → Value → Type 0
GivesRouters result sites servers document = GivesAt (λ routers. routers) result (routers_of sites servers (view document))
