-- The Map-Servers and routers that are read are such.
use Rattle.std.proofs.Common.{◌≡◌, ℕ, Bool, true, false, ◌||◌, List, [], ◌++◌, map, Ok, sym, subst, ◌∙◌, true≢false, arith}
use Rattle.std.specs.Prelude.{codes}
use Rattle.std.specs.List.{list_any}
use Rattle.std.specs.Str.{bytes_eq}
use Rattle.std.proofs.lemmas.List.Folds.{list_any-append}
use Rattle.toml.specs.Data.{Data}
use Rattle.lisp_records.specs.declared.address.Addr.{Addr}
use Rattle.lisp_records.specs.Address.{IsWhole}
use Rattle.lisp_texts.specs.Reading.{address_of}
use Rattle.lisp_sites.specs.declared.field.Field.TheVariants as fields
use Rattle.lisp_policy.specs.Site.{SiteValue}
use Rattle.lisp_policy.specs.Configuration.{ServerEntryValue, RouterEntryValue, ConfigValue, IsServerEntry, IsRouterEntry}
use Rattle.lisp_policy.specs.Configuration.{is_name}
use Rattle.lisp_sites.specs.Form.{name_of, text_as}
use Rattle.lisp_sites.specs.Table.{required, items, as_entry, each, has_server, fresh_server_name, resolve_of, server_at, servers_of, has_router, fresh_router_name, router_node, router_identity, places_of, router_flags, router_nonce_block, database_at, router_at}
use Rattle.lisp_sites.proofs.Readings.{same_ok, bind_ok, bind_told, required_text-Ok, fresh-Ok}
use Rattle.lisp_sites.proofs.Forms.{name_fits}
use Rattle.lisp_sites.proofs.TextFits.{address_fits}
use Rattle.lisp_sites.proofs.Names.{list_any-map, AreNamed, TakesName, each_named}
use Rattle.lisp_sites.proofs.RouterParts.{is_identity, places_apart, few_nonces, is_database}

-- ---- Map-Servers

one_server : (before : List ServerEntryValue) (d : Data) (s : ServerEntryValue) → server_at before d ≡ Ok s → TakesName IsServerEntry (λ s. s.name) [] before s
unfolding server_at
one_server before d s e =
    let entry = bind_told (as_entry fields.Server d) _ s e in
    let name = bind_told (fresh_server_name before entry.0) _ s entry.2 in
    let address = bind_told (required fields.ServerAddress (codes "address") (text_as address_of) entry.0) _ s name.2 in
    let resolve = bind_ok (resolve_of fields.ServerResolve entry.0) _ s address.2 in
    let new = fresh-Ok fields.ServerName (required fields.ServerName (codes "name") (text_as name_of) entry.0) (has_server before) name.0 name.1 in
    let text = required_text-Ok fields.ServerName (codes "name") name_of entry.0 name.0 new.0 in
    let place = required_text-Ok fields.ServerAddress (codes "address") address_of entry.0 address.0 address.1 in
    subst (TakesName IsServerEntry (λ s. s.name) [] before) (same_ok (record { name = name.0; address = address.0; resolve = resolve.0 }) s resolve.2) (record {
      kind = record { name = name_fits text.0 name.0 text.1; address = address_fits place.0 address.0 place.1 };
      new = list_any-map (λ n. bytes_eq n name.0) (λ s. s.name) before ∙ new.1;
    })

pub servers_named : (d : Data) (servers : List ServerEntryValue) → servers_of d ≡ Ok servers → AreNamed IsServerEntry (λ s. s.name) [] servers
servers_named d servers e =
    let entries = bind_told (items fields.Server (codes "server") d) (each fields.Server server_at [] 1) servers e in
    each_named IsServerEntry (λ s. s.name) [] fields.Server server_at one_server (λ i j d lt within. absurd (omega arith)) entries.0 servers entries.2

-- no server before has the name of one that is read
pub server_is_new : (before : List ServerEntryValue) (d : Data) (s : ServerEntryValue) → server_at before d ≡ Ok s → list_any (λ x. bytes_eq x.name s.name) before ≡ false
server_is_new before d s e = sym (list_any-map (λ n. bytes_eq n s.name) (λ x. x.name) before) ∙ (one_server before d s e).new

-- ---- routers

record IsNode (servers : List ServerEntryValue) (before : List RouterEntryValue) (node : List ℕ × Addr) : Type 0 where
  name : is_name node.0 ≡ true
  address : IsWhole node.1
  new : list_any (λ n. bytes_eq n node.0) (map (λ s. s.name) servers ++ map (λ r. r.name) before) ≡ false

is_node : (servers : List ServerEntryValue) (before : List RouterEntryValue) (d : Data) (node : List ℕ × Addr) → router_node servers before d ≡ Ok node → IsNode servers before node
unfolding router_node
is_node servers before d node e =
    let entry = bind_ok (as_entry fields.Router d) _ node e in
    let name = bind_ok (fresh_router_name servers before entry.0) _ node entry.2 in
    let address = bind_ok (required fields.RouterAddress (codes "address") (text_as address_of) entry.0) _ node name.2 in
    let new = fresh-Ok fields.RouterName (required fields.RouterName (codes "name") (text_as name_of) entry.0) (λ n. has_server servers n || has_router before n) name.0 name.1 in
    let text = required_text-Ok fields.RouterName (codes "name") name_of entry.0 name.0 new.0 in
    let place = required_text-Ok fields.RouterAddress (codes "address") address_of entry.0 address.0 address.1 in
    let test : List ℕ → Bool = λ n. bytes_eq n name.0 in
    subst (IsNode servers before) (same_ok (name.0, address.0) node address.2) (record {
      name = name_fits text.0 name.0 text.1;
      address = address_fits place.0 address.0 place.1;
      new = list_any-append test (map (λ s. s.name) servers) (map (λ r. r.name) before) ∙ (λ i. list_any-map test (λ s. s.name) servers i || list_any-map test (λ r. r.name) before i) ∙ new.1;
    })

module _ (c : ConfigValue) where
  pub one_router : (before : List RouterEntryValue) (d : Data) (r : RouterEntryValue) → router_at c.sites c.servers before d ≡ Ok r → TakesName (IsRouterEntry c) (λ r. r.name) (map (λ s. s.name) c.servers) before r
  unfolding router_at
  one_router before d r e =
      let node = bind_told (router_node c.servers before d) _ r e in
      let identity = bind_told (router_identity c.sites d) _ r node.2 in
      let places = bind_ok (places_of c.servers d) _ r identity.2 in
      let flags = bind_told (router_flags d) _ r places.2 in
      let block = bind_told (router_nonce_block d) _ r flags.2 in
      let database = bind_ok (database_at d) _ r block.2 in
      let resolve = bind_ok (resolve_of fields.RouterResolve d) _ r database.2 in
      let named = is_node c.servers before d node.0 node.1 in
      let known = is_identity c.sites d identity.0 identity.1 in
      let listed = places_apart c.servers d places.0 places.1 in
      let few = few_nonces d block.0 block.1 in
      let kept = is_database d database.0 database.1 in
      subst (TakesName (IsRouterEntry c) (λ r. r.name) (map (λ s. s.name) c.servers) before) (same_ok _ r resolve.2) (record {
        kind = record {
          name = named.name;
          address = named.address;
          xtr = known.xtr;
          xtr_bytes = known.xtr_bytes;
          key_id = known.key_id;
          key = known.key;
          servers = record { there = listed.kind; once = listed.apart };
          some_nonces = few.0;
          few_nonces = few.1;
          records = kept.records;
          database = kept.database;
        };
        new = named.new;
      })

second_false : (a b : Bool) → (a || b) ≡ false → b ≡ false
second_false true b none = absurd (true≢false none)
second_false false b none = none

-- no router before has the name of one that is read
pub router_is_new : (sites : List SiteValue) (servers : List ServerEntryValue) (before : List RouterEntryValue) (d : Data) (r : RouterEntryValue) → router_at sites servers before d ≡ Ok r → list_any (λ x. bytes_eq x.name r.name) before ≡ false
router_is_new sites servers before d r e =
    let test : List ℕ → Bool = λ n. bytes_eq n r.name in
    let new = (one_router (record { sites = sites; servers = servers; routers = [] }) before d r e).new in
    sym (list_any-map test (λ x. x.name) before) ∙ second_false (list_any test (map (λ s. s.name) servers)) (list_any test (map (λ x. x.name) before)) (sym (list_any-append test (map (λ s. s.name) servers) (map (λ x. x.name) before)) ∙ new)
