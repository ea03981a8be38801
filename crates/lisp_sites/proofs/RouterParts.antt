-- What is read of a router besides name and address: its site and key, its Map-Servers, its block of
-- nonces, its records.
use Rattle.std.proofs.Common.{◌≡◌, ◌≢◌, ℕ, Bool, true, false, ◌<◌, ◌≤◌, ◌==◌, cond, List, [], ◌∷◌, length, Option, Some, None, Ok, refl, sym, ap, subst, ◌∙◌, arith}
use Rattle.std.specs.Prelude.{codes, position, option_and_then, IsSomeAnd}
use Rattle.std.specs.List.{AllByRecursion, list_any, find}
use Rattle.std.specs.Result.{result_ok}
use Rattle.std.specs.Str.{bytes_eq}
use Rattle.std.proofs.lemmas.Bool.{eqb-true}
use Rattle.std.proofs.lemmas.Bool.Decides.{Decides-eqb}
use Rattle.std.proofs.lemmas.List.Quantifiers.{position-Some}
use Rattle.std.proofs.lemmas.Option.{same_Some, cond_some}
use Rattle.toml.specs.Data.{Data, get, as_str, as_array}
use Rattle.lisp_records.specs.declared.router.RouterId.{RouterId}
use Rattle.lisp_records.specs.Record.{MapRecordValue, IsMapRecord}
use Rattle.lisp_records.specs.Database.{database_of}
use Rattle.lisp_records.proofs.DatabaseLemmas.{database_same}
use Rattle.lisp_texts.specs.Reading.{if_so, record_text_of}
use Rattle.lisp_texts.specs.Form.{site_id_of, xtr_of}
use Rattle.lisp_texts.proofs.Options.{bind_some}
use Rattle.lisp_sites.specs.declared.field.Field.TheVariants as fields
use Rattle.lisp_sites.specs.declared.fault.ConfigFault.TheVariants.{BadValue}
use Rattle.lisp_policy.specs.Site.{SiteValue, site_of, has_key}
use Rattle.lisp_policy.specs.Configuration.{ServerEntryValue}
use Rattle.lisp_sites.specs.Form.{text_as, byte_as, nonce_block_as}
use Rattle.lisp_sites.specs.Table.{required, optional_at, items, each, flat, router_site, router_key, router_identity, server_place, place_of, place_at, places_of, router_nonce_block, record_at, as_database, database_at}
use Rattle.lisp_sites.proofs.Readings.{same_ok, bind_ok, bind_told, told-Ok, one_flat, ok_or-Ok, result_ok-Some, and_then-Some, required-Ok, required_text-Ok, fresh-Ok, none_like, each_keeps, all_push, AreApart, Joins, each_apart}
use Rattle.lisp_sites.proofs.Forms.{byte_fits, nonce_block_fits, xtr_fits}
use Rattle.lisp_sites.proofs.TextFits.{record_fits}

-- ---- a router's site, key and xTR-ID

find-Some : {X : Type 0} (test : X → Bool) (xs : List X) (y : X) → find test xs ≡ Some y → test y ≡ true
find-Some test [] y e = cc e
find-Some {X} test (x ∷ xs) y e = at (test x) refl e (find-Some test xs y)
  where
    at : (here : Bool) → test x ≡ here → cond here (Some x) (find test xs) ≡ Some y → (find test xs ≡ Some y → test y ≡ true) → test y ≡ true
    at true is e behind = subst (λ (z : X). test z ≡ true) (same_Some x y e) is
    at false is e behind = behind e

-- it has a key of its site
pub record IsIdentity (sites : List SiteValue) (me : RouterId × ℕ) : Type 0 where
  pub xtr : length me.0.xtr ≡ 16
  pub xtr_bytes : AllByRecursion (λ n. n < 256) me.0.xtr
  pub key_id : me.1 < 256
  pub key : IsSomeAnd (site_of sites me.0.site) (λ s. has_key s.keys me.1 ≡ true)

module _ (sites : List SiteValue) where
  -- the site is found by its own Site-ID
  site_there : (entry : Data) (site : SiteValue) → router_site sites entry ≡ Ok site → site_of sites site.id ≡ Some site
  site_there entry site e =
      let v = required-Ok fields.RouterSite (codes "site") (λ d. option_and_then (site_of sites) (text_as site_id_of d)) entry site e in
      let id = and_then-Some (site_of sites) (text_as site_id_of v.0) site v.1 in
      let same : site.id ≡ id.0 = eqb-true site.id id.0 (find-Some (λ s. s.id == id.0) sites site id.2) in
      ap (site_of sites) same ∙ id.2

  key_there : (site : SiteValue) (entry : Data) (id : ℕ) → router_key site entry ≡ Ok id → (id < 256) × (has_key site.keys id ≡ true)
  key_there site entry id e =
      let v = required-Ok fields.RouterKey (codes "key") (λ d. option_and_then (λ n. if_so (has_key site.keys n) n) (byte_as d)) entry id e in
      let n = and_then-Some (λ n. if_so (has_key site.keys n) n) (byte_as v.0) id v.1 in
      let some = cond_some (has_key site.keys n.0) n.0 id n.2 in
      subst (λ (k : ℕ). (k < 256) × (has_key site.keys k ≡ true)) some.1 (byte_fits v.0 n.0 n.1, some.0)

  pub is_identity : (entry : Data) (me : RouterId × ℕ) → router_identity sites entry ≡ Ok me → IsIdentity sites me
  unfolding router_identity
  is_identity entry me e =
      let site = bind_ok (router_site sites entry) _ me e in
      let xtr = bind_ok (required fields.RouterXtr (codes "xtr") (text_as xtr_of) entry) _ me site.2 in
      let id = bind_ok (router_key site.0 entry) _ me xtr.2 in
      let text = required_text-Ok fields.RouterXtr (codes "xtr") xtr_of entry xtr.0 xtr.1 in
      let bytes = xtr_fits text.0 xtr.0 text.1 in
      let has = key_there site.0 entry id.0 id.1 in
      subst (IsIdentity sites) (same_ok (record { site = site.0.id; xtr = xtr.0 }, id.0) me id.2) (record {
        xtr = bytes.0;
        xtr_bytes = bytes.1;
        key_id = has.0;
        key = subst (λ (o : Option SiteValue). IsSomeAnd o (λ s. has_key s.keys id.0 ≡ true)) (sym (site_there entry site.0 site.1)) has.1;
      })

-- ---- how many nonces one save serves

pub few_nonces : (entry : Data) (n : ℕ) → router_nonce_block entry ≡ Ok n → (1 ≤ n) × (n ≤ 1024)
few_nonces entry n e = at (get (codes "nonce_block") entry) e
  where
    at : (found : Option Data) → optional_at fields.RouterNonceBlock nonce_block_as 1 found ≡ Ok n → (1 ≤ n) × (n ≤ 1024)
    at None e = subst (λ (k : ℕ). (1 ≤ k) × (k ≤ 1024)) (same_ok 1 n e) (omega arith, omega arith)
    at (Some v) e = nonce_block_fits v n (ok_or-Ok (nonce_block_as v) (BadValue fields.RouterNonceBlock) n e)

-- ---- a router's Map-Servers

within : (test : ServerEntryValue → Bool) (servers : List ServerEntryValue) (k : ℕ) → position test servers ≡ Some k → k < length servers
within test [] k e = cc e
within test (s ∷ ss) k e = (position-Some test (s ∷ ss) k s e).0

module _ (servers : List ServerEntryValue) where
  one_place : (before : List ℕ) (d : Data) (place : ℕ) → place_at servers before d ≡ Ok place → Joins (λ k. k < length servers) (λ a b. a ≢ b) before place
  one_place before d place e =
      let new = fresh-Ok fields.RouterServers (place_of servers d) (λ k. list_any (λ p. p == k) before) place e in
      let found = ok_or-Ok (option_and_then (server_place servers) (as_str d)) (BadValue fields.RouterServers) place new.0 in
      let name = and_then-Some (server_place servers) (as_str d) place found in
      record {
        kind = within (λ s. bytes_eq s.name name.0) servers place name.2;
        apart = none_like (λ p. p == place) (λ p. p ≡ place) (λ p. (Decides-eqb p place).1) before new.1;
      }

  pub places_apart : (entry : Data) (places : List ℕ) → places_of servers entry ≡ Ok places → AreApart (λ k. k < length servers) (λ a b. a ≢ b) places
  places_apart entry places e =
      let found = bind_told (required fields.RouterServers (codes "servers") as_array entry) (each fields.RouterServers (flat (place_at servers)) [] 1) places e in
      each_apart (λ k. k < length servers) (λ a b. a ≢ b) fields.RouterServers (flat (place_at servers)) (one_flat (place_at servers) one_place) found.0 places found.2

-- ---- a router's records

one_record : (before : List MapRecordValue) (d : Data) (m : MapRecordValue) → record_at before d ≡ Ok m → IsMapRecord m
one_record before d m e =
    let text = bind_some (as_str d) record_text_of m (ok_or-Ok (text_as record_text_of d) (BadValue fields.RouterRecords) m e) in
    record_fits text.0 m text.2

pub record IsDatabase (db : List MapRecordValue) : Type 0 where
  pub records : AllByRecursion IsMapRecord db
  pub database : database_of db ≡ Ok db

pub is_database : (entry : Data) (db : List MapRecordValue) → database_at entry ≡ Ok db → IsDatabase db
unfolding database_at
is_database entry db e =
    let texts = bind_told (items fields.RouterRecords (codes "records") entry) _ db e in
    let records = bind_ok (each fields.RouterRecords (flat record_at) [] 1 texts.0) _ db texts.2 in
    let made = result_ok-Some (database_of records.0) db (ok_or-Ok (result_ok (database_of records.0)) (BadValue fields.RouterRecords) db (told-Ok (as_database records.0) db records.2)) in
    let same = database_same records.0 db made in
    let all = each_keeps (AllByRecursion IsMapRecord) fields.RouterRecords (flat record_at) (λ before d m reads so_far. all_push IsMapRecord before m so_far (one_flat record_at one_record before d m reads)) texts.0 [] records.0 1 records.1 tt in
    record { records = subst (AllByRecursion IsMapRecord) same all; database = ap database_of (sym same) ∙ made }
