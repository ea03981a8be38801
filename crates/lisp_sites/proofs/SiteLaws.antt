-- The sites that are read are sites.
use Rattle.std.proofs.Common.{◌≡◌, ◌≢◌, false, ◌==◌, List, [], Ok, subst}
use Rattle.std.specs.Prelude.{codes}
use Rattle.std.proofs.lemmas.Bool.Decides.{Decides-eqb}
use Rattle.toml.specs.Data.{Data, as_bool}
use Rattle.lisp_records.specs.Address.{prefix_eq}
use Rattle.lisp_records.proofs.DatabaseLaws.{block_eq-Decides}
use Rattle.lisp_texts.specs.Reading.{prefix_of}
use Rattle.lisp_texts.specs.Form.{site_id_of, secret_text_of}
use Rattle.lisp_sites.specs.declared.field.Field.TheVariants as fields
use Rattle.lisp_policy.specs.declared.site.SitePrefix.{SitePrefix}
use Rattle.lisp_policy.specs.Site.{SiteKeyValue, SiteValue, has_key}
use Rattle.lisp_policy.specs.Configuration.{IsKey, IsSitePrefix, IsSite}
use Rattle.lisp_sites.specs.Form.{text_as, byte_as}
use Rattle.lisp_sites.specs.Table.{required, optional, items, as_entry, each, flat, fresh_key_id, key_at, keys_of, has_eid, fresh_eid, prefix_at, prefixes_of, limits_of, has_site, fresh_site_id, site_at, sites_of}
use Rattle.lisp_sites.proofs.Readings.{same_ok, bind_ok, bind_told, one_flat, required-Ok, required_text-Ok, fresh-Ok, none_like, AreApart, Joins, each_apart}
use Rattle.lisp_sites.proofs.Forms.{byte_fits, secret_fits, site_id_fits}
use Rattle.lisp_sites.proofs.TextFits.{prefix_fits}

one_key : (before : List SiteKeyValue) (d : Data) (k : SiteKeyValue) → key_at before d ≡ Ok k → Joins IsKey (λ a b. a.id ≢ b.id) before k
unfolding key_at
one_key before d k e =
    let entry = bind_ok (as_entry fields.SiteKey d) _ k e in
    let id = bind_ok (fresh_key_id before entry.0) _ k entry.2 in
    let secret = bind_ok (required fields.SiteKeySecret (codes "secret") (text_as secret_text_of) entry.0) _ k id.2 in
    let new = fresh-Ok fields.SiteKeyId (required fields.SiteKeyId (codes "id") byte_as entry.0) (has_key before) id.0 id.1 in
    let number = required-Ok fields.SiteKeyId (codes "id") byte_as entry.0 id.0 new.0 in
    let text = required_text-Ok fields.SiteKeySecret (codes "secret") secret_text_of entry.0 secret.0 secret.1 in
    let sizes = secret_fits text.0 secret.0 text.1 in
    subst (Joins IsKey (λ a b. a.id ≢ b.id) before) (same_ok (record { id = id.0; secret = secret.0 }) k secret.2) (record {
      kind = record { id = byte_fits number.0 id.0 number.1; some = sizes.0; few = sizes.1; bytes = sizes.2 };
      apart = none_like (λ x. x.id == id.0) (λ x. x.id ≡ id.0) (λ x. (Decides-eqb x.id id.0).1) before new.1;
    })

keys_apart : (d : Data) (keys : List SiteKeyValue) → keys_of d ≡ Ok keys → AreApart IsKey (λ a b. a.id ≢ b.id) keys
keys_apart d keys e =
    let entries = bind_told (items fields.SiteKey (codes "key") d) (each fields.SiteKey (flat key_at) [] 1) keys e in
    each_apart IsKey (λ a b. a.id ≢ b.id) fields.SiteKey (flat key_at) (one_flat key_at one_key) entries.0 keys entries.2

one_prefix : (before : List SitePrefix) (d : Data) (p : SitePrefix) → prefix_at before d ≡ Ok p → Joins IsSitePrefix (λ a b. a.eid ≢ b.eid) before p
unfolding prefix_at
one_prefix before d p e =
    let entry = bind_ok (as_entry fields.SitePrefix d) _ p e in
    let eid = bind_ok (fresh_eid before entry.0) _ p entry.2 in
    let flag = bind_ok (optional fields.SitePrefixMoreSpecifics (codes "more_specifics") as_bool false entry.0) _ p eid.2 in
    let new = fresh-Ok fields.SitePrefixEid (required fields.SitePrefixEid (codes "eid") (text_as prefix_of) entry.0) (has_eid before) eid.0 eid.1 in
    let text = required_text-Ok fields.SitePrefixEid (codes "eid") prefix_of entry.0 eid.0 new.0 in
    let fits = prefix_fits text.0 eid.0 text.1 in
    subst (Joins IsSitePrefix (λ a b. a.eid ≢ b.eid) before) (same_ok (record { eid = eid.0; more_specifics = flag.0 }) p flag.2) (record {
      kind = record { whole = fits.0; block = fits.1 };
      apart = none_like (λ x. prefix_eq x.eid eid.0) (λ x. x.eid ≡ eid.0) (λ x. (block_eq-Decides x.eid eid.0).1) before new.1;
    })

prefixes_apart : (d : Data) (prefixes : List SitePrefix) → prefixes_of d ≡ Ok prefixes → AreApart IsSitePrefix (λ a b. a.eid ≢ b.eid) prefixes
prefixes_apart d prefixes e =
    let entries = bind_told (items fields.SitePrefix (codes "prefix") d) (each fields.SitePrefix (flat prefix_at) [] 1) prefixes e in
    each_apart IsSitePrefix (λ a b. a.eid ≢ b.eid) fields.SitePrefix (flat prefix_at) (one_flat prefix_at one_prefix) entries.0 prefixes entries.2

one_site : (before : List SiteValue) (d : Data) (s : SiteValue) → site_at before d ≡ Ok s → Joins IsSite (λ a b. a.id ≢ b.id) before s
unfolding site_at
one_site before d s e =
    let entry = bind_told (as_entry fields.Site d) _ s e in
    let id = bind_told (fresh_site_id before entry.0) _ s entry.2 in
    let keys = bind_ok (keys_of entry.0) _ s id.2 in
    let prefixes = bind_ok (prefixes_of entry.0) _ s keys.2 in
    let limits = bind_ok (limits_of entry.0) _ s prefixes.2 in
    let new = fresh-Ok fields.SiteId (required fields.SiteId (codes "id") (text_as site_id_of) entry.0) (has_site before) id.0 id.1 in
    let text = required_text-Ok fields.SiteId (codes "id") site_id_of entry.0 id.0 new.0 in
    let each_key = keys_apart entry.0 keys.0 keys.1 in
    let each_prefix = prefixes_apart entry.0 prefixes.0 prefixes.1 in
    subst (Joins IsSite (λ a b. a.id ≢ b.id) before) (same_ok (record { id = id.0; keys = keys.0; prefixes = prefixes.0; limits = limits.0 }) s limits.2) (record {
      kind = record { id = site_id_fits text.0 id.0 text.1; keys = each_key.kind; key_ids = each_key.apart; prefixes = each_prefix.kind; eids = each_prefix.apart };
      apart = none_like (λ x. x.id == id.0) (λ x. x.id ≡ id.0) (λ x. (Decides-eqb x.id id.0).1) before new.1;
    })

pub sites_apart : (d : Data) (sites : List SiteValue) → sites_of d ≡ Ok sites → AreApart IsSite (λ a b. a.id ≢ b.id) sites
sites_apart d sites e =
    let entries = bind_told (items fields.Site (codes "site") d) (each fields.Site site_at [] 1) sites e in
    each_apart IsSite (λ a b. a.id ≢ b.id) fields.Site site_at one_site entries.0 sites entries.2
