-- The router of each row was heard: what keeps that so.
use Rattle.std.proofs.Common.{◌≡◌, ℕ, Bool, true, false, true≢false, cond, List, [], ◌∷◌, map, reverse, Option, Some, None, Result, Ok, Err, refl, sym, ap, ◌∙◌, subst}
use Rattle.std.specs.List.{find}
use Rattle.std.specs.Option.{option_or}
use Rattle.std.specs.Result.{IfOk, OnErr}
use Rattle.lisp_records.proofs.RouterLaws.{router_eq-Decides}
use Rattle.lisp_records.specs.declared.address.Addr.{Addr}
use Rattle.lisp_records.specs.declared.router.RouterId.{RouterId}
use Rattle.lisp_records.specs.Address.{PrefixValue}
use Rattle.lisp_records.specs.Record.{MapRecordValue}
use Rattle.lisp_records.specs.Router.{router_eq}
use Rattle.lisp_records.specs.Row.{RowValue}
use Rattle.lisp_messages.specs.Message.{MapRegisterValue}
use Rattle.lisp_policy.specs.Site.{SiteValue}
use Rattle.lisp_policy.specs.Extends.{extends}
use Rattle.lisp_nonces.specs.Store.{StoreState}
use Rattle.lisp_lookup.specs.Table.{is_row_of, row_at, last_of, Sets}
use Rattle.lisp_lookup.proofs.TableLaws.{found_holds, has_key, some_inj}
use Rattle.lisp_server.specs.declared.contacts.Contact.{Contact}
use Rattle.lisp_admission.specs.declared.refused.Refused.{Refused}
use Rattle.lisp_server.specs.declared.tables.Tables.{Tables}
use Rattle.lisp_server.specs.declared.took.Took.{Took}
use Rattle.lisp_records.specs.Result.{◌>>=◌}
use Rattle.lisp_admission.specs.Checks.{secret_under, secret_at}
use Rattle.lisp_server.specs.Checks.{Passed, register_checked}
use Rattle.lisp_server.specs.Contacts.{SetsContact, IsHeard, Knows}
use Rattle.lisp_server.specs.Receiving.{Accepts, contact_of}
use Rattle.lisp_admission.specs.Pairs.{router_of}
use Rattle.lisp_admission.specs.AcceptedRows.{row_value, row_values}
use Rattle.lisp_admission.proofs.Extended.{secret_kept}
use Rattle.lisp_admission.proofs.Secrets.{its_secret}
use Rattle.lisp_admission.proofs.Turned.{turned}
use Rattle.lisp_server.specs.Server.{SameTables, state_of}

-- no row, no router
pub none_known : (sites : List SiteValue) (rows : List RowValue) (contacts : List Contact) → rows ≡ [] → Knows sites rows contacts
unfolding row_at
none_known sites rows contacts none router eid h at = absurd (let clash : ◌≡◌ {A = Option RowValue} None (Some h) = sym (ap (find (is_row_of router eid)) none) ∙ at in cc)

-- a Map-Register that passed the checks has a secret
signs : (sites : List SiteValue) (from : Addr) (bytes : List ℕ) (m : MapRegisterValue) (passed : Passed) → register_checked sites from bytes m ≡ Ok passed → (passed.message ≡ m) × (secret_at sites m.site m.key_id ≡ Some passed.secret)
signs sites from bytes m passed e = by (secret_under sites from bytes m) refl e
  where
    by : (r : Result (List ℕ) Refused) → secret_under sites from bytes m ≡ r → (r >>= λ secret. Ok (record { message = m; secret = secret })) ≡ Ok passed → (passed.message ≡ m) × (secret_at sites m.site m.key_id ≡ Some passed.secret)
    by (Ok secret) is e =
        let same : ◌≡◌ {A = Result Passed Refused} (Ok (record { message = m; secret = secret })) (Ok passed) = e in
        let made : record { message = m; secret = secret } ≡ passed = cc in
        (ap (λ (p : Passed). p.message) (sym made), its_secret sites from bytes m secret is ∙ ap (λ (p : Passed). Some p.secret) made)
    by (Err why) is e = absurd (let clash : ◌≡◌ {A = Result Passed Refused} (Err why) (Ok passed) = e in cc)

-- the rows of a Map-Register are its router's
its_router : (m : MapRegisterValue) (from : Addr) (now : ℕ) (rs : List MapRecordValue) (p : RowValue → Bool) (g : RowValue) → find p (map (row_value m from now) rs) ≡ Some g → g.router ≡ router_of m
its_router m from now [] p g e = absurd (let clash : ◌≡◌ {A = Option RowValue} None (Some g) = e in cc)
its_router m from now (r ∷ rs) p g e = by (p (row_value m from now r)) (its_router m from now rs p g) e
  where
    by : (b : Bool) → (find p (map (row_value m from now) rs) ≡ Some g → g.router ≡ router_of m) → cond b (Some (row_value m from now r)) (find p (map (row_value m from now) rs)) ≡ Some g → g.router ≡ router_of m
    by true rest e = ap (λ (h : RowValue). h.router) (sym (some_inj (row_value m from now r) g e))
    by false rest e = rest e

module _ (sites : List SiteValue) (m : MapRegisterValue) (from : Addr) (now : ℕ) (old new : List Contact) (secret : List ℕ) (signed : secret_at sites m.site m.key_id ≡ Some secret) (sets : SetsContact old new (contact_of m from)) where
  here : (q : RouterId) → q ≡ router_of m → IsHeard sites new q
  here q its = subst (λ (r : RouterId). IsHeard sites new r) (sym its) (record { contact = contact_of m from; heard = sets.here; secret = secret; signs = signed })

  still : (q : RouterId) → IsHeard sites old q → IsHeard sites new q
  still q heard = by (router_eq q (router_of m)) refl
    where
      by : (b : Bool) → router_eq q (router_of m) ≡ b → IsHeard sites new q
      by true same = here q ((router_eq-Decides q (router_of m)).0 same)
      by false other = record {
        contact = heard.contact;
        heard = sets.others q (λ same. true≢false (sym ((router_eq-Decides q (router_of m)).1 same) ∙ other)) ∙ heard.heard;
        secret = heard.secret;
        signs = heard.signs;
      }

  pub known_sets : (rows rows' : List RowValue) → Sets rows rows' (row_values m from now) → Knows sites rows old → Knows sites rows' new
  known_sets rows rows' set known router eid h at = by (last_of (row_values m from now) router eid) refl (sym (set router eid) ∙ at)
    where
      own : (g : RowValue) → last_of (row_values m from now) router eid ≡ Some g → g.router ≡ router
      own g was = ap (λ (k : RouterId × PrefixValue). k.0) ((has_key (router, eid) g).0 (found_holds (is_row_of router eid) (reverse (row_values m from now)) g was).1)

      by : (o : Option RowValue) → last_of (row_values m from now) router eid ≡ o → option_or o (row_at rows router eid) ≡ Some h → IsHeard sites new router
      by None was at = still router (known router eid h at)
      by (Some g) was at = here router (sym (own g was) ∙ its_router m from now (reverse m.records) (is_row_of router eid) g (ap (find (is_row_of router eid)) (turned (row_value m from now) m.records) ∙ was))

-- what an accepted Map-Register, or a refused message, leaves
pub known_after : {A : Type 0} (sites : List SiteValue) (bytes : List ℕ) (m : MapRegisterValue) (old new : Tables A) (before after : StoreState) (from : Addr) (now : ℕ) (r : Result (Took A) Refused) → IfOk r (λ took. Accepts (register_checked sites from bytes m) (state_of sites old) (state_of sites new) before after from now took) → OnErr r (SameTables old new) → Knows sites old.rows.rows old.contacts.contacts → Knows sites new.rows.rows new.contacts.contacts
known_after sites bytes m old new before after from now (Ok took) a same known = accepted (signs sites from bytes m a.passed a.checks)
  where
    accepted : (a.passed.message ≡ m) × (secret_at sites m.site m.key_id ≡ Some a.passed.secret) → Knows sites new.rows.rows new.contacts.contacts
    accepted (is, signed) = known_sets sites m from now old.contacts.contacts new.contacts.contacts a.passed.secret signed (subst (λ (n : MapRegisterValue). SetsContact old.contacts.contacts new.contacts.contacts (contact_of n from)) is a.contacts) old.rows.rows new.rows.rows (subst (λ (n : MapRegisterValue). Sets old.rows.rows new.rows.rows (row_values n from now)) is a.rows) known
known_after sites bytes m old new before after from now (Err why) a same known = subst (λ (x : List RowValue × List Contact). Knows sites x.0 x.1) (λ i. (sym same.rows i, sym same.contacts i)) known

-- sites that have all that others have know each router that was heard
pub known_under : (old new : List SiteValue) (rows : List RowValue) (contacts : List Contact) → extends old new ≡ true → Knows old rows contacts → Knows new rows contacts
known_under old new rows contacts more known router eid h at =
    let heard = known router eid h at in
    record { contact = heard.contact; heard = heard.heard; secret = heard.secret; signs = secret_kept old new more router.site heard.contact.key heard.secret heard.signs }
