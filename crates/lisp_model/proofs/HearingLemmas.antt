-- What a router hears, what it knows of its secret, and which entries there are.
use Rattle.std.proofs.Common.{◌≡◌, ℕ, ◌+◌, ◌<◌, ◌≤◌, Bool, true, false, cond, List, [], ◌∷◌, length, map, Option, Some, None, Ok, Err, refl, sym, ap, subst, ◌∙◌, true≢false, arith}
use Rattle.std.specs.Prelude.{◌≢◌, ◌==◌, nat_lt, nat_le, Result, ok_or, if◌then◌else◌}
use Rattle.std.specs.List.{AllPairs, Contains, find, flat_map}
use Rattle.std.proofs.lemmas.Bool.{and_parts, ltb-true, leb-true, false_from_ne_true}
use Rattle.std.proofs.lemmas.Bool.Decides.{Decides-eqb}
use Rattle.std.proofs.lemmas.List.{length-append, length-map}
use Rattle.std.proofs.lemmas.Option.{none-some}
use Rattle.lisp_records.specs.Address.{addr_eq}
use Rattle.lisp_policy.specs.Configuration.{ConfigValue}
use Rattle.lisp_messages.specs.Authentic.{is_authentic}
use Rattle.lisp_messages.specs.Message.{MessageValue, MapNotifyValue, Registers, Notifies}
use Rattle.lisp_etr.specs.declared.notify_fault.NotifyFault.TheVariants.{NotMine, WrongKey, BadAuth}
use Rattle.lisp_records.specs.Result.{◌>>=◌}
use Rattle.lisp_etr.specs.Hearing.{ServerNotify, check, checked_notify, notify_read}
use Rattle.lisp_etr.specs.Config.{EtrConfigValue}
use Rattle.lisp_model.specs.Trace.{Step, Opening, addresses, address_at, router_at, etr_config, sites, is_server, is_router}
use Rattle.lisp_model.specs.Bag.{Arrival, ReadFault}
use Rattle.lisp_model.specs.Clean.{secrets_of}
use Rattle.lisp_model.specs.Counted.{server_from, notify_at}
use Rattle.lisp_model.proofs.CleanLemmas.{addr_same, one_node, in_find}
use Rattle.lisp_model.proofs.ListLemmas.{at_head, err_clash}
use Rattle.lisp_etr.specs.declared.notify_fault.NotifyFault.{NotifyFault}

-- the value of a step that did not fail
bind_ok : {A B : Type 0} (r : Result A NotifyFault) (f : A → Result B NotifyFault) (y : B) → (r >>= f) ≡ Ok y → (x : A) × (r ≡ Ok x) × (f x ≡ Ok y)
bind_ok (Ok x) f y e = (x, refl, e)
bind_ok (Err d) f y e = absurd (err_clash e)

-- what a search finds passes
find_case : {X : Type 0} (p : X → Bool) (y x : X) (b : Bool) (rest : Option X) → p y ≡ b → cond b (Some y) rest ≡ Some x → (rest ≡ Some x → p x ≡ true) → p x ≡ true
find_case p y x true rest is e later = let same : y ≡ x = cc in ap p (sym same) ∙ is
find_case p y x false rest is e later = later e

pub find_true : {X : Type 0} (p : X → Bool) (xs : List X) (x : X) → find p xs ≡ Some x → p x ≡ true
find_true p [] x e = absurd (none-some _ e)
find_true p (y ∷ ys) x e = find_case p y x (p y) (find p ys) refl e (find_true p ys x)

some_of : {X : Type 0} (o : Option X) (x : X) → ok_or o NotMine ≡ Ok x → o ≡ Some x
some_of None x e = absurd (err_clash e)
some_of (Some y) x e = cc

passed : (b t : Bool) (fault : NotifyFault) → check b fault ≡ Ok t → b ≡ true
passed true t fault e = refl
passed false t fault e = absurd (err_clash e)

-- a Map-Notify that is read
pub record IsRead (read : Result MessageValue ReadFault) (m : MapNotifyValue) : Type 0 where
  pub is : read ≡ Ok (Notifies m)
  pub plain : m.ack ≡ false

read_of : (read : Result MessageValue ReadFault) (m : MapNotifyValue) → notify_read read ≡ Ok m → IsRead read m
read_of (Err fault) m e = absurd (err_clash e)
read_of (Ok (Registers x)) m e = absurd (err_clash e)
read_of (Ok (Notifies n)) m e = at n.ack refl e
  where
    at : (b : Bool) → n.ack ≡ b → (if b then Err NotMine else Ok n) ≡ Ok m → IsRead (Ok (Notifies n)) m
    at true is e = absurd (err_clash e)
    at false is e = let same : n ≡ m = cc in record { is = ap (λ (x : MapNotifyValue). Ok (Notifies x)) same; plain = ap (λ (x : MapNotifyValue). x.ack) (sym same) ∙ is }

-- what a router hears
pub record IsHeard (o : Opening) (T : List Step) (router : ℕ) (a : Arrival) (h : ServerNotify) : Type 0 where
  pub read : IsRead a.read h.message
  pub listed : Contains (router_at o.config router).servers h.server
  pub source : address_at o.config h.server ≡ a.from
  pub key : h.message.key_id ≡ (etr_config o T router).key_id
  pub authentic : is_authentic a.bytes (etr_config o T router).secret ≡ true

-- what each check lets through
pub record HasPassed (c : EtrConfigValue) (bytes : List ℕ) (read : Result MessageValue ReadFault) (from : Option ℕ) (h : ServerNotify) : Type 0 where
  pub reads : notify_read read ≡ Ok h.message
  pub found : from ≡ Some h.server
  pub key : h.message.key_id ≡ c.key_id
  pub authentic : is_authentic bytes c.secret ≡ true

has_passed : (c : EtrConfigValue) (bytes : List ℕ) (read : Result MessageValue ReadFault) (from : Option ℕ) (h : ServerNotify) → checked_notify c bytes read from ≡ Ok h → HasPassed c bytes read from h
unfolding checked_notify
has_passed c bytes read from h e =
    let m = bind_ok (notify_read read) (λ m. ok_or from NotMine >>= λ server. check (m.key_id == c.key_id) WrongKey >>= λ _. check (is_authentic bytes c.secret) BadAuth >>= λ _. Ok (record { server = server; message = m })) h e in
    let s = bind_ok (ok_or from NotMine) (λ server. check (m.0.key_id == c.key_id) WrongKey >>= λ _. check (is_authentic bytes c.secret) BadAuth >>= λ _. Ok (record { server = server; message = m.0 })) h m.2 in
    let k = bind_ok (check (m.0.key_id == c.key_id) WrongKey) (λ _. check (is_authentic bytes c.secret) BadAuth >>= λ _. Ok (record { server = s.0; message = m.0 })) h s.2 in
    let t = bind_ok (check (is_authentic bytes c.secret) BadAuth) (λ _. Ok (record { server = s.0; message = m.0 })) h k.2 in
    made m.0 s.0 m.1 s.1 ((Decides-eqb m.0.key_id c.key_id).0 (passed _ k.0 WrongKey k.1)) (passed _ t.0 BadAuth t.1) t.2
  where
    made : (m : MapNotifyValue) (server : ℕ) → notify_read read ≡ Ok m → ok_or from NotMine ≡ Ok server → m.key_id ≡ c.key_id → is_authentic bytes c.secret ≡ true
        → ◌≡◌ {A = Result ServerNotify NotifyFault} (Ok (record { server = server; message = m })) (Ok h) → HasPassed c bytes read from h
    made m server reads found key authentic is =
        let same : ◌≡◌ {A = ServerNotify} (record { server = server; message = m }) h = cc in
        subst (HasPassed c bytes read from) same (record { reads = reads; found = some_of from server found; key = key; authentic = authentic })

pub is_heard : (o : Opening) (T : List Step) (router : ℕ) (a : Arrival) (h : ServerNotify) → notify_at o T router a ≡ Ok h → IsHeard o T router a h
is_heard o T router a h e =
    let p = has_passed (etr_config o T router) a.bytes a.read (server_from o.config router a.from) h e in
    record {
      read = read_of a.read h.message p.reads;
      listed = in_find (λ s. addr_eq (address_at o.config s) a.from) (router_at o.config router).servers h.server p.found;
      source = addr_same _ _ (find_true (λ s. addr_eq (address_at o.config s) a.from) (router_at o.config router).servers h.server p.found);
      key = p.key;
      authentic = p.authentic;
    }

-- a router is no server, has an address, and knows its secret
router_above : (c : ConfigValue) (k : ℕ) → is_router c k ≡ true → length c.servers ≤ k
router_above c k is = leb-true (length c.servers) k (and_parts (nat_le (length c.servers) k) (nat_lt k (length c.servers + length c.routers)) is).0

pub router_in : (c : ConfigValue) (k : ℕ) → is_router c k ≡ true → k < length (addresses c)
router_in c k is =
    let low = ltb-true k (length c.servers + length c.routers) (and_parts (nat_le (length c.servers) k) (nat_lt k (length c.servers + length c.routers)) is).1 in
    let both = length-append (map (λ s. s.address) c.servers) (map (λ r. r.address) c.routers) in
    let first = length-map c.servers (λ s. s.address) in
    let second = length-map c.routers (λ r. r.address) in
    omega (arith, low, both, first, second)

no_server : (c : ConfigValue) (k : ℕ) → length c.servers ≤ k → is_server c k ≡ false
no_server c k above = false_from_ne_true (is_server c k) (λ is. let low = ltb-true k (length c.servers) is in absurd (omega (arith, low, above)))

pub not_both : (c : ConfigValue) (k : ℕ) → is_router c k ≡ true → is_server c k ≡ true → ⊥
not_both c k router server = true≢false (sym server ∙ no_server c k (router_above c k router))

pub knows_own : (o : Opening) (T : List Step) (k : ℕ) → is_router o.config k ≡ true → Contains (secrets_of o T k) (etr_config o T k).secret
knows_own o T k is = subst (λ b. Contains (if b then flat_map (λ s. map (λ key. key.secret) s.keys) (sites o T k) else (etr_config o T k).secret ∷ []) (etr_config o T k).secret) (sym (no_server o.config k (router_above o.config k is))) (at_head _ [])

pub router_of : (c : ConfigValue) → AllPairs (λ a b. a ≢ b) (addresses c) → (i j : ℕ) → is_router c i ≡ true → is_router c j ≡ true → address_at c i ≡ address_at c j → i ≡ j
router_of c distinct i j is_i is_j same = one_node c distinct i j (router_in c i is_i) (router_in c j is_j) same
