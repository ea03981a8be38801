-- Addresses, secrets and spellings, for what a clean trace promises.
use Rattle.std.proofs.Common.{◌≡◌, ℕ, ◌<◌, Bool, true, false, cond, List, [], ◌∷◌, length, map, Option, Some, None, Ok, refl, sym, ap, subst, ◌∙◌, true≢false, arith, Err, ◌^◌}
use Rattle.std.specs.Prelude.{◌≢◌, ◌==◌, slice_get, Result, drop, slice_index, ◌||◌}
use Rattle.std.specs.List.{AllPairs, Contains, find, flat_map}
use Rattle.std.specs.Option.{option_map, option_to_list}
use Rattle.std.proofs.lemmas.Bool.{ltb-true, cases_lt}
use Rattle.std.proofs.lemmas.List.{length-append, length-map}
use Rattle.std.proofs.lemmas.List.Elements.{Contains-append_left, Contains-append_right}
use Rattle.std.proofs.lemmas.List.Quantifiers.{position-Some}
use Rattle.std.proofs.lemmas.Slice.Eq.{bytes_eq-Decides}
use Rattle.std.proofs.lemmas.Option.{none-some, slice_get_within, get_or_from_slice_get}
use Rattle.std.proofs.lemmas.Nat.{from_be_bytes-to_be_bytes_8}
use Rattle.lisp_records.specs.declared.address.Addr.{Addr}
use Rattle.lisp_records.specs.declared.address.Addr.TheVariants.{V4, V6}
use Rattle.lisp_records.specs.Address.{addr_eq}
use Rattle.lisp_policy.specs.Configuration.{ConfigValue}
use Rattle.lisp_policy.specs.Site.{SiteValue, SiteKeyValue, secret_of, key_of}
use Rattle.lisp_messages.specs.Message.{MapRegisterValue, MessageValue, MapNotifyValue, Registers, Notifies}
use Rattle.lisp_messages.specs.Authentic.{is_authentic, signed}
use Rattle.lisp_admission.specs.Checks.{secret_under}
use Rattle.lisp_admission.proofs.Secrets.{stands_under}
use Rattle.lisp_records.specs.Record.{MapRecordValue}
use Rattle.lisp_records.specs.Reading.{number_at}
use Rattle.lisp_messages.specs.declared.kind.Kind.{Kind}
use Rattle.lisp_messages.specs.declared.kind.Kind.TheVariants as kinds
use Rattle.lisp_messages.specs.Written.{written, written_notify}
use Rattle.lisp_records.specs.Result.{◌>>=◌}
use Rattle.lisp_messages.specs.Reading.{after, require, records_at, notify_at, tail_at, kind_at, message_at, nonce_of, map_notify_of}
use Rattle.lisp_messages.proofs.Fields.{bind_ok}
use Rattle.lisp_model.specs.Trace.{addresses, address_at, node_at, is_server}
use Rattle.lisp_model.specs.Bag.{Item, bytes_of, ReadFault}
use Rattle.lisp_model.proofs.ListLemmas.{at_head, in_tail, head_or_tail, in_none, only, cases, err_clash}

pub addr_same : (a b : Addr) → addr_eq a b ≡ true → a ≡ b
addr_same (V4 a) (V4 b) t = ap V4 ((bytes_eq-Decides a b).0 t)
addr_same (V4 a) (V6 b) t = absurd (true≢false (sym t))
addr_same (V6 a) (V4 b) t = absurd (true≢false (sym t))
addr_same (V6 a) (V6 b) t = ap V6 ((bytes_eq-Decides a b).0 t)

pub server_in : (c : ConfigValue) (k : ℕ) → is_server c k ≡ true → k < length (addresses c)
server_in c k is =
    let low = ltb-true k (length c.servers) is in
    let both = length-append (map (λ s. s.address) c.servers) (map (λ r. r.address) c.routers) in
    let first = length-map c.servers (λ s. s.address) in
    omega (arith, low, both, first)

-- one address is one node's
pub one_node : (c : ConfigValue) → AllPairs (λ a b. a ≢ b) (addresses c) → (i j : ℕ) → i < length (addresses c) → j < length (addresses c) → address_at c i ≡ address_at c j → i ≡ j
one_node c distinct i j in_i in_j same = cases (cases_lt i j)
    (λ low. absurd (distinct i j (V4 []) low in_j same))
    (λ high. cases (cases_lt j i) (λ low. absurd (distinct j i (V4 []) low in_i (sym same))) (λ low. omega (arith, high, low)))

pub node_of : (c : ConfigValue) → AllPairs (λ a b. a ≢ b) (addresses c) → (x : Addr) (k server : ℕ) → node_at c x ≡ Some k → x ≡ address_at c server → is_server c server ≡ true → server ≡ k
node_of c distinct x k server there is kind =
    let found = position-Some (λ a. addr_eq a x) (addresses c) k (V4 []) there in
    one_node c distinct server k (server_in c server kind) found.0 (sym (addr_same _ _ found.1 ∙ is))

pub server_of : (c : ConfigValue) → AllPairs (λ a b. a ≢ b) (addresses c) → (k server : ℕ) → address_at c server ≡ address_at c k → is_server c k ≡ true → is_server c server ≡ true → server ≡ k
server_of c distinct k server same is kind = one_node c distinct server k (server_in c server kind) (server_in c k is) same

-- what a look-up finds is there
module _ {X : Type 0} where
  found_case : (y x : X) (ys : List X) (b : Bool) (rest : Option X) → cond b (Some y) rest ≡ Some x → (rest ≡ Some x → Contains ys x) → Contains (y ∷ ys) x
  found_case y x ys true rest e later = let same : y ≡ x = cc in subst (λ (z : X). Contains (y ∷ ys) z) same (at_head y ys)
  found_case y x ys false rest e later = in_tail y ys x (later e)

  pub in_find : (p : X → Bool) (xs : List X) (x : X) → find p xs ≡ Some x → Contains xs x
  in_find p [] x e = absurd (none-some x e)
  in_find p (y ∷ ys) x e = found_case y x ys (p y) (find p ys) e (in_find p ys x)

  pub in_get : (xs : List X) (k : ℕ) (x : X) → slice_get xs k ≡ Some x → Contains xs x
  in_get xs k x e = (k, slice_get_within xs k x e, get_or_from_slice_get xs k x x e)

  pub in_option : (o : Option X) (x : X) → Contains (option_to_list o) x → o ≡ Some x
  in_option None x has = absurd (in_none x has)
  in_option (Some y) x has = ap Some (sym (only y x has))

module _ {X Y : Type 0} (f : X → Y) where
  pub in_map : (xs : List X) (x : X) → Contains xs x → Contains (map f xs) (f x)
  in_map [] x has = absurd (in_none x has)
  in_map (y ∷ ys) x has = cases (head_or_tail y ys x has)
      (λ e. subst (λ (z : X). Contains (map f (y ∷ ys)) (f z)) (sym e) (at_head (f y) (map f ys)))
      (λ has. in_tail (f y) (map f ys) (f x) ((in_map ys x) has))

  pub from_map : (xs : List X) (y : Y) → Contains (map f xs) y → (x : X) × Contains xs x × (y ≡ f x)
  from_map [] y has = absurd (in_none y has)
  from_map (x ∷ xs) y has = cases (head_or_tail (f x) (map f xs) y has)
      (λ e. (x, at_head x xs, e))
      (λ has. let found = (from_map xs y) has in (found.0, in_tail x xs found.0 found.1, found.2))

pub in_flat_map : {X Y : Type 0} (f : X → List Y) (xs : List X) (x : X) (y : Y) → Contains xs x → Contains (f x) y → Contains (flat_map f xs) y
in_flat_map f [] x y has its = absurd (in_none x has)
in_flat_map f (z ∷ zs) x y has its = cases (head_or_tail z zs x has)
    (λ e. Contains-append_left (f z) (flat_map f zs) y (subst (λ w. Contains (f w) y) e its))
    (λ later. Contains-append_right (f z) (flat_map f zs) y (in_flat_map f zs x y later its))

-- a checked message is authentic under a secret of the sites
pub secret_in : (site : SiteValue) (key : ℕ) (secret : List ℕ) → secret_of site key ≡ Some secret → Contains (map (λ k. k.secret) site.keys) secret
secret_in site key secret e = at (key_of site.keys key) refl e
  where
    at : (found : Option SiteKeyValue) → key_of site.keys key ≡ found → option_map (λ k. k.secret) found ≡ Some secret → Contains (map (λ k. k.secret) site.keys) secret
    at None is e = absurd (none-some secret e)
    at (Some k) is e = let same : k.secret ≡ secret = cc in subst (Contains (map (λ k. k.secret) site.keys)) same (in_map (λ k. k.secret) site.keys k (in_find (λ k. k.id == key) site.keys k is))

pub record Checked (sites : List SiteValue) (bytes : List ℕ) : Type 0 where
  pub secret : List ℕ
  pub known : Contains (flat_map (λ s. map (λ k. k.secret) s.keys) sites) secret
  pub authentic : is_authentic bytes secret ≡ true

pub checked : (sites : List SiteValue) (from : Addr) (bytes : List ℕ) (m : MapRegisterValue) (key : List ℕ) → secret_under sites from bytes m ≡ Ok key → Checked sites bytes
checked sites from bytes m key e =
    let its = stands_under sites from bytes m key e in
    record {
      secret = key;
      known = in_flat_map (λ s. map (λ k. k.secret) s.keys) sites its.site key (in_find (λ s. s.id == m.site) sites its.site its.found) (secret_in its.site m.key_id key its.known);
      authentic = its.authentic;
    }

-- A Map-Notify is not read as a Map-Register.

-- the checks after the type keep it
pub kept_kind : (kind other : Kind) (a : Result (List ℕ) ReadFault) (b c : Result Bool ReadFault) (d : Result (List ℕ) ReadFault)
    → (a >>= λ _. Ok kind >>= λ k. b >>= λ _. c >>= λ _. d >>= λ _. Ok k) ≡ Ok other → kind ≡ other
kept_kind kind other (Err f) b c d e = absurd (err_clash e)
kept_kind kind other (Ok x) (Err f) c d e = absurd (err_clash e)
kept_kind kind other (Ok x) (Ok y) (Err f) d e = absurd (err_clash e)
kept_kind kind other (Ok x) (Ok y) (Ok z) (Err f) e = absurd (err_clash e)
kept_kind kind other (Ok x) (Ok y) (Ok z) (Ok w) e = cc

said_clash : {m : MapRegisterValue} {n : MapNotifyValue} → ◌≡◌ {A = Result MessageValue ReadFault} (Ok (Notifies n)) (Ok (Registers m)) → ⊥
said_clash e = absurd cc

tail_case : (n : MapNotifyValue) (m : MapRegisterValue) (r : Result Bool ReadFault) → (r >>= λ _. Ok (Notifies n)) ≡ Ok (Registers m) → ⊥
tail_case n m (Ok x) e = said_clash e
tail_case n m (Err f) e = err_clash e

notify_tail : (ack : Bool) (bytes : List ℕ) (records : List MapRecordValue) (tail : List ℕ) (m : MapRegisterValue) → notify_at ack bytes records tail ≡ Ok (Registers m) → ⊥
unfolding notify_at
notify_tail ack bytes records tail m e = tail_case _ m (require ReadFault.Trailing (length tail == 0 || length tail == 24)) e

records_case : (kind : Kind) (bytes : List ℕ) (m : MapRegisterValue) → ((rs : List MapRecordValue × List ℕ) → tail_at kind bytes rs.0 rs.1 ≡ Ok (Registers m) → ⊥) → (r : Result (List MapRecordValue × List ℕ) ReadFault) → (r >>= λ rs. tail_at kind bytes rs.0 rs.1) ≡ Ok (Registers m) → ⊥
records_case kind bytes m none (Ok rs) e = none rs e
records_case kind bytes m none (Err f) e = err_clash e

-- whatever is read behind the head, a type that is no Map-Register's leads to none
kind_case : (bytes : List ℕ) (m : MapRegisterValue) (r : Result Kind ReadFault) → (r ≡ Ok kinds.Register → ⊥) → (r >>= λ kind. records_at 0 (slice_index bytes 3) (drop 32 bytes) >>= λ rs. tail_at kind bytes rs.0 rs.1) ≡ Ok (Registers m) → ⊥
kind_case bytes m (Ok kinds.Register) none e = none refl
kind_case bytes m (Ok kinds.Notify) none e = records_case kinds.Notify bytes m (λ rs. notify_tail false bytes rs.0 rs.1 m) (records_at 0 (slice_index bytes 3) (drop 32 bytes)) e
kind_case bytes m (Ok kinds.NotifyAck) none e = records_case kinds.NotifyAck bytes m (λ rs. notify_tail true bytes rs.0 rs.1 m) (records_at 0 (slice_index bytes 3) (drop 32 bytes)) e
kind_case bytes m (Err f) none e = err_clash e

notify_clash : kinds.Notify ≡ kinds.Register → ⊥
notify_clash e = absurd cc

ack_clash : kinds.NotifyAck ≡ kinds.Register → ⊥
ack_clash e = absurd cc

abbrev pub notification : Bool → ℕ → ℕ → List MapRecordValue → MapNotifyValue
notification ack nonce key records = record { ack = ack; nonce = nonce; key_id = key; records = records }

no_register_kind : (ack : Bool) (nonce key : ℕ) (records : List MapRecordValue) (auth : List ℕ) → kind_at (written_notify (notification ack nonce key records) auth) ≡ Ok kinds.Register → ⊥
unfolding written_notify kind_at
no_register_kind false nonce key records auth e = let bytes = written_notify (notification false nonce key records) auth in
    notify_clash (kept_kind kinds.Notify kinds.Register (after 16 bytes) (require ReadFault.Algorithm (slice_index bytes 13 == 2)) (require ReadFault.AuthLength (number_at bytes 14 == 16)) (after 32 bytes) e)
no_register_kind true nonce key records auth e = let bytes = written_notify (notification true nonce key records) auth in
    ack_clash (kept_kind kinds.NotifyAck kinds.Register (after 16 bytes) (require ReadFault.Algorithm (slice_index bytes 13 == 2)) (require ReadFault.AuthLength (number_at bytes 14 == 16)) (after 32 bytes) e)

pub no_register : (n : MapNotifyValue) (auth : List ℕ) (m : MapRegisterValue) → message_at (written_notify n auth) ≡ Ok (Registers m) → ⊥
unfolding message_at
no_register n auth m e = kind_case (written_notify n auth) m (kind_at (written_notify n auth)) (no_register_kind n.ack n.nonce n.key_id n.records auth) e

pub notifies_no_register : (i : Item) (n : MapNotifyValue) (m : MapRegisterValue) → i.message ≡ Notifies n → message_at (bytes_of i) ≡ Ok (Registers m) → ⊥
unfolding bytes_of
notifies_no_register i n m is e = no_register n _ m (subst (λ (s : MessageValue). message_at (signed i.secret (written s)) ≡ Ok (Registers m)) is e)

-- What is read of the head of a Map-Notify or Map-Notify-Ack that was written.

abbrev notify_kind : Bool → Kind
notify_kind false = kinds.Notify
notify_kind true = kinds.NotifyAck

kind_is : (ack : Bool) (nonce key : ℕ) (records : List MapRecordValue) (auth : List ℕ) (k : Kind) → kind_at (written_notify (notification ack nonce key records) auth) ≡ Ok k → notify_kind ack ≡ k
unfolding written_notify kind_at
kind_is false nonce key records auth k e = let bytes = written_notify (notification false nonce key records) auth in
    kept_kind kinds.Notify k (after 16 bytes) (require ReadFault.Algorithm (slice_index bytes 13 == 2)) (require ReadFault.AuthLength (number_at bytes 14 == 16)) (after 32 bytes) e
kind_is true nonce key records auth k e = let bytes = written_notify (notification true nonce key records) auth in
    kept_kind kinds.NotifyAck k (after 16 bytes) (require ReadFault.Algorithm (slice_index bytes 13 == 2)) (require ReadFault.AuthLength (number_at bytes 14 == 16)) (after 32 bytes) e

nonce_again : (n : MapNotifyValue) (auth : List ℕ) → n.nonce < 2 ^ 64 → nonce_of (written_notify n auth) ≡ n.nonce
unfolding written_notify
nonce_again n auth below = from_be_bytes-to_be_bytes_8 n.nonce below

key_again : (n : MapNotifyValue) (auth : List ℕ) → slice_index (written_notify n auth) 12 ≡ n.key_id
unfolding written_notify
key_again n auth = refl

-- its bit, its Key ID and its nonce
pub record SameHead (m n : MapNotifyValue) : Type 0 where
  pub ack : m.ack ≡ n.ack
  pub key : m.key_id ≡ n.key_id
  pub nonce : m.nonce ≡ n.nonce

same_said : (m n : MapNotifyValue) → ◌≡◌ {A = Result MessageValue ReadFault} (Ok (Notifies n)) (Ok (Notifies m)) → n ≡ m
same_said m n e = cc

tail_is : (ack : Bool) (bytes : List ℕ) (records : List MapRecordValue) (tail : List ℕ) (m : MapNotifyValue) → tail_at (notify_kind ack) bytes records tail ≡ Ok (Notifies m) → map_notify_of ack bytes records ≡ m
unfolding notify_at
tail_is false bytes records tail m e = same_said m _ (bind_ok (require ReadFault.Trailing (length tail == 0 || length tail == 24)) (λ _. Ok (Notifies (map_notify_of false bytes records))) (Notifies m) e).2
tail_is true bytes records tail m e = same_said m _ (bind_ok (require ReadFault.Trailing (length tail == 0 || length tail == 24)) (λ _. Ok (Notifies (map_notify_of true bytes records))) (Notifies m) e).2

pub same_head : (n : MapNotifyValue) (auth : List ℕ) (m : MapNotifyValue) → n.nonce < 2 ^ 64 → message_at (written_notify n auth) ≡ Ok (Notifies m) → SameHead m n
unfolding message_at
same_head n auth m below e =
    let bytes : List ℕ = written_notify n auth in
    let k = bind_ok (kind_at bytes) (λ kind. records_at 0 (slice_index bytes 3) (drop 32 bytes) >>= λ rs. tail_at kind bytes rs.0 rs.1) (Notifies m) e in
    let l = bind_ok (records_at 0 (slice_index bytes 3) (drop 32 bytes)) (λ rs. tail_at k.0 bytes rs.0 rs.1) (Notifies m) k.2 in
    let is : map_notify_of n.ack bytes l.0.0 ≡ m = tail_is n.ack bytes l.0.0 l.0.1 m (subst (λ (kind : Kind). tail_at kind bytes l.0.0 l.0.1 ≡ Ok (Notifies m)) (sym (kind_is n.ack n.nonce n.key_id n.records auth k.0 k.1)) l.2) in
    record {
      ack = sym (ap (λ (x : MapNotifyValue). x.ack) is);
      key = sym (ap (λ (x : MapNotifyValue). x.key_id) is) ∙ key_again n auth;
      nonce = sym (ap (λ (x : MapNotifyValue). x.nonce) is) ∙ nonce_again n auth below;
    }

-- so is that of an item
pub item_head : (i : Item) (n m : MapNotifyValue) → i.message ≡ Notifies n → n.nonce < 2 ^ 64 → message_at (bytes_of i) ≡ Ok (Notifies m) → SameHead m n
unfolding bytes_of
item_head i n m is below e = same_head n _ m below (subst (λ (s : MessageValue). message_at (signed i.secret (written s)) ≡ Ok (Notifies m)) is e)
