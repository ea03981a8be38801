-- What the contracts of a router's calls come to, as a turn of a network wants it.
use Rattle.std.proofs.Common.{◌≡◌, ℕ, ◌<◌, ◌≤◌, Bool, true, false, true≢false, List, length, Result, Ok, Err, inl, inr, arith, ◌⊎◌, refl, sym, ap, subst, ◌∙◌, replicate, eqb}
use Rattle.std.proofs.lemmas.Bool.{cases_lt}
use Rattle.std.proofs.lemmas.Bool.Decides.{eqb_tells}
use Rattle.std.proofs.lemmas.Grind.{get_or-set_at}
use Rattle.std.proofs.lemmas.List.{get_or-set_other, get_or-replicate, length-replicate}
use Rattle.std.specs.Prelude.{◌↔◌, ◌≢◌, IsErrAnd, IsErrOf, ◌==◌, slice_set, IfOk}
use Rattle.lisp_nonces.specs.Store.{StoreState, Proceeds}
use Rattle.lisp_nonces.specs.declared.fate.Fate.{Fate}
use Rattle.lisp_nonces.specs.declared.fault.StoreFault.{StoreFault}
use Rattle.lisp_etr.specs.Etr.{EtrState}
use Rattle.lisp_etr.specs.Sending.{last_nonce, NoServerAt, NoPartFor, NoNonceFor}
use Rattle.lisp_etr.specs.declared.send_fault.SendFault.{SendFault}
use Rattle.lisp_etr.specs.declared.send_fault.SendFault.TheVariants.{NoServer, NoPart, NonceSpent, OutOfMemory, Store}
use Rattle.lisp_etr.specs.declared.rotate_fault.RotateFault.{RotateFault}
use Rattle.lisp_etr.specs.declared.rotate_fault.RotateRefused.{RotateRefused}
use Rattle.lisp_etr.specs.declared.notify_fault.NotifyFault.{NotifyFault}
use Rattle.lisp_etr.specs.declared.seen.Seen.{Seen}
use Rattle.lisp_etr.specs.declared.seen.Seen.TheVariants.{Counted, Notice}
use Rattle.lisp_etr.specs.Rotating.{RefusesSameKey, FailsAsArmed, FailsByDevice}
use Rattle.lisp_etr.specs.Config.{EtrConfigValue}
use Rattle.lisp_etr.specs.Hearing.{etr_after}
use Rattle.lisp_records.specs.{Parts.part_count, declared.address.Addr.Addr, Address.PrefixValue}
use Rattle.lisp_refinement.specs.Calls.{IsSendFaultOf, IsRotateFaultOf, config_of}
use Rattle.lisp_refinement.specs.World.{DatagramValue, RouterNodeState, RouterCoreState, WorldState, key_count, is_used, ServerNodeState}
use Rattle.lisp_refinement.specs.Events.{address_of, server_line, router_line, acknowledges, NodeHears, RouterHears}
use Rattle.lisp_refinement.specs.Replied.{NodeReplies}
use Rattle.lisp_admission.specs.declared.refused.Refused.{Refused}
use Rattle.lisp_server.specs.declared.took.Took.{Took}
use Rattle.lisp_server.specs.declared.took.Took.TheVariants.{Accepted, NoticeDone}
use Rattle.lisp_model.specs.declared.line.Line.{Line}
use Rattle.lisp_model.specs.Memory.{MayTell, is_node_memory, is_store_memory}
use Rattle.lisp_lookup.specs.Table.{OneEach}
use Rattle.lisp_replies.specs.Reply.{IsReply, is_starting}
use Rattle.lisp_replies.specs.declared.reply.Reply.{Reply}
use Rattle.lisp_etr.specs.declared.rotate_fault.RotateFault.TheVariants as rotate_faults
use Rattle.lisp_nonces.specs.declared.fault.StoreFault.TheVariants as stores
use Rattle.lisp_etr.specs.declared.notify_fault.NotifyFault.TheVariants as notifies
use Rattle.lisp_admission.specs.declared.refused.Refused.TheVariants as refuseds
use Rattle.lisp_model.specs.declared.refusal.Refusal.TheVariants as refusals

-- a call that isn't refused as `NoServer` is for a Map-Server that is there
pub server_there : {X : Type 0} (r : Result X SendFault) (count place : ℕ) → r ≢ Err NoServer → ((r ≡ Err NoServer) ↔ (count ≤ place)) → place < count
server_there r count place other refused = here (cases_lt place count)
  where
    here : (place < count) ⊎ (count ≤ place) → place < count
    here (inl below) = below
    here (inr above) = absurd (other (refused.1 above))

-- and one that isn't refused as `NoPart` either is of a part that is there
pub part_there : {X : Type 0} (r : Result X SendFault) (count place parts part : ℕ) → r ≢ Err NoPart → place < count → ((r ≡ Err NoPart) ↔ ((place < count) × (parts ≤ part))) → part < parts
part_there r count place parts part other there refused = here (cases_lt part parts)
  where
    here : (part < parts) ⊎ (parts ≤ part) → part < parts
    here (inl below) = below
    here (inr above) = absurd (other (refused.1 (there, above)))

-- and where it isn't refused as `NonceSpent` either, a nonce is left
pub nonce_left : {X : Type 0} (r : Result X SendFault) (count place parts part last : ℕ) → r ≢ Err NonceSpent → place < count → part < parts
    → ((r ≡ Err NonceSpent) ↔ ((place < count) × (part < parts) × (last_nonce ≤ last))) → last < last_nonce
nonce_left r count place parts part last other there its refused = here (cases_lt last last_nonce)
  where
    here : (last < last_nonce) ⊎ (last_nonce ≤ last) → last < last_nonce
    here (inl below) = below
    here (inr above) = absurd (other (refused.1 (there, its, above)))

-- why a router didn't send
module _ (X : Type 0) (e : EtrState) (place part : ℕ) where
  abbrev pub refused_as : SendFault → Result X SendFault
  refused_as fault = Err fault

  -- a fault that comes last
  last_fault : (fault : SendFault) → refused_as fault ≢ Err NoServer → refused_as fault ≢ Err NoPart → refused_as fault ≢ Err NonceSpent → ((refused_as fault ≡ Err NoServer) ↔ NoServerAt e place)
      → ((refused_as fault ≡ Err NoPart) ↔ NoPartFor e place part) → ((refused_as fault ≡ Err NonceSpent) ↔ NoNonceFor e place part)
      → (place < length e.config.servers) × (part < part_count e.database) × (e.last < last_nonce)
  last_fault fault some_server some_part some_nonce none missing spent =
      let there = server_there (refused_as fault) _ _ some_server none in
      let its = part_there (refused_as fault) _ _ _ _ some_part there missing in
      (there, its, nonce_left (refused_as fault) _ _ _ _ _ some_nonce there its spent)

  pub why_not_sent : (fault : SendFault) → ((refused_as fault ≡ Err NoServer) ↔ NoServerAt e place) → ((refused_as fault ≡ Err NoPart) ↔ NoPartFor e place part)
      → ((refused_as fault ≡ Err NonceSpent) ↔ NoNonceFor e place part) → IsSendFaultOf e place part fault
  why_not_sent NoServer none missing spent = none.0 refl
  why_not_sent NoPart none missing spent = missing.0 refl
  why_not_sent NonceSpent none missing spent = spent.0 refl
  why_not_sent OutOfMemory none missing spent = last_fault OutOfMemory (λ clash. absurd cc) (λ clash. absurd cc) (λ clash. absurd cc) none missing spent
  why_not_sent (Store f) none missing spent = last_fault (Store f) (λ clash. absurd cc) (λ clash. absurd cc) (λ clash. absurd cc) none missing spent

-- why a router didn't go over to a key
abbrev is_same_key : RotateFault → Bool
is_same_key rotate_faults.SameKey = true
is_same_key (rotate_faults.Store fault) = false

abbrev names_same_key : Result (Unit {0}) RotateRefused → Bool
names_same_key (Ok done) = false
names_same_key (Err refused) = is_same_key refused.fault

module _ (e : EtrState) (key_id : ℕ) (secret : List ℕ) (armed called : StoreState) where
  abbrev pub kept_by : RotateFault → List ℕ → RotateRefused
  kept_by fault given = record { fault = fault; key = given }

  abbrev pub keeps_key : RotateFault → List ℕ → Result (Unit {0}) RotateRefused
  keeps_key fault given = Err (kept_by fault given)

  pub why_not_rotated : (fault : RotateFault) (given : List ℕ) → given ≡ secret
      → (RefusesSameKey secret (keeps_key fault given) ↔ (key_id ≡ e.config.key_id)) → (key_id ≡ e.config.key_id → called ≡ armed)
      → FailsAsArmed armed (kept_by fault given) → FailsByDevice armed called (kept_by fault given) → IsRotateFaultOf e key_id armed called fault
  why_not_rotated rotate_faults.SameKey given back same unasked fails device =
      let is = same.0 (ap (keeps_key rotate_faults.SameKey) back) in
      (is, unasked is)
  why_not_rotated (rotate_faults.Store f) given back same unasked fails device =
      (λ is. absurd (true≢false (sym (ap names_same_key (same.1 is)))), device f refl, fails f refl)

-- a store that wasn't used
pub unused : (store : StoreState) → Proceeds store store
unused store = record { honest = refl; obedient = refl; fate = refl; count = omega arith; quiet = λ quiet. (quiet, refl) }

-- a result that is refused as a fault, in two spellings
pub err_is : {X E : Type 0} (r : Result X E) (fault : E) → IsErrAnd r (λ e. e ≡ fault) → r ≡ Err fault
err_is (Ok x) fault is = absurd is
err_is (Err e) fault is = ap Err is

-- ---- Bytes that arrive at a node: what its call comes to, and where its line may say out of memory.

-- what a router hears leaves its configuration
module _ {A : Type 0} where
  same_config : (e : EtrState) (answer : Result (Seen A) NotifyFault) → (etr_after e answer).config ≡ e.config
  same_config e (Ok (Counted place part nonce)) = refl
  same_config e _ = refl

-- a router that is up was given bytes: its line and its answer are those of the turn
module _ {A : Type 0} (old : WorldState) (node : ℕ) (before left : RouterNodeState) (fate : Fate) (from : Addr) (bytes : List ℕ) (answer : Result (Seen A) NotifyFault)
    (call : NodeHears before left fate from bytes answer) (line : Line) (more : List DatagramValue) where
  same_key : (config_of left.core).key_id ≡ call.etr.config.key_id
  same_key = ap (λ (n : RouterNodeState). (config_of n.core).key_id) call.is
      ∙ ap (λ (e : EtrState). e.config.key_id) call.call.after
      ∙ ap (λ (c : EtrConfigValue). c.key_id) (same_config call.etr answer)

  pub hears_at : (next : ℕ) (servers : List ℕ) (key : ℕ) → line ≡ router_line node next servers key answer
      → length old.bag ≡ next → servers ≡ left.servers → key ≡ (config_of left.core).key_id
      → more ≡ acknowledges (address_of old node) from answer → RouterHears A old node before left fate from bytes before.core line more
  hears_at next servers key said number all its posts =
      subst (λ (core : RouterCoreState). RouterHears A old node before left fate from bytes core line more) (sym call.was)
      (record {
        answer = answer;
        hears = call;
        said = said ∙ (λ i. router_line node (sym number i) (same_servers i) (same_id i) answer);
        posts = posts;
      })
    where
      same_servers : servers ≡ before.servers
      same_servers = all ∙ ap (λ (n : RouterNodeState). n.servers) call.is

      same_id : key ≡ call.etr.config.key_id
      same_id = its ∙ same_key

-- a node's line says out of memory only where its own may be refused, or its store's
module _ (node_may : Type 0) where
  notify_tells : (fault : NotifyFault) → (fault ≡ notifies.OutOfMemory → node_may) → is_node_memory (refusals.Notify fault) ≡ true → node_may
  notify_tells notifies.OutOfMemory may out = may refl
  notify_tells _ may out = absurd cc

  receive_tells : (why : Refused) → (why ≡ refuseds.OutOfMemory → node_may) → is_node_memory (refusals.Receive why) ≡ true → node_may
  receive_tells refuseds.OutOfMemory may out = may refl
  receive_tells _ may out = absurd cc

module _ (store_may : Type 0) where
  load_tells : (fault : StoreFault) → (fault ≡ stores.OutOfMemory → store_may) → is_store_memory (refusals.Receive (refuseds.StoreLoad fault)) ≡ true → store_may
  load_tells stores.OutOfMemory may out = may refl
  load_tells _ may out = absurd cc

  save_tells : (fault : StoreFault) → (fault ≡ stores.OutOfMemory → store_may) → is_store_memory (refusals.Receive (refuseds.StoreSave fault)) ≡ true → store_may
  save_tells stores.OutOfMemory may out = may refl
  save_tells _ may out = absurd cc

  store_tells : (why : Refused) → (why ≡ refuseds.StoreLoad stores.OutOfMemory → store_may) → (why ≡ refuseds.StoreSave stores.OutOfMemory → store_may)
      → is_store_memory (refusals.Receive why) ≡ true → store_may
  store_tells (refuseds.StoreLoad fault) loads saves out = load_tells fault (λ is. loads (ap refuseds.StoreLoad is)) out
  store_tells (refuseds.StoreSave fault) loads saves out = save_tells fault (λ is. saves (ap refuseds.StoreSave is)) out
  store_tells _ loads saves out = absurd cc

module _ (node_may store_may : Type 0) (line : Line) where
  tells : (said : Line) → line ≡ said → MayTell node_may store_may said → MayTell node_may store_may line
  tells said same = subst (MayTell node_may store_may) (sym same)

  module _ {A : Type 0} (node next : ℕ) where
    pub router_tells : (servers : List ℕ) (key : ℕ) (answer : Result (Seen A) NotifyFault) → line ≡ router_line node next servers key answer
        → (IsErrOf answer notifies.OutOfMemory → node_may) → MayTell node_may store_may line
    router_tells servers key (Ok (Counted place part nonce)) said may = tells _ said tt
    router_tells servers key (Ok (Notice place nonce records bytes)) said may = tells _ said tt
    router_tells servers key (Err fault) said may = tells _ said (notify_tells node_may fault (λ is. may (ap Err is)), λ out. absurd cc)

    pub server_tells : (answer : Result (Took A) Refused) → line ≡ server_line node next answer
        → (IsErrOf answer refuseds.OutOfMemory → node_may)
        → (IsErrOf answer (refuseds.StoreLoad stores.OutOfMemory) → store_may)
        → (IsErrOf answer (refuseds.StoreSave stores.OutOfMemory) → store_may) → MayTell node_may store_may line
    server_tells (Ok (Accepted router key nonce reply)) said may loads saves = tells _ said tt
    server_tells (Ok (NoticeDone router nonce)) said may loads saves = tells _ said tt
    server_tells (Err why) said may loads saves =
        tells _ said (receive_tells node_may why (λ is. may (ap Err is)), store_tells store_may why (λ is. loads (ap Err is)) (λ is. saves (ap Err is)))

-- ---- The keys that a router used, where it used one alone.

-- of so many keys one was used
module _ (count key k : ℕ) (within : key < count) (there : k < count) where
  alone_of : is_used (slice_set (replicate count false) key true) k ≡ (k == key)
  alone_of = here (eqb_tells k key)
    where
      here : ((eqb k key ≡ true) × (k ≡ key)) ⊎ ((eqb k key ≡ false) × (k ≢ key)) → is_used (slice_set (replicate count false) key true) k ≡ (k == key)
      here (inl told) = get_or-set_at (replicate count false) key k true false told.1 (subst (λ (n : ℕ). key < n) (sym (length-replicate count false)) within) ∙ sym told.0
      here (inr told) = get_or-set_other (replicate count false) key k true false told.1 ∙ get_or-replicate count k false false there ∙ sym told.0

pub alone : (key k : ℕ) → key < key_count → k < key_count → is_used (slice_set (replicate key_count false) key true) k ≡ (k == key)
alone key k within there = alone_of key_count key k within there

-- ---- What a node sends for a Map-Request is what its Map-Server sends.

pub node_replies : {A E : Type 0} (n : ServerNodeState) (asked : PrefixValue) (quiet now : ℕ) (starting : Bool) (answer : Result (Reply A) E) → starting ≡ is_starting n.started quiet now
    → OneEach n.core.rows → IfOk answer (λ reply. IsReply n.core.rows n.core.sites asked starting now reply) → IfOk answer (NodeReplies n asked quiet now)
node_replies n asked quiet now starting (Ok reply) starts one is = record {
  one_each = one;
  is = subst (λ (b : Bool). IsReply n.core.rows n.core.sites asked b now reply) starts is;
}
node_replies n asked quiet now starting (Err fault) starts one is = tt
