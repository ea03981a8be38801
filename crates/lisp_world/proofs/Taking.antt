-- Loops that take each element of a list once.
use Rattle.std.proofs.Common.{[], ◌≡◌, ℕ, zero, suc, ◌+◌, ◌<◌, ◌≤◌, List, ◌∷◌, ◌++◌, length, take, drop, set, get_or, Option, Some, refl, sym, ap, subst, ◌∙◌, inl, inr, arith, Bor, Bool, true, false, None, Result, Ok, map, Err, reverse, add-one}
use Rattle.std.proofs.lemmas.Option.{slice_get-get_or, slice_get_past, slice_get_read, slice_get_within, slice_get-map, get_or_from_slice_get}
use Rattle.std.proofs.lemmas.Bool.{leb-false, ltb-false, ltb-true}
use Rattle.std.proofs.lemmas.List.{get_or_read, length-map, map-set, set-append_left, append-nil, append_assoc, reverse-append, take_all}
use Rattle.std.proofs.lemmas.List.Quantifiers.{position-Some}
use Rattle.std.proofs.Math.Seq.{take-append_seam, map-set_same, take-suc}
use Rattle.std.specs.Prelude.{◌⊎◌, ◌≢◌, slice_get, IfSome, is_some, nat_le, nat_lt, position, if◌then◌else◌, slice_set, IsTrue, IfOk, IsErrAnd, IsErrOf}
use Rattle.std.specs.Option.{option_map, option_and_then, option_or, unwrap_or}
use Rattle.lisp_refinement.proofs.Gets.{same_some, get_set, AtSet, get_before}
use Rattle.lisp_refinement.proofs.Taking.{taking_agrees}
use Rattle.lisp_refinement.specs.Taking.{NetworkTakes}
use Rattle.lisp_refinement.specs.World.{DatagramValue, ServerNodeState, RouterNodeState, WorldState, RouterCoreState, Up, Down, UsedKeysState}
use Rattle.lisp_refinement.specs.Events.{address_of, node_with, datagram_to, Arrives, ArrivesWhere, NetworkDelivers, ServerActs, RouterActs, ExpiresEach, RouterSends, RouterHears, NetworkRestarts, RouterRotates, NodeResends, SaysNoticeAnswer, SaysResendAnswer, change_line, loss_line, reload_line}
use Rattle.lisp_refinement.specs.Calls.{UsesStore}
use Rattle.lisp_records.specs.{Address.addr_eq, declared.address.Addr.Addr, Record.MapRecordValue}
use Rattle.lisp_nonces.specs.declared.fate.Fate.{Fate}
use Rattle.lisp_nonces.specs.declared.fate.Fate.TheVariants.{Done}
use Rattle.lisp_nonces.specs.Store.{StoreState, Proceeds}
use Rattle.lisp_model.specs.declared.line.Line.{Line}
use Rattle.lisp_model.specs.declared.world_fault.WorldFault.{WorldFault}
use Rattle.lisp_model.specs.declared.world_fault.WorldFault.TheVariants.{NoDatagram, Clock, KeyUsed, NoNode, OutOfMemory, UnknownKey, WrongKind}
use Rattle.lisp_model.specs.Memory.{MayTell}
use Rattle.lisp_model.specs.Trace.{EventValue, fate_of, event_value, Step, Opening}
use Rattle.lisp_world.specs.Faults.{datagram_fault, fault_of, node_fault, refusal_of, pair_fault, Faults, key_fault, router_fault, router_key_fault, used_before_loss, used_ever}
use Rattle.lisp_world.specs.Quiet.{stores_of, IsCalm, AllCalm, failures, KeepsCalm}
use Rattle.lisp_world.specs.Taking.{TookEvent, RefusesEvent, Takes}
use Rattle.lisp_model.specs.declared.event.Event.TheVariants as events
use Rattle.lisp_model.specs.declared.line.Line.TheVariants as lines
use Rattle.std.specs.Result.{is_err, OnOk, OnErr}
use Rattle.lisp_records.specs.declared.address.Addr.{Addr}
use Rattle.lisp_records.specs.declared.router.RouterId.{RouterId}
use Rattle.lisp_records.specs.Address.{PrefixValue}
use Rattle.lisp_records.specs.Record.{MapRecordValue}
use Rattle.lisp_etr.specs.declared.{rotate_fault.RotateFault.RotateFault, send_fault.SendFault.SendFault, start_fault.StartFault.StartFault}
use Rattle.lisp_admission.specs.declared.notice_fault.NoticeFault.{NoticeFault}
use Rattle.lisp_server.specs.Notices.{StandingNoticeValue, RefusesResend}
use Rattle.lisp_model.specs.declared.event.Event.{Event}
use Rattle.lisp_refinement.specs.Nodes.{router_at}
use Rattle.lisp_refinement.specs.Stands.{StandsAfter}
use Rattle.lisp_refinement.specs.Replied.{IsPromised, NodeReplies, Replies}
use Rattle.lisp_refinement.proofs.Headlines.{replies_are_promised}
use Rattle.lisp_nodes.specs.Asked.{asked_rotate_line}
use Rattle.lisp_world.specs.Asked.{SaysAsked}
use Rattle.lisp_world.specs.Runs.{Chain, Follows, RunsOn, StopsAt}
use Rattle.lisp_replies.specs.declared.reply.Reply.{Reply}
use Rattle.lisp_nonces.specs.declared.fault.StoreFault.TheVariants as stores
use Rattle.lisp_etr.specs.declared.rotate_fault.RotateFault.TheVariants as rotates
use Rattle.lisp_etr.specs.declared.send_fault.SendFault.TheVariants as sends
use Rattle.lisp_etr.specs.declared.start_fault.StartFault.TheVariants as starts
use Rattle.lisp_admission.specs.declared.notice_fault.NoticeFault.TheVariants as notices
use Rattle.lisp_model.specs.declared.refusal.Refusal.TheVariants as refusals

-- a loop that takes each element of a list once
module _ {X : Type 0} where
  -- the elements below a place have become what they should
  abbrev pub DoneBelow : (X → X → Type 0) → List X → List X → ℕ → Type 0
  DoneBelow Becomes old now i = (k : ℕ) (x y : X) → k < i → slice_get old k ≡ Some x → slice_get now k ≡ Some y → Becomes x y

  -- those from a place on are as they were
  abbrev pub SameFrom : List X → List X → ℕ → Type 0
  SameFrom old now i = (k : ℕ) → i ≤ k → slice_get now k ≡ slice_get old k

  -- an element that isn't at the place that was set
  get_other : (xs : List X) (i k : ℕ) (y : X) → k ≢ i → slice_get (set xs i y) k ≡ slice_get xs k
  get_other [] i k y other = refl
  get_other (a ∷ xs) zero zero y other = absurd (other refl)
  get_other (a ∷ xs) zero (suc k) y other = refl
  get_other (a ∷ xs) (suc i) zero y other = refl
  get_other (a ∷ xs) (suc i) (suc k) y other = get_other xs i k y (λ same. other (omega (arith, same)))

  module _ (old now : List X) (i : ℕ) (past next : X) where
    -- the place that a turn of the loop sets has what should become of the element there, and those below it had
    pub done_more : (Becomes : X → X → Type 0) → i < length now → Becomes (get_or now i past) next → SameFrom old now i → DoneBelow Becomes old now i
        → DoneBelow Becomes old (set now i next) (i + 1)
    done_more Becomes within becomes same done k x y below was is = by_place (get_set now i k next y is)
      where
        by_place : ((k ≡ i) × (next ≡ y)) ⊎ ((k ≢ i) × (slice_get now k ≡ Some y)) → Becomes x y
        by_place (inl (here, new)) =
            let stood : ◌≡◌ {A = Option X} (Some (get_or now i past)) (Some x) =
            sym (slice_get-get_or now i past within) ∙ same i (omega arith) ∙ ap (slice_get old) (sym here) ∙ was in
            subst (λ (p : X × X). Becomes p.0 p.1) (λ i. (same_some _ x stood i, new i)) becomes
        by_place (inr (other, there)) = done k x y (omega (arith, below, other)) was there

    -- those behind it are as they were
    pub same_more : SameFrom old now i → SameFrom old (set now i next) (i + 1)
    same_more same k above = get_other now i k next (λ here. absurd (omega (arith, above, here))) ∙ same k (omega (arith, above))

-- what a loop over a list leaves, as long as it was
pub rewritten : {X : Type 0} (n : ℕ) (old now : List X) → n ≡ length now → take n (now ++ drop (length now) old) ≡ now
rewritten n old now whole = ap (λ (k : ℕ). take k (now ++ drop (length now) old)) whole ∙ take-append_seam now (drop (length now) old)

-- ---- What arrives at a network: the node and the datagram that are meant are there, and the nodes that it leaves are written over
-- those that were there.

-- a test that a check lets through fails
passed : (fault : WorldFault) (b : Bool) → None ≡ (if b then Some fault else None) → b ≡ false
passed fault true clash = absurd cc
passed fault false passes = refl

-- a node that the check of its number lets through is there; of a datagram, the check found no fault; with the network as the
-- call has it, and as it is seen
module _ (seen w : WorldState) (same : seen ≡ w) where
  pub node_there : (node : ℕ) → None ≡ node_fault w node → node < length seen.addresses
  node_there node passes =
      leb-false (length seen.addresses) node (passed _ _ (passes ∙ ap (λ (v : WorldState). node_fault v node) (sym same)))

  pub no_datagram_fault : (k : ℕ) (checked : Result (Unit {0}) WorldFault) (x : Unit {0}) → checked ≡ Ok x → refusal_of checked ≡ datagram_fault w k → None ≡ datagram_fault seen k
  no_datagram_fault k checked x found is = sym (ap refusal_of found) ∙ is ∙ ap (λ (v : WorldState). datagram_fault v k) (sym same)

-- so a datagram is there, and so is a node that has an address
pub datagram_there : (bag : List DatagramValue) (k : ℕ) → None ≡ (if nat_le (length bag) k then Some NoDatagram else None) → k < length bag
datagram_there bag k passes = leb-false (length bag) k (passed _ _ passes)

pub addressed_there : (addresses : List Addr) (address : Addr) (node : ℕ) → Some node ≡ position (λ a. addr_eq a address) addresses → node < length addresses
addressed_there addresses address node found = (position-Some (λ a. addr_eq a address) addresses node address (sym found)).0

-- bytes arrived at a node: so they do in the network where its nodes are written over the old ones, and the answer went to
-- the end of the bag
module _ (A : Type 0) (w : WorldState) (node : ℕ) (fate : Fate) (from : Addr) (bytes : List ℕ) (line : Line) (reply : Option (List ℕ))
    (servers : List ServerNodeState) (routers : List RouterNodeState) where
  pub arrived : (servers_long routers_long : ℕ) (bag : List DatagramValue) → servers_long ≡ length servers → routers_long ≡ length routers
      → bag ≡ w.bag ++ datagram_to (address_of w node) from reply
      → Arrives A w (record w { bag = w.bag ++ datagram_to (address_of w node) from reply; servers = servers; routers = routers }) node fate from bytes line
      → Arrives A w (record w {
        bag = bag;
        servers = take servers_long (servers ++ drop (length servers) w.servers);
        routers = take routers_long (routers ++ drop (length routers) w.routers);
      }) node fate from bytes line
  arrived servers_long routers_long bag all_servers all_routers same =
      subst (λ (new : WorldState). Arrives A w new node fate from bytes line)
      (λ i. record w {
        bag = sym same i;
        servers = sym (rewritten servers_long w.servers servers all_servers) i;
        routers = sym (rewritten routers_long w.routers routers all_routers) i;
      })

-- a datagram that was sent, and what becomes of it at the node that has its address, or at none
pub delivered : {A : Type 0} {old new : WorldState} {k : ℕ} {fate : Fate} {line : Line} (d : DatagramValue) (to : Option ℕ)
    → slice_get old.bag k ≡ Some d → to ≡ node_with old d.to → ArrivesWhere A old new k fate d to line → NetworkDelivers A old new k fate line
delivered {A = A} {old = old} {new = new} {k = k} {fate = fate} {line = line} d to sent found arrives =
    record { datagram = d; sent = sent; arrives = subst (λ (at : Option ℕ). ArrivesWhere A old new k fate d at line) found arrives }

-- an element that is read once there is room for more is the one that was there
read_still : {X : Type 0} (xs ys : List X) (k : ℕ) (x : X) → k < length xs → ys ≡ xs → x ≡ get_or ys k x → slice_get xs k ≡ Some x
read_still {X = X} xs ys k x within same read =
    slice_get-get_or xs k x within ∙ ap (λ (y : X). Some y) (sym (read ∙ ap (λ (zs : List X). get_or zs k x) same))

-- what a list lends at a place is what stands there, if anything does
pub element_read : {X : Type 0} (xs : List X) (k : ℕ) (r : Option (Bor X)) → is_some r ≡ nat_lt k (length xs) → IfSome r (λ x. x.now ≡ get_or xs k x.now) → option_map (λ x. x.now) r ≡ slice_get xs k
element_read xs k (Some x) there read = sym (slice_get_read xs (length xs) k x.now refl (ltb-true k (length xs) (sym there)) read)
element_read xs k None past read = sym (slice_get_past xs k (ltb-false k (length xs) (sym past)))

-- ---- Stores that don't fail unasked: in each turn calm stores stay calm, and none fails where the event's fate is `Done`.

-- what a call makes of one calm store
record KeepsStore (old new : StoreState) (fate : Fate) : Type 0 where
  pub calm : IsCalm old → IsCalm new
  pub unfailing : IsCalm old → fate ≡ Done → new.faults ≡ old.faults

-- a store that is as it was is as calm
same_store : (old new : StoreState) (fate : Fate) → new ≡ old → KeepsStore old new fate
same_store old new fate same = record {
  calm = λ calm. subst (λ (s : StoreState). IsCalm s) (sym same) calm;
  unfailing = λ calm done. ap (λ (s : StoreState). s.faults) same;
}

-- a store that obeys as another does obeys if that one does
obeys : (old new : StoreState) → new.is_obedient ≡ old.is_obedient → IsTrue old.is_obedient → IsTrue new.is_obedient
obeys old new same = subst (λ (b : Bool). IsTrue b) (sym same)

-- a call for which the store was armed, with `Done` in the end
uses_keeps : (old armed called new : StoreState) (fate : Fate) → UsesStore old fate armed called new → KeepsStore old new fate
uses_keeps old armed called new fate uses = record {
  calm = λ calm. record { obedient = obeys called new uses.disarms.obedient (called_obeys calm); quiet = uses.disarms.quiet (called_obeys calm) refl };
  unfailing = λ calm done. uses.disarms.count ∙ (uses.proceeds.quiet (uses.arms.quiet calm.obedient done)).1 ∙ uses.arms.count;
}
  where
    called_obeys : IsCalm old → IsTrue called.is_obedient
    called_obeys calm = obeys armed called uses.proceeds.obedient (obeys old armed uses.arms.obedient calm.obedient)

-- calls for which it wasn't armed: a quiet store stays quiet and doesn't fail
proceeds_keeps : (old new : StoreState) (fate : Fate) → Proceeds old new → KeepsStore old new fate
proceeds_keeps old new fate proceeds = record {
  calm = λ calm. record { obedient = obeys old new proceeds.obedient calm.obedient; quiet = (proceeds.quiet calm.quiet).0 };
  unfailing = λ calm done. (proceeds.quiet calm.quiet).1;
}

-- two calls, one after the other
both_keep : (old between new : StoreState) (fate : Fate) → KeepsStore old between fate → KeepsStore between new fate → KeepsStore old new fate
both_keep old between new fate first second = record {
  calm = λ calm. second.calm (first.calm calm);
  unfailing = λ calm done. second.unfailing (first.calm calm) done ∙ first.unfailing calm done;
}

-- in a list of stores one was replaced by what a call made of it
record Replaces (old new : List StoreState) (fate : Fate) : Type 0 where
  pub place : ℕ
  pub before : StoreState
  pub after : StoreState
  pub was : slice_get old place ≡ Some before
  pub left : new ≡ slice_set old place after
  pub keeps : KeepsStore before after fate

module _ (old new : WorldState) (fate : Fate) where
  -- stores that are as they were are as calm
  same_stores : stores_of new ≡ stores_of old → KeepsCalm old new fate
  same_stores same = record {
    calm = λ calm. subst (λ (all : List StoreState). AllCalm all) (sym same) calm;
    unfailing = λ calm done. ap (λ (all : List StoreState). failures all) same;
  }

  module _ (replaces : Replaces (stores_of old) (stores_of new) fate) where
    -- a store that stands at a place afterwards is the one that a call made, or stood there before
    calm_at : AllCalm (stores_of old) → (k : ℕ) (s : StoreState) → AtSet (stores_of old) replaces.place k replaces.after s → IsCalm s
    calm_at calm k s (inl (here, is)) = subst (λ (t : StoreState). IsCalm t) is (replaces.keeps.calm (calm replaces.place replaces.before replaces.was))
    calm_at calm k s (inr (other, there)) = calm k s there

    -- so all stores stay calm where one was replaced, and if that one didn't fail, none did
    one_replaced : KeepsCalm old new fate
    one_replaced = record {
      calm = λ calm k s there. calm_at calm k s
          (get_set (stores_of old) replaces.place k replaces.after s (ap (λ (all : List StoreState). slice_get all k) (sym replaces.left) ∙ there));
      unfailing = λ calm done. ap (λ (all : List StoreState). failures all) replaces.left
          ∙ map-set_same (λ (s : StoreState). s.faults) (stores_of old) replaces.place replaces.after replaces.before
          (replaces.keeps.unfailing (calm replaces.place replaces.before replaces.was) done
          ∙ ap (λ (s : StoreState). s.faults) (sym (get_or_from_slice_get (stores_of old) replaces.place replaces.before replaces.before replaces.was)));
    }

module _ {X : Type 0} where
  -- what stands behind a list
  pub get_behind : (xs ys : List X) (i k : ℕ) → i ≡ length xs + k → slice_get (xs ++ ys) i ≡ slice_get ys k
  get_behind [] ys i k behind = ap (λ j. slice_get ys j) (omega (arith, behind))
  get_behind (a ∷ xs) ys zero k behind = absurd (omega (arith, behind))
  get_behind (a ∷ xs) ys (suc i) k behind = get_behind xs ys i k (omega (arith, behind))

  -- and is set there
  set_behind : (xs ys : List X) (i k : ℕ) (y : X) → i ≡ length xs + k → slice_set (xs ++ ys) i y ≡ xs ++ slice_set ys k y
  set_behind [] ys i k y behind = ap (λ j. slice_set ys j y) (omega (arith, behind))
  set_behind (a ∷ xs) ys zero k y behind = absurd (omega (arith, behind))
  set_behind (a ∷ xs) ys (suc i) k y behind = ap (λ (all : List X). a ∷ all) (set_behind xs ys i k y (omega (arith, behind)))

-- the stores of the Map-Servers, and of the routers
abbrev server_stores : WorldState → List StoreState
server_stores w = map (λ n. n.store) w.servers

abbrev router_stores : WorldState → List StoreState
router_stores w = map (λ n. n.store) w.routers

-- a Map-Server acted, and its store was replaced
server_keeps : (old new : WorldState) (node : ℕ) (more : List DatagramValue) (fate : Fate) (acts : ServerActs old new node more)
    → KeepsStore acts.before.store acts.after.store fate → KeepsCalm old new fate
server_keeps old new node more fate acts keeps = one_replaced old new fate (record {
  place = node;
  before = acts.before.store;
  after = acts.after.store;
  was = get_before (server_stores old) (router_stores old) node acts.before.store
      (slice_get-map (λ (n : ServerNodeState). n.store) old.servers node ∙ ap (λ (found : Option ServerNodeState). option_map (λ n. n.store) found) acts.was);
  left = ap (λ (w : WorldState). stores_of w) acts.left
      ∙ ap (λ (all : List StoreState). all ++ router_stores old) (map-set (λ (n : ServerNodeState). n.store) old.servers node acts.after)
      ∙ sym (set-append_left (server_stores old) (router_stores old) node acts.after.store
      (omega (arith, slice_get_within old.servers node acts.before acts.was, length-map old.servers (λ (n : ServerNodeState). n.store))));
  keeps = keeps;
})

-- a router acted, and its store was replaced: it stands behind those of the Map-Servers
router_keeps : (old new : WorldState) (node : ℕ) (more : List DatagramValue) (fate : Fate) (acts : RouterActs old new node more)
    → KeepsStore acts.before.store acts.after.store fate → KeepsCalm old new fate
router_keeps old new node more fate acts keeps = one_replaced old new fate (record {
  place = length (server_stores old) + acts.place;
  before = acts.before.store;
  after = acts.after.store;
  was = get_behind (server_stores old) (router_stores old) (length (server_stores old) + acts.place) acts.place refl
      ∙ slice_get-map (λ (n : RouterNodeState). n.store) old.routers acts.place ∙ ap (λ (found : Option RouterNodeState). option_map (λ n. n.store) found) acts.was;
  left = ap (λ (w : WorldState). stores_of w) acts.left
      ∙ ap (λ (all : List StoreState). server_stores old ++ all) (map-set (λ (n : RouterNodeState). n.store) old.routers acts.place acts.after)
      ∙ sym (set_behind (server_stores old) (router_stores old) (length (server_stores old) + acts.place) acts.place acts.after.store refl);
  keeps = keeps;
})

-- Map-Servers that drop their dead rows have the stores that they had
expired_stores : (old new : List ServerNodeState) (now : ℕ) → length new ≡ length old → ExpiresEach old new now
    → map (λ (n : ServerNodeState). n.store) new ≡ map (λ (n : ServerNodeState). n.store) old
expired_stores [] [] now count each = refl
expired_stores [] (m ∷ new) now count each = absurd (omega (arith, count))
expired_stores (n ∷ old) [] now count each = absurd (omega (arith, count))
expired_stores (n ∷ old) (m ∷ new) now count each =
    let same : m.store ≡ n.store = ap (λ (x : ServerNodeState). x.store) (each zero n m refl refl).rest in
    let rest = expired_stores old new now (omega (arith, count)) (λ k. each (suc k)) in
    λ i. same i ∷ rest i

-- a router that sends, is given bytes, or is asked to go over to a key uses its store if it is up
send_keeps : (old : WorldState) (router server part : ℕ) (fate : Fate) (before after : RouterNodeState) (core : RouterCoreState) (line : Line) (more : List DatagramValue)
    → RouterSends old router server part fate before after core line more → KeepsStore before.store after.store fate
send_keeps old router server part fate before after (Up e) line more up = uses_keeps _ _ _ _ fate up.sends.call.uses
send_keeps old router server part fate before after (Down config database) line more sends = same_store _ _ fate (ap (λ (n : RouterNodeState). n.store) sends.0)

hear_keeps : (A : Type 0) (old : WorldState) (node : ℕ) (before after : RouterNodeState) (fate : Fate) (from : Addr) (bytes : List ℕ) (core : RouterCoreState)
    (line : Line) (more : List DatagramValue) → RouterHears A old node before after fate from bytes core line more → KeepsStore before.store after.store fate
hear_keeps A old node before after fate from bytes (Up e) line more up = uses_keeps _ _ _ _ fate up.hears.uses
hear_keeps A old node before after fate from bytes (Down config database) line more hears = same_store _ _ fate (ap (λ (n : RouterNodeState). n.store) hears.0)

rotate_keeps : (router key : ℕ) (secret : List ℕ) (fate : Fate) (now : ℕ) (before after : RouterNodeState) (core : RouterCoreState) (line : Line)
    → RouterRotates router key secret fate now before after core line → KeepsStore before.store after.store fate
rotate_keeps router key secret fate now before after (Up e) line up = uses_keeps _ _ _ _ fate up.rotates.call.uses
rotate_keeps router key secret fate now before after (Down config database) line rotates = same_store _ _ fate (ap (λ (n : RouterNodeState). n.store) rotates.0)

-- bytes arrive at a node; a datagram arrives where it was sent to, or nowhere
arrives_calm : (A : Type 0) (old new : WorldState) (node : ℕ) (fate : Fate) (from : Addr) (bytes : List ℕ) (line : Line) → Arrives A old new node fate from bytes line → KeepsCalm old new fate
arrives_calm A old new node fate from bytes line (inl server) = server_keeps old new node _ fate server.acts (uses_keeps _ _ _ _ fate server.receives.uses)
arrives_calm A old new node fate from bytes line (inr router) = router_keeps old new node router.more fate router.acts
    (hear_keeps A old node router.acts.before router.acts.after fate from bytes router.acts.before.core line router.more router.hears)

delivers_calm : (A : Type 0) (old new : WorldState) (k : ℕ) (fate : Fate) (d : DatagramValue) (target : Option ℕ) (line : Line) → ArrivesWhere A old new k fate d target line → KeepsCalm old new fate
delivers_calm A old new k fate d (Some node) line arrives = arrives_calm A old new node fate d.from d.bytes line arrives
delivers_calm A old new k fate d None line nowhere = same_stores old new fate (ap (λ (w : WorldState). stores_of w) nowhere.0)

-- a node's store crashes, or is lost, and the node starts again
restarts_calm : (old new : WorldState) (node pick : ℕ) (db : Option (List MapRecordValue)) (line : Line) → NetworkRestarts old new node pick db line → KeepsCalm old new Done
restarts_calm old new node pick db line (inl (none, server)) = server_keeps old new node [] Done server.acts (proceeds_keeps _ _ Done server.crashes.proceeds)
restarts_calm old new node pick db line (inr router) = router_keeps old new node [] Done router.acts
    (both_keep _ _ _ Done (proceeds_keeps _ _ Done router.restarts.crashes.proceeds) (proceeds_keeps _ _ Done router.restarts.starts.proceeds))

-- any event keeps calm stores calm
takes_calm : (A : Type 0) (old new : WorldState) (event : EventValue) (line : Line) → NetworkTakes A old new event line → KeepsCalm old new (fate_of event)
takes_calm A old new (events.Change router db) line turn = router_keeps old new router [] Done turn.acts (same_store _ _ Done (ap (λ (n : RouterNodeState). n.store) turn.changes))
takes_calm A old new (events.Send router server part fate) line turn = router_keeps old new router turn.more fate turn.acts
    (send_keeps old router server part fate turn.acts.before turn.acts.after turn.acts.before.core line turn.more turn.sends)
takes_calm A old new (events.Deliver k fate) line turn = delivers_calm A old new k fate turn.datagram (node_with old turn.datagram.to) line turn.arrives
takes_calm A old new (events.Junk to from bytes) line turn = arrives_calm A old new to Done from bytes line turn
takes_calm A old new (events.Tick ms) line turn = same_stores old new Done
    (ap (λ (w : WorldState). stores_of w) turn.left
    ∙ ap (λ (all : List StoreState). all ++ router_stores old) (expired_stores old.servers new.servers (old.clock + ms) turn.count turn.each))
takes_calm A old new (events.Restart node pick db) line turn = restarts_calm old new node pick db line turn.1
takes_calm A old new (events.Rotate router key fate) line turn = router_keeps old new router [] fate turn.acts
    (rotate_keeps router key turn.of.secret fate old.clock turn.acts.before turn.acts.after turn.acts.before.core line turn.rotates)
takes_calm A old new (events.Lose router key db) line turn = router_keeps old new router [] Done turn.1.acts
    (both_keep _ _ _ Done (proceeds_keeps _ _ Done turn.1.loses.loses.proceeds) (proceeds_keeps _ _ Done turn.1.loses.starts.proceeds))
takes_calm A old new (events.Notice server router fate) line turn = server_keeps old new server turn.more fate turn.acts (uses_keeps _ _ _ _ fate turn.notifies.uses)
takes_calm A old new (events.Resend server router) line turn = server_keeps old new server turn.more Done turn.acts (same_store _ _ Done (ap (λ (n : ServerNodeState). n.store) turn.rest))
takes_calm A old new (events.Reload server given) line turn = server_keeps old new server [] Done turn.acts (same_store _ _ Done turn.reloads.store)

-- ---- An event that was taken: a trace goes on by its turn, which keeps calm stores calm.

-- a check of a router's number and a Map-Server's passed: what is known of them, with the network as the call has it, and as it
-- is seen
module _ (seen w : WorldState) (same : seen ≡ w) (server router place : ℕ) (checked : Result ℕ WorldFault) (found : checked ≡ Ok place) where
  pub router_there : IfOk checked (λ place. (router ≡ length w.servers + place) × (place < length w.routers)) → (router ≡ length seen.servers + place) × (place < length seen.routers)
  router_there holds = subst (λ (v : WorldState). (router ≡ length v.servers + place) × (place < length v.routers)) (sym same)
      (subst (λ (r : Result ℕ WorldFault). IfOk r (λ place. (router ≡ length w.servers + place) × (place < length w.routers))) found holds)

  pub server_there : IfOk checked (λ place. server < length w.servers) → server < length seen.servers
  server_there holds = subst (λ (v : WorldState). server < length v.servers) (sym same) (subst (λ (r : Result ℕ WorldFault). IfOk r (λ place. server < length w.servers)) found holds)

  pub no_pair_fault : refusal_of checked ≡ pair_fault w router server → None ≡ pair_fault seen router server
  no_pair_fault is = sym (ap refusal_of found) ∙ is ∙ ap (λ (v : WorldState). pair_fault v router server) (sym same)

-- an event without a fault, and what it makes of the network
pub event_taken : (node_may store_may A : Type 0) (old new : WorldState) (event : EventValue) (line : Line) → fault_of old event ≡ None → NetworkTakes A old new event line
    → MayTell node_may store_may line → TookEvent node_may store_may old new event line
event_taken node_may store_may A old new event line possible turn tells =
    record { possible = possible; stands = taking_agrees A old new event line turn; calm = takes_calm A old new event line turn; tells = tells }

-- a datagram was delivered: it was read once there was room for another one, and once more when the node was known
module _ (node_may store_may : Type 0) (w : WorldState) (room : List DatagramValue) (same : room ≡ w.bag) (k : ℕ) (fate : Fate) (possible : None ≡ datagram_fault w k) (d first : DatagramValue)
    (read : first ≡ get_or room k first) (is : d ≡ first) where
  sent : slice_get w.bag k ≡ Some d
  sent = read_still w.bag room k first (datagram_there w.bag k possible) same read ∙ ap (λ (p : DatagramValue). Some p) (sym is)

  -- no node has its address
  pub lost : None ≡ node_with w d.to → TookEvent node_may store_may w (record w { bag = room }) (events.Deliver k fate) (lines.Nowhere k)
  lost nowhere = event_taken node_may store_may (Unit {0}) w (record w { bag = room }) (events.Deliver k fate) (lines.Nowhere k) (sym possible)
      (delivered d None sent nowhere ((ap (λ (b : List DatagramValue). record w { bag = b }) same), refl)) tt

  -- a node has it
  pub handed : (A : Type 0) (node : ℕ) (second : DatagramValue) (bytes : List ℕ) (address : Addr) (line : Line) (reply : Option (List ℕ)) (servers : List ServerNodeState) (routers : List RouterNodeState) (servers_long routers_long : ℕ) (bag : List DatagramValue)
      → Some node ≡ node_with w d.to → second ≡ get_or room k second → bytes ≡ second.bytes → servers_long ≡ length servers → routers_long ≡ length routers → address ≡ address_of w node
      → bag ≡ room ++ datagram_to address d.from reply
      → Arrives A w (record w { bag = w.bag ++ datagram_to (address_of w node) d.from reply; servers = servers; routers = routers }) node fate d.from bytes line
      → MayTell node_may store_may line
      → TookEvent node_may store_may w (record w {
        bag = bag;
        servers = take servers_long (servers ++ drop (length servers) w.servers);
        routers = take routers_long (routers ++ drop (length routers) w.routers);
      }) (events.Deliver k fate) line
  handed A node second bytes address line reply servers routers servers_long routers_long bag found again says all_servers all_routers its posts arrives tells =
      event_taken node_may store_may A w _ (events.Deliver k fate) line (sym possible) (delivered d (Some node) sent found at_node) tells
    where
      within : k < length room
      within = (let low = datagram_there w.bag k possible in let long = ap length same in omega (arith, low, long))

      at_node : Arrives A w (record w {
        bag = bag;
        servers = take servers_long (servers ++ drop (length servers) w.servers);
        routers = take routers_long (routers ++ drop (length routers) w.routers);
      }) node fate d.from d.bytes line
      at_node = arrived A w node fate d.from d.bytes line reply servers routers servers_long routers_long bag all_servers all_routers
          (posts ∙ (λ i. same i ++ datagram_to (its i) d.from reply))
          (subst (λ (b : List ℕ). Arrives A w (record w { bag = w.bag ++ datagram_to (address_of w node) d.from reply; servers = servers; routers = routers }) node fate d.from b line)
          (says ∙ ap (λ (p : DatagramValue). p.bytes) ((get_or_read room k second within again first ∙ sym read) ∙ sym is)) arrives)

-- The line of a refusal says out of memory only where the node's memory may be refused, or its store's.

module _ (node_may store_may : Type 0) (node : ℕ) where
  -- of a Map-Register
  send_tells : (fault : SendFault) → (fault ≡ sends.OutOfMemory → node_may) → (fault ≡ sends.Store stores.OutOfMemory → store_may)
      → MayTell node_may store_may (lines.Refused node (refusals.Send fault))
  send_tells sends.OutOfMemory may store = (λ out. may refl, λ out. absurd cc)
  send_tells (sends.Store stores.OutOfMemory) may store = (λ out. absurd cc, λ out. store refl)
  send_tells _ may store = (λ out. absurd cc, λ out. absurd cc)

  pub sent_tells : (w : WorldState) (server part : ℕ) (answer : Option (Result (List ℕ) SendFault)) (line : Line) (more : List DatagramValue) → SaysAsked w node server part answer line more
      → IfSome answer (λ a. a ≡ Err sends.OutOfMemory → node_may) → IfSome answer (λ a. a ≡ Err (sends.Store stores.OutOfMemory) → store_may) → MayTell node_may store_may line
  sent_tells w server part (Some (Ok bytes)) line more says may store = subst (λ (l : Line). MayTell node_may store_may l) (sym says.said) tt
  sent_tells w server part (Some (Err fault)) line more says may store =
      subst (λ (l : Line). MayTell node_may store_may l) (sym says.0) (send_tells fault (λ is. may (ap Err is)) (λ is. store (ap Err is)))
  sent_tells w server part None line more says may store = subst (λ (l : Line). MayTell node_may store_may l) (sym says.0) tt

  -- of a start
  pub start_tells : (fault : StartFault) → (fault ≡ starts.OutOfMemory → node_may) → (fault ≡ starts.Store stores.OutOfMemory → store_may)
      → MayTell node_may store_may (lines.Refused node (refusals.Start fault))
  start_tells starts.OutOfMemory may store = (λ out. may refl, λ out. absurd cc)
  start_tells (starts.Store stores.OutOfMemory) may store = (λ out. absurd cc, λ out. store refl)
  start_tells _ may store = (λ out. absurd cc, λ out. absurd cc)

  -- of a router that keeps its key; one that is down says so
  rotate_tells : (fault : RotateFault) → (fault ≡ rotates.Store stores.OutOfMemory → store_may) → MayTell node_may store_may (lines.Refused node (refusals.Rotate fault))
  rotate_tells (rotates.Store stores.OutOfMemory) may = (λ out. absurd cc, λ out. may refl)
  rotate_tells _ may = (λ out. absurd cc, λ out. absurd cc)

  pub rotated_tells : (key : ℕ) (answer : Option (Result (Unit {0}) RotateFault)) → IfSome answer (λ a. a ≡ Err (rotates.Store stores.OutOfMemory) → store_may)
      → MayTell node_may store_may (asked_rotate_line node key answer)
  rotated_tells key (Some (Ok done)) may = tt
  rotated_tells key (Some (Err fault)) may = rotate_tells fault (λ is. may (ap Err is))
  rotated_tells key None may = tt

  -- of a start once the store was lost
  pub lost_tells : (key : ℕ) (answer : Result (Unit {0}) StartFault) → (answer ≡ Err starts.OutOfMemory → node_may) → (answer ≡ Err (starts.Store stores.OutOfMemory) → store_may)
      → MayTell node_may store_may (loss_line node key answer)
  lost_tells key (Ok done) may store = tt
  lost_tells key (Err fault) may store = start_tells fault (λ is. may (ap Err is)) (λ is. store (ap Err is))

  -- of a notice
  notice_tells : (fault : NoticeFault) → (fault ≡ notices.OutOfMemory → node_may) → (fault ≡ notices.StoreLoad stores.OutOfMemory → store_may)
      → (fault ≡ notices.StoreSave stores.OutOfMemory → store_may) → MayTell node_may store_may (lines.Refused node (refusals.Notice fault))
  notice_tells notices.OutOfMemory may load save = (λ out. may refl, λ out. absurd cc)
  notice_tells (notices.StoreLoad stores.OutOfMemory) may load save = (λ out. absurd cc, λ out. load refl)
  notice_tells (notices.StoreSave stores.OutOfMemory) may load save = (λ out. absurd cc, λ out. save refl)
  notice_tells _ may load save = (λ out. absurd cc, λ out. absurd cc)

  pub noticed_tells : (w : WorldState) (router : ℕ) (answer : Result (Addr × List ℕ) NoticeFault) (line : Line) (more : List DatagramValue) → SaysNoticeAnswer w node router answer line more
      → (answer ≡ Err notices.OutOfMemory → node_may) → (answer ≡ Err (notices.StoreLoad stores.OutOfMemory) → store_may) → (answer ≡ Err (notices.StoreSave stores.OutOfMemory) → store_may)
      → MayTell node_may store_may line
  noticed_tells w router (Ok sending) line more says may load save = subst (λ (l : Line). MayTell node_may store_may l) (sym says.said) tt
  noticed_tells w router (Err fault) line more says may load save =
      subst (λ (l : Line). MayTell node_may store_may l) (sym says.0) (notice_tells fault (λ is. may (ap Err is)) (λ is. load (ap Err is)) (λ is. save (ap Err is)))

  -- of one that is sent again, whose store isn't used
  resend_tells : (old : List StandingNoticeValue) (router : RouterId) (now : ℕ) (fault : NoticeFault) → RefusesResend old router now fault → (fault ≡ notices.OutOfMemory → node_may)
      → MayTell node_may store_may (lines.Refused node (refusals.Notice fault))
  resend_tells old router now notices.OutOfMemory refused may = (λ out. may refl, λ out. absurd cc)
  resend_tells old router now notices.NotDue refused may = (λ out. absurd cc, λ out. absurd cc)
  resend_tells old router now _ refused may = absurd refused

  pub resent_tells : (w : WorldState) (router : ℕ) (answer : Result (Addr × List ℕ) NoticeFault) (line : Line) (more : List DatagramValue) → SaysResendAnswer w node router answer line more
      → (before after : ServerNodeState) (now : ℕ) (me : RouterId) → NodeResends before after now me answer → (answer ≡ Err notices.OutOfMemory → node_may) → MayTell node_may store_may line
  resent_tells w router (Ok sending) line more says before after now me resends may = subst (λ (l : Line). MayTell node_may store_may l) (sym says.0) tt
  resent_tells w router (Err fault) line more says before after now me resends may =
      subst (λ (l : Line). MayTell node_may store_may l) (sym says.0) (resend_tells before.core.notices me now fault resends.0 (λ is. may (ap Err is)))

  -- of a router's database, and of a Map-Server's sites
  pub changed_tells : (db : List MapRecordValue) (core : RouterCoreState) (line : Line) → line ≡ change_line node db core → MayTell node_may store_may line
  changed_tells db (Up etr) line said = subst (λ (l : Line). MayTell node_may store_may l) (sym said) tt
  changed_tells db (Down config database) line said = subst (λ (l : Line). MayTell node_may store_may l) (sym said) tt

  pub reloaded_tells : (goes_on : Bool) (count : ℕ) (line : Line) → line ≡ reload_line node goes_on count → MayTell node_may store_may line
  reloaded_tells true count line said = subst (λ (l : Line). MayTell node_may store_may l) (sym said) tt
  reloaded_tells false count line said = subst (λ (l : Line). MayTell node_may store_may l) (sym said) tt

-- ---- What an event comes to that a network takes, part by part; and faults that are no other.

-- no event's fault is want of memory
unless : (b : Bool) (why : WorldFault) (rest : Option WorldFault) → why ≢ OutOfMemory → rest ≢ Some OutOfMemory → (if b then Some why else rest) ≢ Some OutOfMemory
unless true why rest other none is = other (ap (λ (o : Option WorldFault). unwrap_or o why) is)
unless false why rest other none is = none is

nothing : ◌≢◌ {A = Option WorldFault} None (Some OutOfMemory)
nothing clash = absurd cc

-- nor is the first of two faults, nor what is found at a router
first : (one other : Option WorldFault) → one ≢ Some OutOfMemory → other ≢ Some OutOfMemory → option_or one other ≢ Some OutOfMemory
first None other is_not nor = nor
first (Some why) other is_not nor = is_not

there : (found : RouterNodeState → Option WorldFault) → ((n : RouterNodeState) → found n ≢ Some OutOfMemory) → (node : Option RouterNodeState) → option_and_then found node ≢ Some OutOfMemory
there found each None = nothing
there found each (Some n) = each n

never_key : (w : WorldState) (router key : ℕ) (was_used : UsedKeysState → Bool) → router_key_fault w router key was_used ≢ Some OutOfMemory
never_key w router key was_used = first (router_fault w router) _ (unless _ NoNode _ (λ e. absurd cc) (unless _ WrongKind _ (λ e. absurd cc) nothing))
    (there (key_fault w key was_used) (λ n. unless _ UnknownKey _ (λ e. absurd cc) (unless _ KeyUsed _ (λ e. absurd cc) nothing)) (router_at w router))

never : (w : WorldState) (event : EventValue) → fault_of w event ≢ Some OutOfMemory
never w (events.Change router db) = unless _ NoNode _ (λ e. absurd cc) (unless _ WrongKind _ (λ e. absurd cc) nothing)
never w (events.Send router server part fate) = unless _ NoNode _ (λ e. absurd cc) (unless _ WrongKind _ (λ e. absurd cc) nothing)
never w (events.Deliver k fate) = unless _ NoDatagram _ (λ e. absurd cc) nothing
never w (events.Junk to from bytes) = unless _ NoNode _ (λ e. absurd cc) nothing
never w (events.Tick ms) = unless _ Clock _ (λ e. absurd cc) nothing
never w (events.Restart node pick db) = unless _ NoNode _ (λ e. absurd cc) (unless _ WrongKind _ (λ e. absurd cc) nothing)
never w (events.Rotate router key fate) = never_key w router key (used_before_loss key)
never w (events.Lose router key db) = never_key w router key (used_ever key)
never w _ = unless _ NoNode _ (λ e. absurd cc) (unless _ WrongKind _ (λ e. absurd cc) nothing)

module _ (node_may store_may : Type 0) (old new : WorldState) (event : EventValue) where
  -- what an event comes to, part by part
  pub record Parts (r : Result Line WorldFault) : Type 0 where
    pub stands : IfOk r (StandsAfter old new event)
    pub fault : Faults (fault_of old event) r
    pub left : OnErr r (new ≡ old)
    pub memory : IsErrOf r OutOfMemory → node_may
    pub tells : IfOk r (MayTell node_may store_may)
    pub calm : KeepsCalm old new (fate_of event)

  pub parts : (r : Result Line WorldFault) → Takes node_may store_may old new event r → Parts r
  parts (Ok line) took =
      let fault = subst (λ (f : Option WorldFault). Faults {X = Line} f (Ok line)) (sym took.possible) tt in
      record { stands = took.stands; fault = fault; left = tt; memory = λ clash. absurd cc; tells = took.tells; calm = took.calm }
  parts (Err why) refused =
      let calm = subst (λ (w : WorldState). KeepsCalm old w (fate_of event)) (sym refused.0) (record { calm = λ calm. calm; unfailing = λ calm done. refl }) in
      record { stands = tt; fault = fault refused.1; left = refused.0; memory = λ out. memory refused.1 out; tells = tt; calm = calm }
    where
      fault : RefusesEvent node_may (fault_of old event) why → Faults {X = Line} (fault_of old event) (Err why)
      fault (inl is) = subst (λ (f : Option WorldFault). Faults {X = Line} f (Err why)) (sym is) refl
      fault (inr (none, is, may)) = subst (λ (f : Option WorldFault). Faults {X = Line} f (Err why)) (sym none) is

      memory : RefusesEvent node_may (fault_of old event) why → ◌≡◌ {A = Result Line WorldFault} (Err why) (Err OutOfMemory) → node_may
      memory (inl is) out = absurd (never old event (is ∙ ap refusal_of out))
      memory (inr (none, is, may)) out = may

  -- want of memory alone
  pub out_of_memory : (r : Result Line WorldFault) → IsErrAnd r (λ e. e ≡ OutOfMemory) → fault_of old event ≡ None → node_may → new ≡ old → Takes node_may store_may old new event r
  out_of_memory (Ok line) is none may kept = absurd is
  out_of_memory (Err why) is none may kept = (kept, inr (none, is, may))

-- ---- A network runs events: it begins with none, goes on by one at a time, and ends with all of them or before one.

-- the event that a loop reads, in any memory, is the one at its place
pub event_there : {A : Type 0} (events : List (Event A)) (i : ℕ) (event : Event A) → i < length events → event ≡ get_or events i event
    → slice_get (map event_value events) i ≡ Some (event_value event)
event_there events i event within read =
    slice_get-map event_value events i ∙ ap (option_map event_value) (slice_get_read events (length events) i event refl within read)

-- why an event isn't taken: its fault, or want of memory
pub why_refused : (X : Type 0) (fault : WorldFault) (known : Option WorldFault) → Faults {X = X} known (Err fault)
    → (known ≡ Some fault) ⊎ (fault ≡ OutOfMemory)
why_refused X fault (Some other) is = inl cc
why_refused X fault None is = inr is

-- an event that was taken has no fault
pub possible_of : (line : Line) (known : Option WorldFault) → Faults {X = Line} known (Ok line) → known ≡ None
possible_of line None is = refl
possible_of line (Some fault) is = absurd (let clash : ◌≡◌ {A = Result Line WorldFault} (Ok line) (Err fault) = is in cc)

-- what is said of an error holds where there is one
pub at_error : {T E P : Type 0} (r : Result T E) → is_err r ≡ true → OnErr r P → P
at_error (Ok x) is holds = absurd cc
at_error (Err why) is holds = holds

-- what is said of a value holds where there is no error
pub at_value : {T E P : Type 0} (r : Result T E) → is_err r ≡ false → OnOk r P → P
at_value (Ok x) is holds = holds
at_value (Err why) is holds = absurd cc

module _ (node_may store_may : Type 0) where
  -- a chain goes on by one event
  chain_more : (old now new : WorldState) (events : List EventValue) (lines : List Line) (event : EventValue) (line : Line) → Chain node_may store_may old events lines now → TookEvent node_may store_may now new event line
      → Chain node_may store_may old (events ++ event ∷ []) (lines ++ line ∷ []) new
  chain_more old now new [] [] event line same took = (new, subst (λ (w : WorldState). TookEvent node_may store_may w new event line) same took, refl)
  chain_more old now new (e ∷ events) (l ∷ lines) event line (next, first, others) took = (next, first, chain_more next now new events lines event line others took)
  chain_more old now new _ _ event line none took = absurd none

module _ (node_may store_may : Type 0) (old : WorldState) (before : List Line) (events : List EventValue) where
  -- a network that has run no event stands as it did
  pub runs_none : RunsOn node_may store_may old old before before (take 0 events)
  runs_none = record {
    lines = [];
    added = sym (append-nil before);
    chain = refl;
    follows = λ o T stand. record { steps = []; events_are = refl; lines_are = refl; stands = stand };
  }

  -- it has run all where as many as there are have run
  pub runs_all : (new : WorldState) (after : List Line) (i : ℕ) → length events ≤ i → RunsOn node_may store_may old new before after (take i events)
      → RunsOn node_may store_may old new before after events
  runs_all new after i all runs = subst (λ (done : List EventValue). RunsOn node_may store_may old new before after done) (take_all i events all) runs

  -- where the lines so far stand in a list with room for another
  module _ (now : WorldState) (middle room : List Line) (i : ℕ) (event : EventValue) (same_lines : room ≡ middle) (there : slice_get events i ≡ Some event)
      (runs : RunsOn node_may store_may old now before middle (take i events)) where
    -- it goes on by the step of the next event, whose line is added
    pub runs_next : (new : WorldState) (after : List Line) (line : Line) → after ≡ room ++ line ∷ [] → TookEvent node_may store_may now new event line
        → RunsOn node_may store_may old new before after (take (i + 1) events)
    runs_next new after line added took = record {
      lines = runs.lines ++ line ∷ [];
      added = added ∙ ap (λ (lines : List Line). lines ++ line ∷ []) (same_lines ∙ runs.added) ∙ append_assoc before runs.lines (line ∷ []);
      chain = subst (λ (es : List EventValue). Chain node_may store_may old es (runs.lines ++ line ∷ []) new) (sym next) (chain_more node_may store_may old now new (take i events) runs.lines event line runs.chain took);
      follows = λ o T stand. goes_on o T (runs.follows o T stand);
    }
      where
        next : take (i + 1) events ≡ take i events ++ event ∷ []
        next =
            ap (λ (k : ℕ). take k events) (add-one i) ∙ take-suc events i event (slice_get_within events i event there)
            ∙ ap (λ (e : EventValue). take i events ++ e ∷ []) (get_or_from_slice_get events i event event there)

        goes_on : (o : Opening) (T : List Step) → Follows old now o T (take i events) runs.lines
            → Follows old new o T (take (i + 1) events) (runs.lines ++ line ∷ [])
        goes_on o T so_far =
            let after = took.stands o (so_far.steps ++ T) so_far.stands in
            record {
              steps = record { event = event; line = line; actor = after.0; shown = after.1 } ∷ so_far.steps;
              events_are = ap (λ (es : List EventValue). event ∷ es) so_far.events_are ∙ sym (ap reverse next ∙ reverse-append (take i events) (event ∷ []));
              lines_are = ap (λ (ls : List Line). line ∷ ls) so_far.lines_are ∙ sym (reverse-append runs.lines (line ∷ []));
              stands = after.2;
            }

    -- it stops before the next event, where that isn't taken and nothing changed
    pub stops_here : (new : WorldState) (fault : WorldFault) → new ≡ now → (fault_of now event ≡ Some fault) ⊎ (fault ≡ OutOfMemory)
        → StopsAt node_may store_may old new before room events i fault
    stops_here new fault same why =
        subst (λ (left : WorldState × List Line). StopsAt node_may store_may old left.0 before left.1 events i fault) (λ k. (sym same k, sym same_lines k))
        (record { within = slice_get_within events i event there; runs = runs; event = event; there = there; why = why })

-- ---- What a Map-Server of the network sends for a Map-Request is by the network, and is promised.

module _ {A E : Type 0} (w : WorldState) (server : ℕ) (asked : PrefixValue) (quiet : ℕ) (n : ServerNodeState) (there : slice_get w.servers server ≡ Some n) where
  pub network_replies : (answer : Result (Reply A) E) → IfOk answer (NodeReplies n asked quiet w.clock) → IfOk answer (Replies w server asked quiet)
  network_replies (Ok reply) is = record { node = n; running = there; replies = is }
  network_replies (Err fault) is = tt

  pub network_promises : (answer : Result (Reply A) E) → IfOk answer (NodeReplies n asked quiet w.clock) → IfOk answer (IsPromised w server asked quiet)
  network_promises (Ok reply) is = replies_are_promised A w server asked quiet reply (record { node = n; running = there; replies = is })
  network_promises (Err fault) is = tt
