-- The headline, from the laws of legal traces and from what the nodes tell.
use Rattle.std.proofs.Common.{◌≡◌, ℕ, ◌+◌, ◌-◌, List, [], ◌∷◌, map, Option, Some, None, Bool, true, false, refl, sym, ap, subst, ◌∙◌, length, arith, ◌⊎◌, inl, inr}
use Rattle.std.proofs.lemmas.Bool.{ltb-false}
use Rattle.std.proofs.lemmas.Bool.Decides.{Decides-eqb}
use Rattle.std.specs.Prelude.{◌==◌, ◌&&◌, ◌≤◌, nat_lt, slice_get, if◌then◌else◌, slice_index_or}
use Rattle.std.specs.List.{Contains}
use Rattle.std.specs.Option.{option_map, option_and_then}
use Rattle.lisp_records.specs.declared.router.RouterId.{RouterId}
use Rattle.lisp_records.specs.Address.{PrefixValue, holds}
use Rattle.lisp_records.specs.Row.{RowValue}
use Rattle.lisp_lookup.specs.Table.{row_at, IsHeld}
use Rattle.lisp_etr.specs.Etr.{EtrState}
use Rattle.lisp_server.specs.Server.{ServerState}
use Rattle.lisp_model.specs.declared.line.Line.{Line}
use Rattle.lisp_model.specs.declared.line.Line.TheVariants as lines
use Rattle.lisp_model.specs.Trace.{Step, Opening, clock, sites}
use Rattle.lisp_model.specs.Held.{accepted_rows, held_row, rows}
use Rattle.lisp_model.specs.Bag.{since_start}
use Rattle.lisp_model.specs.Counted.{Acknowledged, counted_nonces_after, counted_nonces, acked_after, acked}
use Rattle.lisp_model.specs.Clean.{Clean}
use Rattle.lisp_model.specs.Legal.{LegalTrace}
use Rattle.lisp_model.specs.Network.{IsNetwork}
use Rattle.lisp_model.specs.Numbers.{part_numbers}
use Rattle.lisp_model.specs.Promises.{ReplaysAreTried, DoneWasNoticed}
use Rattle.lisp_model.proofs.RisingLaws.{nonces_rise, replays_tried}
use Rattle.lisp_model.proofs.NoticeRising.{notice_nonces_rise}
use Rattle.lisp_model.proofs.CleanLaws as clean_laws
use Rattle.lisp_model.proofs.ListLemmas.{in_tail}
use Rattle.lisp_model.proofs.RowLaws.{rows_are_held}
use Rattle.lisp_refinement.specs.World.{WorldState, ServerNodeState, RouterNodeState, RouterCoreState, Up, Down}
use Rattle.lisp_refinement.specs.Nodes.{up_in, etr_at}
use Rattle.lisp_refinement.specs.Stands.{Stands, StandsForServer}
use Rattle.lisp_refinement.specs.Headline.{Lists, ListedAgree, OfEachStep, OverClean, Promises, IsSentRow}
use Rattle.lisp_refinement.specs.Asked.{RouterTells}
use Rattle.lisp_refinement.proofs.Gets.{none_is_some, same_some, get_mapped}
use Rattle.lisp_refinement.proofs.Asking.{kept_alive, servers_tell, routers_tell, lists_held, same_live}
use Rattle.lisp_refinement.proofs.Places.{number_of_part}
use Rattle.lisp_records.specs.declared.address.Addr.{Addr}
use Rattle.lisp_records.specs.Record.{MapRecordValue}
use Rattle.lisp_policy.specs.Site.{SiteValue}
use Rattle.lisp_lookup.specs.Covering.{IsBestFor, alone}
use Rattle.lisp_lookup.specs.Replies.{IsAnswered}
use Rattle.lisp_replies.specs.Kept.{MayBeKept}
use Rattle.lisp_replies.specs.Reply.{IsReply, is_starting}
use Rattle.lisp_replies.specs.declared.reply.Reply.{Reply}
use Rattle.lisp_replies.specs.declared.reply.Reply.TheVariants.{Records, Negative, Forward, Silent}
use Rattle.lisp_replies.proofs.AlikeLaws.{replies_are_alike}
use Rattle.lisp_replies.proofs.KeptLaws.{replies_may_be_kept}
use Rattle.lisp_model.specs.History.{SentRegister}
use Rattle.lisp_model.specs.Life.{began}
use Rattle.lisp_model.specs.Reply.{IsReplyOf}
use Rattle.lisp_refinement.specs.Replied.{NodeReplies, IsSentRecord, GoesOn, ReadsWhatWasSent, RepliesArePromised}

-- each step of a legal trace has what each legal step has
replays_in : (o : Opening) (T : List Step) → LegalTrace o T → OfEachStep (ReplaysAreTried o) T
replays_in o [] legal = tt
replays_in o (s ∷ T) legal = (replays_tried o T s legal.1 legal.0, replays_in o T legal.1)

notices_in : (o : Opening) (T : List Step) → IsNetwork o.config → LegalTrace o T → Clean o T → OfEachStep (DoneWasNoticed o) T
notices_in o [] network legal clean = tt
notices_in o (s ∷ T) network legal clean = (clean_laws.done_was_noticed o T s network legal clean, notices_in o T network legal.1 clean.1)

-- a router that starts has counted nothing yet
started_last : (b : Bool) (part key nonce : ℕ) (old : Option (ℕ × ℕ)) (all : List Acknowledged) → (old ≡ Some (key, nonce) → Contains all (record { part = part; key = key; nonce = nonce }))
    → (if b then None else old) ≡ Some (key, nonce) → Contains all (record { part = part; key = key; nonce = nonce })
started_last true part key nonce old all before last = absurd (none_is_some last)
started_last false part key nonce old all before last = before last

-- what was counted last of a part was counted
counted_last : (router server part key nonce : ℕ) (line : Line) (old : Option (ℕ × ℕ)) (all : List Acknowledged)
    → (old ≡ Some (key, nonce) → Contains all (record { part = part; key = key; nonce = nonce }))
    → acked_after line router server part old ≡ Some (key, nonce) → Contains (counted_nonces_after line router server all) (record { part = part; key = key; nonce = nonce })
counted_last router server part key nonce (lines.Counted r s p k n) old all before last = by (r == router && s == server) (p == part) refl last
  where
    by : (b c : Bool) → (p == part) ≡ c → (if b && c then Some (k, n) else old) ≡ Some (key, nonce)
        → Contains (if b then record { part = p; key = k; nonce = n } ∷ all else all) (record { part = part; key = key; nonce = nonce })
    by true true is last =
        let same : p ≡ part = (Decides-eqb p part).0 is in
        let pair : ◌≡◌ {A = ℕ × ℕ} (k, n) (key, nonce) = same_some (k, n) (key, nonce) last in
        (0, omega arith, λ i. record { part = same i; key = (pair i).0; nonce = (pair i).1 })
    by true false is last = in_tail (record { part = p; key = k; nonce = n }) all (record { part = part; key = key; nonce = nonce }) (before last)
    by false c is last = before last
counted_last router server part key nonce (lines.Restarted node) old all before last = started_last (node == router) part key nonce old all before last
counted_last router server part key nonce (lines.Emptied node under) old all before last = started_last (node == router) part key nonce old all before last
counted_last router server part key nonce _ old all before last = before last

was_counted : (T : List Step) (router server part key nonce : ℕ) → acked T router server part ≡ Some (key, nonce) → Contains (counted_nonces T router server) (record { part = part; key = key; nonce = nonce })
was_counted [] router server part key nonce last = absurd (none_is_some last)
was_counted (s ∷ T) router server part key nonce last =
    counted_last router server part key nonce s.line (acked T router server part) (counted_nonces T router server) (was_counted T router server part key nonce) last

-- the part at a place of such a list is the place
of_part : (T : List Step) (router server part : ℕ) (pair : Option (ℕ × ℕ)) → slice_get (map (acked T router server) part_numbers) part ≡ Some pair → acked T router server part ≡ pair
of_part T router server part pair at = let was = get_mapped (acked T router server) part_numbers part pair at in
    ap (acked T router server) (sym (number_of_part part was.0 was.1)) ∙ was.2

-- the node of a core that is there
node_of : (found : Option ServerNodeState) (core : ServerState) → option_map (λ (n : ServerNodeState). n.core) found ≡ Some core
    → (n : ServerNodeState) × (found ≡ Some n) × (n.core ≡ core)
node_of (Some n) core is = (n, refl, same_some n.core core is)
node_of None core is = absurd (none_is_some is)

router_of : (found : Option RouterNodeState) (etr : EtrState) → option_and_then (λ (n : RouterNodeState). up_in n.core) found ≡ Some etr
    → (n : RouterNodeState) × (found ≡ Some n) × (up_in n.core ≡ Some etr)
router_of (Some n) etr is = (n, refl, is)
router_of None etr is = absurd (none_is_some is)

is_up_in : (core : RouterCoreState) (etr : EtrState) → up_in core ≡ Some etr → core ≡ Up etr
is_up_in (Up e) etr is = ap Up (same_some e etr is)
is_up_in (Down config database) etr is = absurd (none_is_some is)

-- a network that stands for a trace
module _ (w : WorldState) (o : Opening) (T : List Step) (stand : Stands w o T) where
  abbrev legal : LegalTrace o T
  legal = stand.steps.legal

  abbrev network : IsNetwork o.config
  network = stand.steps.network

  -- what a Map-Server lists is what it holds by the trace
  listed_is_held : (server : ℕ) (listed : List RowValue) → Lists w server listed → listed ≡ rows (since_start o T server) (clock T)
  listed_is_held server listed lists =
      let node = node_of (slice_get w.servers server) lists.core lists.running in
      let is : IsHeld node.0.core.rows w.clock listed = subst (λ (core : ServerState). IsHeld core.rows w.clock listed) (sym node.2) lists.held in
      (servers_tell (Unit {0}) w o T stand server node.0 node.1).held listed is

  -- a row that is listed is the one that is held for its router and prefix
  is_latest : (server : ℕ) (listed : List RowValue) → Lists w server listed → (row : RowValue) → Contains listed row
      → held_row (since_start o T server) row.router row.mapping.eid (clock T) ≡ Some row
  unfolding row_at
  is_latest server listed lists row has =
      let there : Contains (rows (since_start o T server) (clock T)) row = subst (λ (all : List RowValue). Contains all row) (listed_is_held server listed lists) has in
      kept_alive (clock T) (row_at (accepted_rows (since_start o T server)) row.router row.mapping.eid) row (((rows_are_held (since_start o T server) (clock T)).each row).0 there)

  -- what a router that is up tells, by its number
  router_tells : (router : ℕ) (core : EtrState) → etr_at w router ≡ Some core → RouterTells o T router core w.clock
  router_tells router core running = by (nat_lt router (length w.servers)) refl running
    where
      at_place : (k : ℕ) → length w.servers ≤ router → k ≡ router - length w.servers
          → option_and_then (λ (n : RouterNodeState). up_in n.core) (slice_get w.routers k) ≡ Some core → RouterTells o T router core w.clock
      at_place k past is_place is =
          let node = router_of (slice_get w.routers k) core is in
          let count = stand.steps.servers in
          let same : length o.config.servers + k ≡ router = omega (arith, count, past, is_place) in
          subst (λ (r : ℕ). RouterTells o T r core w.clock) same (routers_tell w o T stand k node.0 core node.1 (is_up_in node.0.core core node.2))

      by : (b : Bool) → nat_lt router (length w.servers) ≡ b
          → option_and_then (λ (n : RouterNodeState). up_in n.core) (if b then None else slice_get w.routers (router - length w.servers)) ≡ Some core → RouterTells o T router core w.clock
      by true below is = absurd (none_is_some is)
      by false past is = at_place (router - length w.servers) (ltb-false router (length w.servers) past) refl is

  module _ (clean : Clean o T) where
    listed_agree : ListedAgree w o T
    listed_agree one other listed listed' lists lists' g h has has' router eid d e sent sent' none =
        let first : held_row (since_start o T one) h.router h.mapping.eid (clock T) ≡ Some g =
        subst (λ (k : RouterId × PrefixValue). held_row (since_start o T one) k.0 k.1 (clock T) ≡ Some g) (λ i. (router i, eid i)) sent.latest in
        clean_laws.held_agree o T network legal clean one other h.router h.mapping.eid g h d e first sent'.latest sent.sent sent'.sent sent.of sent'.of none

    over_clean : OverClean w o T
    over_clean = record {
      accepted_was_sent = clean_laws.accepted_was_sent o T network legal clean;
      listed_was_sent = λ server listed lists row has. (
          let latest = is_latest server listed lists row has in
          let sent = clean_laws.held_was_sent o T network legal clean server row.router row.mapping.eid row latest in
          (sent.0, record { latest = latest; sent = sent.1; whom = sent.2; of = sent.3; record_of = sent.4; made = sent.5 }));
      listed_agree = listed_agree;
      counted_was_accepted = clean_laws.counted_was_accepted o T network legal clean;
      counts_are_accepted = λ router place part key nonce server listed counts. (
          let tells = router_tells router counts.core counts.running in
          let last = of_part T router server part (Some (key, nonce)) (ap (λ (all : List (Option (ℕ × ℕ))). slice_get all part) (sym (tells.acked place server listed)) ∙ counts.counted) in
          clean_laws.counted_was_accepted o T network legal clean router server (record { part = part; key = key; nonce = nonce }) (was_counted T router server part key nonce last));
      done_was_noticed = notices_in o T network legal clean;
    }

-- the headline holds of each network and each trace that it stands for
pub networks_promise : (w : WorldState) → Promises w
networks_promise w o T stand = record {
  nonces_rise = nonces_rise o T stand.steps.legal;
  replays_are_tried = replays_in o T stand.steps.legal;
  notice_nonces_rise = notice_nonces_rise o T stand.steps.legal;
  listed_is_held = listed_is_held w o T stand;
  over_clean = over_clean w o T stand;
}

-- What a Map-Server of a network that stands for a trace sends for a Map-Request.

-- two lists that are one have one first element
same_first : {X : Type 0} (all : List X) (x y : X) (xs ys : List X) → all ≡ x ∷ xs → all ≡ y ∷ ys → x ≡ y
same_first {X = X} all x y xs ys one other = ap (λ (zs : List X). slice_index_or zs 0 x) (sym one ∙ other)

-- a Map-Server of a network that stands for a trace
module _ (w : WorldState) (o : Opening) (T : List Step) (stand : Stands w o T) (server : ℕ) (n : ServerNodeState) (at : slice_get w.servers server ≡ Some n) where
  -- all that it holds, by the trace
  abbrev held : List RowValue
  held = rows (since_start o T server) (clock T)

  abbrev part : StandsForServer o T server n
  part = stand.servers server n at

  -- a router sent each row of it
  row_was_sent : Clean o T → (row : RowValue) → Contains held row → (e : SentRegister) × IsSentRow o T server row e
  row_was_sent clean row has = ((networks_promise w o T stand).over_clean clean).listed_was_sent server held (record {
    core = n.core;
    running = ap (option_map (λ (m : ServerNodeState). m.core)) at;
    held = subst (λ (now : ℕ). IsHeld n.core.rows now held) (sym stand.bag.moment) (lists_held o T server n part);
  }) row has

  record_was_sent : Clean o T → (addr : Addr) (r : MapRecordValue) → IsAnswered held addr (clock T) r → IsSentRecord o T server addr r
  record_was_sent clean addr r (row, best, is) =
      let sent = row_was_sent clean row best.held in
      record { row = row; best = best; is = is; send = sent.0; sent = sent.1 }

  -- a row that answers for a prefix, or for its address, is held
  still_held : (asked : PrefixValue) (row : RowValue) → IsBestFor held asked (clock T) row ⊎ IsBestFor held (alone asked.addr) (clock T) row → Contains held row
  still_held asked row (inl best) = best.held
  still_held asked row (inr best) = best.held

  goes_on : Clean o T → (asked : PrefixValue) (to : Addr) (row : RowValue) → IsBestFor held asked (clock T) row ⊎ IsBestFor held (alone asked.addr) (clock T) row → row.proxy ≡ false → to ≡ row.from → GoesOn o T server asked to
  goes_on clean asked to row best no_proxy its =
      let sent = row_was_sent clean row (still_held asked row best) in
      record { row = row; best = best; no_proxy = no_proxy; its = its; send = sent.0; sent = sent.1 }

  module _ {A : Type 0} (asked : PrefixValue) (quiet : ℕ) where
    -- what it sends by its rows it sends by what it holds
    is_reply : (reply : Reply A) → NodeReplies n asked quiet w.clock reply → IsReplyOf o T server asked quiet reply
    is_reply reply replies =
        let now : NodeReplies n asked quiet (clock T) reply = subst (λ (now : ℕ). NodeReplies n asked quiet now reply) stand.bag.moment replies in
        let begun : IsReply n.core.rows n.core.sites asked (is_starting (began T server) quiet (clock T)) (clock T) reply =
        subst (λ (b : ℕ). IsReply n.core.rows n.core.sites asked (is_starting b quiet (clock T)) (clock T) reply) part.started now.is in
        let of_sites : IsReply n.core.rows (sites o T server) asked (is_starting (began T server) quiet (clock T)) (clock T) reply =
        subst (λ (sites : List SiteValue). IsReply n.core.rows sites asked (is_starting (began T server) quiet (clock T)) (clock T) reply) part.sites begun in
        replies_are_alike A n.core.rows held (sites o T server) asked (is_starting (began T server) quiet (clock T)) (clock T) reply
        (same_live n.core.rows held (clock T) now.one_each (lists_held o T server n part)) of_sites

    -- where nobody outside knows a secret, it reads what was sent
    reads : Clean o T → (reply : Reply A) → IsReplyOf o T server asked quiet reply → MayBeKept held (sites o T server) asked.addr (clock T) reply → ReadsWhatWasSent o T server asked reply
    reads clean (Records records) is kept = λ first rest same addr has r longest. (
        let its_first = same_first records first kept.first rest kept.rest same kept.is in
        record_was_sent clean addr r (kept.answered addr (subst (λ (f : MapRecordValue). holds f.eid addr ≡ true) its_first has) r longest))
    reads clean (Forward to) (inl (row, best, no_proxy, its)) kept = goes_on clean asked to row (inl best) no_proxy its
    reads clean (Forward to) (inr (none, inl (row, best, no_proxy, its))) kept = goes_on clean asked to row (inr best) no_proxy its
    reads clean (Forward to) (inr (none, inr never)) kept = absurd never
    reads clean (Negative hole) is kept = tt
    reads clean Silent is kept = tt

-- each reply of a network is promised by each trace that it stands for
pub replies_are_promised : (A : Type 0) (w : WorldState) → RepliesArePromised A w
replies_are_promised A w server asked quiet reply replies o T stand =
    let is = is_reply w o T stand server replies.node replies.running asked quiet reply replies.replies in
    let kept = replies_may_be_kept A (rows (since_start o T server) (clock T)) (sites o T server) asked (is_starting (began T server) quiet (clock T)) (clock T) reply is in
    record {
      is = is;
      kept = kept;
      sent = λ clean. reads w o T stand server replies.node replies.running asked quiet clean reply is kept;
    }
