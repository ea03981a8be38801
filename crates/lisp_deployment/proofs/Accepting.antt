-- Where nothing that a node received is forged, each Map-Register that it accepts was sent, and each Map-Notify that a router counts is the
-- reply to a Map-Register that its Map-Server accepted; and the lines of both were printed.
use Rattle.std.proofs.Common.{◌≡◌, ◌⊎◌, inl, inr, ℕ, Bool, true, false, true≢false, List, [], ◌∷◌, ◌++◌, Option, Ok, sym, ap, subst, ◌∙◌, ◌+◌, ◌-◌, ◌<◌, length, arith}
use Rattle.std.specs.Prelude.{◌==◌, if◌then◌else◌, nat_le, nat_lt}
use Rattle.std.specs.List.{AllByRecursion, Contains}
use Rattle.std.proofs.lemmas.List.Elements.{Contains-append_cases, Contains-append_right}
use Rattle.std.proofs.lemmas.Bool.{and_parts, leb-true, ltb-true, lt-ltb}
use Rattle.lisp_records.specs.declared.router.RouterId.{RouterId}
use Rattle.lisp_records.specs.declared.address.Addr.{Addr}
use Rattle.lisp_policy.specs.Site.{SiteValue}
use Rattle.lisp_policy.specs.Configuration.{ConfigValue, HasServers}
use Rattle.lisp_messages.specs.Message.{MapRegisterValue, Registers, MapNotifyValue}
use Rattle.lisp_messages.specs.Reading.{message_at}
use Rattle.lisp_model.specs.declared.event.Event.TheVariants as events
use Rattle.lisp_model.specs.declared.line.Line.{Line}
use Rattle.lisp_model.specs.declared.line.Line.TheVariants as lines
use Rattle.lisp_model.specs.Accepted.{acceptances, acceptances_after, acceptances_in_step}
use Rattle.lisp_model.specs.Bag.{arrival_in, junk_arrival, acceptances_in, bag, Arrival}
use Rattle.lisp_model.specs.Held.{Acceptance}
use Rattle.lisp_model.specs.Legal.{MayCome, LegalTrace, context_of}
use Rattle.lisp_model.specs.Trace.{EventValue, Step, Opening, address_at, is_server, sites, clock, router_at, etr_config, is_router}
use Rattle.lisp_model.proofs.CleanLemmas.{checked, server_of}
use Rattle.lisp_model.proofs.Origins.{one_taken, were_sent}
use Rattle.lisp_model.specs.Clean.{Clean}
use Rattle.lisp_model.specs.Network.{NamesServers, IsNetwork}
use Rattle.lisp_model.proofs.HeardLines.{IsCounted, counted_of}
use Rattle.lisp_model.proofs.HearingLemmas.{IsHeard, is_heard, knows_own, router_of as one_router}
use Rattle.lisp_model.proofs.ListLemmas.{err_clash, head_or_tail}
use Rattle.lisp_model.proofs.ReplyOrigins.{entry_is}
use Rattle.lisp_refinement.specs.World.{DatagramValue}
use Rattle.lisp_refinement.proofs.Places.{all_at}
use Rattle.lisp_turns.specs.Part.{IsOwn, arrival, arrivals, datagram_from}
use Rattle.lisp_turns.proofs.Reaching.{all_split}
use Rattle.lisp_admission.specs.Pairs.{router_of}
use Rattle.lisp_deployment.specs.Received.{IsUnforged, MayHold}
use Rattle.lisp_deployment.proofs.Giving.{TakeGiven, sites_given, may_hold}
use Rattle.lisp_deployment.proofs.Posting.{WasTold, told_still, WasReplied, AreReplied, reads}

-- each Map-Register among datagrams was sent, and its line was printed
abbrev pub AreTold : Opening → List Step → List Line → List DatagramValue → Type 0
AreTold o T printed sent = (g : DatagramValue) → Contains sent g → (m : MapRegisterValue) → message_at g.bytes ≡ Ok (Registers m) → WasTold o T printed m

-- and so was each that a Map-Server accepted
abbrev pub AcceptedAreTold : Opening → List Step → List Line → Type 0
AcceptedAreTold o T printed = (server : ℕ) (x : Acceptance) → Contains (acceptances o T server) x → WasTold o T printed x.message

-- what isn't forged, and passes a Map-Server's checks, was sent
module _ (o : Opening) (given : List (List SiteValue)) (T : List Step) (printed : List Line) (sent : List DatagramValue) (told : AreTold o T printed sent) (number : ℕ) where
  accepts : (s : Step) (U : List Step) → TakeGiven o given U → (e : EventValue) → IsOwn number e → AllByRecursion (IsUnforged o.config given sent number) (arrival e) → (node : ℕ) (router : RouterId) (key nonce : ℕ) (reply : Option ℕ)
      → MayCome (context_of o U s) e (lines.Accepted node router key nonce reply) → (x : Acceptance) → Contains (acceptances_in (arrival_in (bag o U) e) (clock U)) x → WasTold o T printed x.message
  accepts s U take (events.Junk to from bytes) own unforged node router key nonce reply row x has =
      subst (λ (m : MapRegisterValue). WasTold o T printed m) (sym (ap (λ (y : Acceptance). y.message) only)) (by unforged.0)
    where
      only : x ≡ record { message = row.arrives.message; from = from; moment = clock U }
      only = one_taken (junk_arrival from bytes) (clock U) row.arrives.message row.arrives.admits.read x has

      at_server : is_server o.config number ≡ true
      at_server = ap (is_server o.config) (sym own ∙ sym row.acts ∙ row.arrives.acts.acts) ∙ row.arrives.acts.kind

      by : IsUnforged o.config given sent number (from, bytes) → WasTold o T printed row.arrives.message
      by (inl has) = told (datagram_from from (address_at o.config number, bytes)) has row.arrives.message row.arrives.admits.read
      by (inr (inl noise)) = absurd (err_clash (sym noise.1 ∙ row.arrives.admits.read))
      by (inr (inr forged)) =
          let known = checked (sites o U s.actor) from bytes row.arrives.message row.arrives.admits.secret row.arrives.admits.checks in
          absurd (true≢false (sym known.authentic ∙ forged known.secret (inl (at_server, sites o U s.actor, sites_given o given U s.actor take, known.known))))
  accepts s U take (events.Deliver k fate) own unforged node router key nonce reply row x has = absurd own
  accepts s U take _ own unforged node router key nonce reply row x has = absurd row

  -- a step
  accepted_after : (s : Step) (U : List Step) → TakeGiven o given U → IsOwn number s.event → AllByRecursion (IsUnforged o.config given sent number) (arrival s.event) → (line : Line) → MayCome (context_of o U s) s.event line → (server : ℕ) (x : Acceptance)
      → Contains (acceptances_after line (acceptances_in_step o U s) server (acceptances o U server)) x → WasTold o T printed x.message ⊎ Contains (acceptances o U server) x
  accepted_after s U take own unforged (lines.Accepted node router key nonce reply) row server x has = by (node == server) has
    where
      either : Contains (acceptances_in_step o U s) x ⊎ Contains (acceptances o U server) x → WasTold o T printed x.message ⊎ Contains (acceptances o U server) x
      either (inl new) = inl (accepts s U take s.event own unforged node router key nonce reply row x new)
      either (inr old) = inr old

      by : (b : Bool) → Contains (if b then acceptances_in_step o U s ++ acceptances o U server else acceptances o U server) x → WasTold o T printed x.message ⊎ Contains (acceptances o U server) x
      by true has = either (Contains-append_cases (acceptances_in_step o U s) (acceptances o U server) x has)
      by false has = inr has
  accepted_after s U take own unforged _ row server x has = inr has

  -- and steps of the node
  pub accepted_told : (steps : List Step) → AllByRecursion (λ s. IsOwn number s.event) steps → LegalTrace o (steps ++ T) → TakeGiven o given (steps ++ T) → AllByRecursion (IsUnforged o.config given sent number) (arrivals steps)
      → AcceptedAreTold o T printed → AcceptedAreTold o (steps ++ T) printed
  accepted_told [] own legal take unforged before server x has = before server x has
  accepted_told (s ∷ steps) own legal take unforged before server x has =
      let parts = all_split (IsUnforged o.config given sent number) (arrival s.event) (arrivals steps) unforged in
      by (accepted_after s (steps ++ T) take.1 own.0 parts.0 s.line legal.0.row server x has) (accepted_told steps own.1 legal.1 take.1 parts.1 before server x)
    where
      by : WasTold o T printed x.message ⊎ Contains (acceptances o (steps ++ T) server) x → (Contains (acceptances o (steps ++ T) server) x → WasTold o (steps ++ T) printed x.message) → WasTold o (s ∷ steps ++ T) printed x.message
      by (inl new) go = told_still o (s ∷ steps) T [] printed x.message new
      by (inr old) go = told_still o (s ∷ []) (steps ++ T) [] printed x.message (go old)

-- a restart accepts nothing
pub restarted_told : (o : Opening) (T : List Step) (s : Step) (node : ℕ) (printed : List Line) → s.line ≡ lines.Restarted node → AcceptedAreTold o T printed → AcceptedAreTold o (s ∷ T) printed
restarted_told o T s node printed is before server x has =
    told_still o (s ∷ []) T [] printed x.message (before server x (subst (λ (l : Line). Contains (acceptances_after l (acceptances_in_step o T s) server (acceptances o T server)) x) is has))

-- ---- what routers count

-- a line was printed of the Map-Server that accepted a nonce of a router under a key
abbrev pub AcceptanceIsTold : ConfigValue → List Line → (node server key nonce : ℕ) → Type 0
AcceptanceIsTold c printed node server key nonce = (reply : Option ℕ) × Contains printed (lines.Accepted server (router_at c node).me key nonce reply)

-- so it was of each nonce that a router counted
abbrev pub CountsAreTold : Opening → List Step → List Line → Type 0
CountsAreTold o T printed = (s : Step) → Contains T s → (node server part key nonce : ℕ) → s.line ≡ lines.Counted node server part key nonce → AcceptanceIsTold o.config printed node server key nonce

-- more lines
pub more_counted : (o : Opening) (T : List Step) (more printed : List Line) → CountsAreTold o T printed → CountsAreTold o T (more ++ printed)
more_counted o T more printed before s has node server part key nonce is = let found = before s has node server part key nonce is in (found.0, Contains-append_right more printed _ found.1)

-- a router's list names Map-Servers
each_of : {X : Type 0} (P : X → Type 0) (xs : List X) (x : X) → AllByRecursion P xs → Contains xs x → P x
each_of P xs x all (i, low, is) = subst P is (all_at P xs all i x low)

lists_server : (c : ConfigValue) → NamesServers c → (router k : ℕ) → is_router c router ≡ true → Contains (router_at c router).servers k → is_server c k ≡ true
lists_server c names router k its listed =
    let within = and_parts (nat_le (length c.servers) router) (nat_lt router (length c.servers + length c.routers)) its in
    let low = leb-true (length c.servers) router within.0 in
    let high = ltb-true router (length c.servers + length c.routers) within.1 in
    lt-ltb k (length c.servers) (each_of (λ place. place < length c.servers) (router_at c router).servers k (all_at (HasServers c.servers) c.routers names (router - length c.servers) _ (omega (arith, low, high))).there listed)

module _ (o : Opening) (given : List (List SiteValue)) (T : List Step) (printed : List Line) (sent : List DatagramValue) (replies : AreReplied o T printed sent) (number : ℕ) (legal : LegalTrace o T) (network : IsNetwork o.config) (clean : Clean o T) where
  -- the reply to a router is that to a Map-Register of its own
  own_reply : (node server key nonce : ℕ) (n : MapNotifyValue) (from : Addr) → is_router o.config node ≡ true → is_server o.config server ≡ true → from ≡ address_at o.config server → n.key_id ≡ key → n.nonce ≡ nonce
      → WasReplied o T printed from (address_at o.config node) n → AcceptanceIsTold o.config printed node server key nonce
  own_reply node server key nonce n from its kind source under number_is r =
      let m : MapRegisterValue = r.acceptance.message in
      let entry = were_sent o network.addresses reads T legal clean r.server r.acceptance r.taken in
      let whose : entry.entry.router ≡ node = one_router o.config network.addresses entry.entry.router node (entry_is o T legal entry.entry entry.sent).kind its (sym entry.from ∙ sym r.target) in
      let at : r.server ≡ server = server_of o.config network.addresses server r.server (sym r.source ∙ source) kind r.kind in
      let me : router_of m ≡ (router_at o.config node).me = ap router_of entry.message ∙ ap (λ (k : ℕ). (router_at o.config k).me) whose in
      let its_key : m.key_id ≡ key = sym (ap (λ (x : MapNotifyValue). x.key_id) r.value) ∙ under in
      let its_nonce : m.nonce ≡ nonce = sym (ap (λ (x : MapNotifyValue). x.nonce) r.value) ∙ number_is in
      (r.reply, subst (λ (line : Line). Contains printed line) (λ i. lines.Accepted (at i) (me i) (its_key i) (its_nonce i) r.reply) r.told)

  -- what isn't forged, and counts, was sent
  counts : (s : Step) (U : List Step) → LegalTrace o U → TakeGiven o given U → (e : EventValue) → IsOwn number e → AllByRecursion (IsUnforged o.config given sent number) (arrival e) → (node server part key nonce : ℕ) → MayCome (context_of o U s) e (lines.Counted node server part key nonce)
      → AcceptanceIsTold o.config printed node server key nonce
  counts s U legal_then take (events.Junk to from bytes) own unforged node server part key nonce row = by unforged.0
    where
      a : Arrival
      a = junk_arrival from bytes

      what : IsCounted (context_of o U s) a node server part key nonce
      what = counted_of (context_of o U s) a node server part key nonce row.arrives

      heard : IsHeard o U s.actor a what.what
      heard = is_heard o U s.actor a what.what what.hears

      here : s.actor ≡ number
      here = row.acts ∙ own

      its : is_router o.config node ≡ true
      its = subst (λ (k : ℕ). is_router o.config k ≡ true) what.acts row.arrives.acts.kind

      kind : is_server o.config server ≡ true
      kind = subst (λ (k : ℕ). is_server o.config k ≡ true) (sym what.whose) (lists_server o.config network.servers s.actor what.what.server row.arrives.acts.kind heard.listed)

      number_is : what.what.message.nonce ≡ nonce
      number_is = sym what.number

      by : IsUnforged o.config given sent number (from, bytes) → AcceptanceIsTold o.config printed node server key nonce
      by (inl has) =
          let low = what.low in
          let r = replies (datagram_from from (address_at o.config number, bytes)) has what.what.message heard.read.is (record { plain = heard.read.plain; low = omega (arith, low, number_is) }) in
          own_reply node server key nonce what.what.message from its kind (sym heard.source ∙ ap (address_at o.config) (sym what.whose)) (heard.key ∙ sym what.under) number_is
          (subst (λ (k : ℕ). WasReplied o T printed from (address_at o.config k) what.what.message) (sym here ∙ what.acts) r)
      by (inr (inl noise)) = absurd (err_clash (sym noise.1 ∙ heard.read.is))
      by (inr (inr forged)) =
          absurd (true≢false (sym heard.authentic ∙ forged (etr_config o U s.actor).secret (subst (λ (k : ℕ). MayHold o.config given k (etr_config o U s.actor).secret) here (may_hold o given U s.actor legal_then take (etr_config o U s.actor).secret (knows_own o U s.actor row.arrives.acts.kind)))))
  counts s U legal_then take (events.Deliver k fate) own unforged node server part key nonce row = absurd own
  counts s U legal_then take _ own unforged node server part key nonce row = absurd row

  -- and steps of the node
  pub counts_told : (steps : List Step) → AllByRecursion (λ s. IsOwn number s.event) steps → LegalTrace o (steps ++ T) → TakeGiven o given (steps ++ T) → AllByRecursion (IsUnforged o.config given sent number) (arrivals steps) → CountsAreTold o T printed → CountsAreTold o (steps ++ T) printed
  counts_told [] own legal_then take unforged before x has node server part key nonce is = before x has node server part key nonce is
  counts_told (s ∷ steps) own legal_then take unforged before x has node server part key nonce is =
      let parts = all_split (IsUnforged o.config given sent number) (arrival s.event) (arrivals steps) unforged in
      by parts.0 (head_or_tail s (steps ++ T) x has) (counts_told steps own.1 legal_then.1 take.1 parts.1 before x)
    where
      by : AllByRecursion (IsUnforged o.config given sent number) (arrival s.event) → (x ≡ s) ⊎ Contains (steps ++ T) x
          → (Contains (steps ++ T) x → (node server part key nonce : ℕ) → x.line ≡ lines.Counted node server part key nonce → AcceptanceIsTold o.config printed node server key nonce) → AcceptanceIsTold o.config printed node server key nonce
      by its_own (inl here) go = counts s (steps ++ T) legal_then.1 take.1 s.event own.0 its_own node server part key nonce
          (subst (λ (line : Line). MayCome (context_of o (steps ++ T) s) s.event line) (sym (ap (λ (y : Step). y.line) here) ∙ is) legal_then.0.row)
      by its_own (inr old) go = go old node server part key nonce is

-- a restart counts nothing
pub restarted_counts : (o : Opening) (T : List Step) (s : Step) (node : ℕ) (printed : List Line) → s.line ≡ lines.Restarted node → CountsAreTold o T printed → CountsAreTold o (s ∷ T) printed
restarted_counts o T s node printed line before x has router server part key nonce is = by (head_or_tail s T x has)
  where
    clash : lines.Restarted node ≡ lines.Counted router server part key nonce → ⊥
    clash e = absurd cc

    by : (x ≡ s) ⊎ Contains T x → AcceptanceIsTold o.config printed router server key nonce
    by (inl here) = absurd (clash (sym line ∙ sym (ap (λ (y : Step). y.line) here) ∙ is))
    by (inr old) = before x old router server part key nonce is
