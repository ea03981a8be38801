-- What was accepted was sent: so was what a router counts, and what is done was noticed.
use Rattle.std.proofs.Common.{◌≡◌, ℕ, ◌==◌, ◌&&◌, Bool, true, false, List, ◌∷◌, sym, ap, subst, ◌∙◌}
use Rattle.std.specs.Prelude.{if◌then◌else◌}
use Rattle.std.specs.List.{Contains}
use Rattle.lisp_messages.specs.Message.{MapRegisterValue}
use Rattle.lisp_admission.specs.Pairs.{router_of}
use Rattle.lisp_model.specs.declared.line.Line.TheVariants as lines
use Rattle.lisp_model.specs.Trace.{Step, Opening, address_at, router_at}
use Rattle.lisp_model.specs.Held.{Acceptance}
use Rattle.lisp_model.specs.Counted.{Acknowledged, counted_nonces, counted_nonces_after}
use Rattle.lisp_model.specs.declared.line.Line.{Line}
use Rattle.lisp_model.specs.Legal.{LegalTrace}
use Rattle.lisp_model.specs.Network.{IsNetwork}
use Rattle.lisp_model.specs.Promises.{AcceptedWasSent, WasAccepted}
use Rattle.lisp_model.specs.Promises as schedules
use Rattle.lisp_refinement.specs.Headline.{OfEachStep}
use Rattle.lisp_model.proofs.Locality.{same_number}
use Rattle.lisp_model.proofs.ListLemmas.{at_head, in_tail}
use Rattle.lisp_client.specs.Steps.{IsIn}
use Rattle.lisp_client.specs.Promised.{AcceptedWereSent, CountedWasAccepted, CountedWereAccepted, DoneWasNoticed}
use Rattle.lisp_client.proofs.Steps.{goes_up, each_at, taken_of, stays_accepted, was_accepted}
use Rattle.lisp_client.proofs.Rows.{was_entered, was_sent, router_sends}
use Rattle.lisp_model.proofs.CleanLaws.{one_router}

-- each Map-Register that was accepted was sent
pub accepted_were_sent : (o : Opening) (T : List Step) → AcceptedWasSent o T → AcceptedWereSent o T
accepted_were_sent o T sent t before there server router key nonce reply is a =
    let found = sent server (taken_of o t before router key nonce a) (stays_accepted o T t before there server router key nonce reply is a) in
    let e = found.0 in
    let w = was_entered o T e found.1.sent in
    (e.router, w.step, w.before, was_sent o T server a.message a.arrival.from e found.1.whom found.1.message found.1.from w)

module _ (o : Opening) (T : List Step) (legal : LegalTrace o T) (network : IsNetwork o.config) (sent : AcceptedWasSent o T) where
  -- so was what a router counted
  pub counted : (node server part key nonce : ℕ) → WasAccepted o T node server part key nonce → CountedWasAccepted o T node server part key nonce
  counted node server part key nonce was =
      let x = was.acceptance in
      let t = was_accepted o server x T legal was.taken in
      let a = t.how.taken.arrived in
      let only = t.how.taken.is in
      let found = sent server x was.taken in
      let e = found.0 in
      let w = was_entered o T e found.1.sent in
      let v = was_entered o T was.entry was.sent in
      let me : (router_at o.config was.entry.router).me ≡ router_of x.message = sym (ap router_of was.message) in
      let under : key ≡ x.message.key_id = sym was.under ∙ sym (ap (λ (m : MapRegisterValue). m.key_id) was.message) in
      let number : nonce ≡ x.message.nonce = sym was.number ∙ sym (ap (λ (m : MapRegisterValue). m.nonce) was.message) in
      let its : e.router ≡ was.entry.router = one_router o.config network.routers e.router was.entry.router
      (router_sends o T legal w.step w.before w.there e.router e.server e.part e.key e.nonce w.datagram w.line)
      (router_sends o T legal v.step v.before v.there was.entry.router was.entry.server was.entry.part was.entry.key was.entry.nonce v.datagram v.line)
      (sym (ap router_of found.1.message) ∙ ap router_of was.message) in
      subst (λ (k : ℕ). CountedWasAccepted o T k server part key nonce) was.who (record {
        accepting = t.step;
        before_accepting = t.before;
        there = t.there;
        reply = t.how.reply;
        line = t.how.line ∙ (λ i. lines.Accepted server (sym me i) (sym under i) (sym number i) t.how.reply);
        arrived = record {
          arrival = a.arrival;
          comes = a.comes;
          message = a.message;
          read = a.read;
          who = a.who ∙ sym me;
          under = a.under ∙ sym under;
          number = a.number ∙ sym number;
        };
        sending = v.step;
        before_sending = v.before;
        sent = was_sent o T server a.message a.arrival.from was.entry was.whom (ap (λ (y : Acceptance). y.message) (sym only) ∙ was.message)
            (ap (λ (y : Acceptance). y.from) (sym only) ∙ found.1.from ∙ ap (address_at o.config) its) v;
        of = was.of;
      })

-- a count stays counted
stays_counted : (line : Line) (node server : ℕ) (old : List Acknowledged) (x : Acknowledged) → Contains old x → Contains (counted_nonces_after line node server old) x
stays_counted (lines.Counted router other part key nonce) node server old x has = by (router == node && other == server)
  where
    by : (b : Bool) → Contains (if b then record { part = part; key = key; nonce = nonce } ∷ old else old) x
    by true = in_tail (record { part = part; key = key; nonce = nonce }) old x has
    by false = has
stays_counted _ node server old x has = has

-- and each line of a count adds what it counts
counts_in : (T : List Step) (s : Step) (before : List Step) → IsIn T s before → (node server part key nonce : ℕ) → s.line ≡ lines.Counted node server part key nonce
    → Contains (counted_nonces T node server) (record { part = part; key = key; nonce = nonce })
counts_in T s before there node server part key nonce is =
    goes_up (λ (U : List Step). Contains (counted_nonces U node server) its) (λ y U has. stays_counted y.line node server (counted_nonces U node server) its has) T s before there
    (subst (λ (xs : List Acknowledged). Contains xs its) (sym adds) (at_head its (counted_nonces before node server)))
  where
    its : Acknowledged
    its = record { part = part; key = key; nonce = nonce }

    adds : counted_nonces (s ∷ before) node server ≡ its ∷ counted_nonces before node server
    adds =
        ap (λ (line : Line). counted_nonces_after line node server (counted_nonces before node server)) is
        ∙ ap (λ (b : Bool). if b && server == server then its ∷ counted_nonces before node server else counted_nonces before node server) (same_number node)
        ∙ ap (λ (b : Bool). if b then its ∷ counted_nonces before node server else counted_nonces before node server) (same_number server)

-- so each that a router counted was accepted
pub counted_were_accepted : (o : Opening) (T : List Step) → LegalTrace o T → IsNetwork o.config → AcceptedWasSent o T → schedules.CountedWasAccepted o T → CountedWereAccepted o T
counted_were_accepted o T legal network sent all s before there node server part key nonce is =
    counted o T legal network sent node server part key nonce (all node server (record { part = part; key = key; nonce = nonce }) (counts_in T s before there node server part key nonce is))

-- what is done was noticed
pub done_was_noticed : (o : Opening) (T : List Step) → OfEachStep (schedules.DoneWasNoticed o) T → DoneWasNoticed o T
done_was_noticed o T each s before there server nonce router is =
    let told = each_at (schedules.DoneWasNoticed o) T each s before there server nonce router is in
    record { step = told.0; before = told.3; node = told.1; who = told.5; datagram = told.2; line = told.4 }
