-- A Map-Server sends a notice again: each network that has it takes the event, and no other notice comes to be due.
use Rattle.std.proofs.Common.{Global, ◌≡◌, ℕ, ◌+◌, ◌<◌, Bool, true, false, true≢false, List, length, Option, Some, None, Result, Ok, Err, refl, sym, ap, subst, ◌∙◌, arith}
use Rattle.std.specs.Prelude.{◌-◌, nat_le, nat_lt, slice_get}
use Rattle.std.specs.Option.{unwrap_or}
use Rattle.std.proofs.lemmas.Bool.{and_parts, leb-true, ltb-true}
use Rattle.std.proofs.lemmas.Option.{slice_get-get_or, slice_get_within}
use Rattle.lisp_records.specs.declared.address.Addr.{Addr}
use Rattle.lisp_records.specs.declared.router.RouterId.{RouterId}
use Rattle.lisp_records.specs.Router.{router_eq}
use Rattle.lisp_records.proofs.RouterLaws.{router_eq-Decides}
use Rattle.lisp_policy.specs.Configuration.{ConfigValue, RouterEntryValue}
use Rattle.lisp_admission.specs.declared.notice_fault.NoticeFault.{NoticeFault}
use Rattle.lisp_server.specs.Notices.{StandingNoticeValue, notice_at, is_due_at, Resends}
use Rattle.lisp_model.specs.declared.event.Event.TheVariants as events
use Rattle.lisp_model.specs.Trace.{EventValue, Step, Opening, router_at}
use Rattle.lisp_model.specs.Timers.{notices, notice_to}
use Rattle.lisp_model.proofs.CleanLemmas.{in_find}
use Rattle.lisp_refinement.specs.World.{ServerNodeState, RouterNodeState, WorldState}
use Rattle.lisp_refinement.specs.Events.{address_of, ChangesNoticesAlone, NodeResends, SaysResendAnswer}
use Rattle.lisp_refinement.specs.Stands.{Stands}
use Rattle.lisp_refinement.proofs.NoticeParts.{its_router, kept_stands}
use Rattle.lisp_refinement.proofs.Gets.{get_within}
use Rattle.lisp_server.proofs.StandingLaws.{notice_held}
use Rattle.lisp_turns.specs.Act.{ActValue, numbered}
use Rattle.lisp_turns.specs.Acts.{Does, DoesOne, datagrams}
use Rattle.lisp_turns.specs.Due.{ResendsDue}
use Rattle.lisp_turns.specs.Made.{IsResent}
use Rattle.lisp_turns.specs.Node.{Server, IsPlaced}
use Rattle.lisp_turns.specs.Serving.{number_of, resend_act}
use Rattle.lisp_turns.proofs.NoticedRouters.{IsConfigured, configured}
use Rattle.lisp_turns.proofs.ServingPlaces.{FirstPlace, first, router_is_at}

-- the router of a network that has an identity, by its number
pub record HasRouter (w : WorldState) (number : ℕ) (me : RouterId) : Type 0 where
  pub place : ℕ
  pub is : number ≡ length w.servers + place
  pub node : RouterNodeState
  pub there : slice_get w.routers place ≡ Some node
  pub its : node.me ≡ me

module _ (w : WorldState) (o : Opening) (T : List Step) (stand : Stands w o T) (me : RouterId) where
  -- each router that is configured is there
  at_place : FirstPlace (λ (r : RouterEntryValue). router_eq r.me me) o.config.routers → HasRouter w (number_of o.config me) me
  at_place f = let node = get_within w.routers f.place (omega (arith, slice_get_within o.config.routers f.place f.element f.there, stand.steps.routers)) in record {
    place = f.place;
    is = ap (λ (p : Option ℕ). length o.config.servers + unwrap_or p (length o.config.routers)) f.is ∙ ap (λ (n : ℕ). n + f.place) (sym stand.steps.servers);
    node = node.0;
    there = node.1;
    its = (stand.routers f.place node.0 node.1).me ∙ ap (λ (r : RouterEntryValue). r.me) (router_is_at o.config (length o.config.servers + f.place) f.place f.element refl f.there) ∙ (router_eq-Decides f.element.me me).0 f.passes;
  }

  has_router : IsConfigured o me → HasRouter w (number_of o.config me) me
  has_router c =
      let parts = and_parts (nat_le (length o.config.servers) c.number) (nat_lt c.number (length o.config.servers + length o.config.routers)) c.kind in
      let high = leb-true (length o.config.servers) c.number parts.0 in
      let low = ltb-true c.number (length o.config.servers + length o.config.routers) parts.1 in
      let within : c.number - length o.config.servers < length o.config.routers = omega (arith, high, low) in
      at_place (first (λ (r : RouterEntryValue). router_eq r.me me) o.config.routers (c.number - length o.config.servers) (router_at o.config c.number)
      (slice_get-get_or o.config.routers (c.number - length o.config.servers) _ within) ((router_eq-Decides (router_at o.config c.number).me me).1 c.is))

  -- so is each router to which a notice stands
  module _ (number : ℕ) (n : ServerNodeState) (has : slice_get w.servers number ≡ Some n) where
    stood : (kept : Option StandingNoticeValue) → notice_at n.core.notices me ≡ kept → (now : ℕ) → is_due_at now kept ≡ true → IsConfigured o me
    stood None is now due = absurd (true≢false (sym due))
    stood (Some kept) is now due =
        let x = kept_stands o T number (notice_to o T number me) (notice_at n.core.notices me) kept ((stand.servers number n has).notices me) is in
        subst (IsConfigured o) (its_router me (notices o T number) x.0 x.1)
        (configured o T stand.steps.legal number x.0 (in_find (λ y. router_eq y.router me) (notices o T number) x.0 x.1))

    pub notified : (now : ℕ) → is_due_at now (notice_at n.core.notices me) ≡ true → HasRouter w (number_of o.config me) me
    notified now due = has_router (stood (notice_at n.core.notices me) refl now due)

module _ (config : ConfigValue) (number now : ℕ) (old new : ServerNodeState) (me : RouterId) (answer : Result (Addr × List ℕ) NoticeFault) (act : ActValue)
    (rest : ChangesNoticesAlone old new) (resends : NodeResends old new now me answer) (due : is_due_at now (notice_at old.core.notices me) ≡ true) (is : act ≡ resend_act number (number_of config me) answer) where
  -- its line and its datagram, in a network
  says : (w : WorldState) (a : Result (Addr × List ℕ) NoticeFault) → act ≡ resend_act number (number_of config me) a
      → SaysResendAnswer w number (number_of config me) a (numbered (length w.bag) act.line) (datagrams (address_of w number) act.message)
  says w (Ok sent) its = (ap (λ (a : ActValue). numbered (length w.bag) a.line) its, ap (λ (a : ActValue). datagrams (address_of w number) a.message) its)
  says w (Err fault) its = (ap (λ (a : ActValue). numbered (length w.bag) a.line) its, ap (λ (a : ActValue). datagrams (address_of w number) a.message) its)

  resend_does : Does Global config number (Server old) (Server new) now (events.Resend number (number_of config me)) act
  resend_does w o T stand same has clock =
      let r = subst (λ (c : ConfigValue). HasRouter w (number_of c me) me) same (notified w o T stand me number old has now due) in
      record {
        place = r.place;
        number = r.is;
        node = r.node;
        there = r.there;
        more = datagrams (address_of w number) act.message;
        acts = record { before = old; after = new; was = has; left = refl };
        rest = rest;
        answer = answer;
        resends = subst (λ (p : ℕ × RouterId). NodeResends old new p.0 p.1 answer) (λ i. (sym clock i, sym r.its i)) resends;
        says = says w answer is;
      }

  -- its line has the number 0
  plain : (a : Result (Addr × List ℕ) NoticeFault) → act ≡ resend_act number (number_of config me) a → act.line ≡ numbered 0 act.line
  plain (Ok sent) its = ap (λ (a : ActValue). a.line) its ∙ ap (λ (a : ActValue). numbered 0 a.line) (sym its)
  plain (Err fault) its = ap (λ (a : ActValue). a.line) its ∙ ap (λ (a : ActValue). numbered 0 a.line) (sym its)

  pub resend_does_one : IsPlaced config number (Server old) → DoesOne Global config number (Server old) (Server new) now (events.Resend number (number_of config me)) act
  resend_does_one placed = record {
    does = resend_does;
    made = (refl, (me, refl, answer, resends, rest, is));
    placed = placed;
    plain = plain answer is;
  }

-- a notice that is due then was due before
module _ (old new : ServerNodeState) (now : ℕ) (me router : RouterId) where
  abbrev IsDueIn : ServerNodeState → Type 0
  IsDueIn n = is_due_at now (notice_at n.core.notices router) ≡ true

  -- the router's own was, and the others are as they were
  resent_before : (sent : Addr × List ℕ) → (r : Resends old.core.notices new.core.notices me now sent.0 sent.1) → (b : Bool) → router_eq router me ≡ b → IsDueIn new → IsDueIn old
  resent_before sent r true is due =
      ap (λ (q : RouterId). is_due_at now (notice_at old.core.notices q)) ((router_eq-Decides router me).0 is) ∙ ap (is_due_at now) r.stood ∙ r.due
  resent_before sent r false is due =
      let its = (notice_held old.core.notices me r.notice r.stood).1 in
      ap (is_due_at now) (sym (r.after.others router (λ same. absurd (true≢false (sym ((router_eq-Decides router me).1 (same ∙ its)) ∙ is))))) ∙ due

  due_before : (answer : Result (Addr × List ℕ) NoticeFault) → NodeResends old new now me answer → IsDueIn new → IsDueIn old
  due_before (Ok sent) r due = resent_before sent r (router_eq router me) refl due
  due_before (Err fault) r due = subst IsDueIn r.1 due

pub no_notice_came : (config : ConfigValue) (number : ℕ) (old new : ServerNodeState) (now router : ℕ) (act : ActValue) → IsResent config number (Server old) (Server new) now router act
    → (other : EventValue) → ResendsDue config (Server new) now other → ResendsDue config (Server old) now other
no_notice_came config number old new now router act made (events.Resend server r) (who, is, due) = (who, is, due_before old new now made.0 who made.2 made.3 due)
no_notice_came config number old new now router act made _ due = absurd due
