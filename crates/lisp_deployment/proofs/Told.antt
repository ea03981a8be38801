-- Over a clean trace: of the rows that a Map-Server holds, and of what a router counted, the lines are there.
use Rattle.std.proofs.Common.{◌≡◌, ℕ, List, [], sym, ap, subst, ◌∙◌, arith}
use Rattle.std.specs.Option.{option_map}
use Rattle.std.specs.List.{Contains}
use Rattle.lisp_records.specs.declared.address.Addr.{Addr}
use Rattle.lisp_messages.specs.Message.{MapRegisterValue}
use Rattle.lisp_admission.specs.Pairs.{router_of}
use Rattle.lisp_records.specs.Row.{RowValue}
use Rattle.lisp_policy.specs.Configuration.{ConfigValue}
use Rattle.lisp_lookup.specs.Table.{IsHeld}
use Rattle.lisp_model.specs.declared.line.Line.{Line}
use Rattle.lisp_model.specs.declared.line.Line.TheVariants as lines
use Rattle.lisp_model.specs.Legal.{LegalTrace}
use Rattle.lisp_model.specs.Network.{IsNetwork}
use Rattle.lisp_model.specs.Trace.{Step, Opening}
use Rattle.lisp_model.proofs.Sound.{unique}
use Rattle.lisp_refinement.specs.Headline.{Lists}
use Rattle.lisp_refinement.specs.World.{ServerNodeState, WorldState}
use Rattle.lisp_client.specs.Steps.{WasSent}
use Rattle.lisp_client.proofs.Steps.{stays_accepted, taken_of}
use Rattle.lisp_model.proofs.CleanLaws.{one_router}
use Rattle.lisp_model.proofs.CleanLemmas.{from_map}
use Rattle.lisp_client.proofs.Rows.{entry_of, was_entered, enters, router_sends, registered, agree}
use Rattle.lisp_turns.specs.Act.{numbered}
use Rattle.lisp_turns.specs.Node.{NodeState, Server, HasNode}
use Rattle.lisp_nonces.specs.Store.{StoreState}
use Rattle.lisp_deployment.specs.Deeds.{Deed, DoDeeds}
use Rattle.lisp_deployment.specs.Deployment.{DeploymentState, DeploymentStands}
use Rattle.lisp_deployment.specs.Printed.{all_lines}
use Rattle.lisp_deployment.specs.Told.{Holds, RowWasSent, HeldRowsWereSent, HeldRowsAgree, CountedLinesWereAccepted}
use Rattle.lisp_deployment.proofs.Posting.{WasTold}
use Rattle.lisp_deployment.proofs.Accepting.{AcceptanceIsTold}
use Rattle.lisp_deployment.proofs.Received.{CleanRun, runs_cleanly}
use Rattle.lisp_deployment.proofs.Among.{contains_among}
use Rattle.lisp_deployment.proofs.Printed.{told_lines, deeds_among}

-- a line of a count has no datagram's number
count_is : (line : Line) (node server part key nonce : ℕ) → lines.Counted node server part key nonce ≡ numbered 0 line → line ≡ lines.Counted node server part key nonce
count_is (lines.Sent _ _ _ _ _ _) node server part key nonce e = absurd cc
count_is (lines.Accepted _ _ _ _ _) node server part key nonce e = absurd cc
count_is (lines.Noticed _ _ _ _) node server part key nonce e = absurd cc
count_is (lines.Notice _ _ _ _ _) node server part key nonce e = absurd cc
count_is (lines.Resent _ _ _) node server part key nonce e = absurd cc
count_is _ node server part key nonce e = sym e

pub counted_lines_were_accepted : (A : Type 0) → CountedLinesWereAccepted A
counted_lines_were_accepted A config stores begun d deeds network begins did unforged node server part key nonce has =
    let run = runs_cleanly A config stores begun d deeds network begins did unforged in
    let trace = run.clean.has.trace in
    let at = from_map (λ (s : Step). numbered 0 s.line) trace (lines.Counted node server part key nonce)
    (contains_among (all_lines deeds) (told_lines trace) _ (deeds_among deeds run.first run.clean.has.network run.opening [] trace run.clean.has.are_of) has) in
    subst (λ (c : ConfigValue). AcceptanceIsTold c (all_lines deeds) node server key nonce) run.clean.has.stands.config_is
    (run.all_told.counts_are at.0 at.1 node server part key nonce (count_is at.0.line node server part key nonce at.2))

-- what a Map-Server of the deployment holds that of the network lists
listed : (config : ConfigValue) (d : DeploymentState) (w : WorldState) (o : Opening) (T : List Step) → DeploymentStands config d w o T → (server : ℕ) (held : List RowValue) → Holds config d server held → Lists w server held
listed config d w o T stand server held holds =
    let there : HasNode w server (Server holds.node) = subst (λ (x : NodeState). HasNode w server x) holds.running (stand.nodes server (omega (arith, holds.known))) in
    record { core = holds.node.core; running = ap (option_map (λ (x : ServerNodeState). x.core)) there; held = subst (λ (m : ℕ). IsHeld holds.node.core.rows m held) (sym stand.clock) holds.rows }

-- the line of a Map-Register that a router sent is that of each entry of it which was told
sent_line : (o : Opening) (T : List Step) → LegalTrace o T → IsNetwork o.config → (printed : List Line) (server : ℕ) (message : MapRegisterValue) (from : Addr) (node : ℕ) (s : Step) (before : List Step)
    → WasSent o T server message from node s before → WasTold o T printed message → Contains printed (numbered 0 s.line)
sent_line o T legal network printed server message from node s before sent told =
    let e = told.entry in
    let v = was_entered o T e told.sent in
    let its = entry_of o before node server sent.part message.key_id message.nonce in
    let number : node ≡ e.router = one_router o.config network.routers node e.router
    (router_sends o T legal s before sent.there node server sent.part message.key_id message.nonce sent.datagram sent.line)
    (router_sends o T legal v.step v.before v.there e.router e.server e.part e.key e.nonce v.datagram v.line)
    (ap router_of (sym sent.message_is ∙ told.message)) in
    let same : its ≡ e = unique o T legal e its told.sent (enters o T s before sent.there node server sent.part message.key_id message.nonce sent.datagram sent.line) number
    (ap (λ (m : MapRegisterValue). m.key_id) told.message) (ap (λ (m : MapRegisterValue). m.nonce) told.message) in
    subst (λ (l : Line). Contains printed l)
    ((λ i. lines.Sent (sym same i).router (sym same i).server (sym same i).part (sym same i).key (sym same i).nonce 0) ∙ ap (numbered 0) (sym sent.line)) told.told

its_row : (A : Type 0) (config : ConfigValue) (stores : ℕ → StoreState) (begun d : DeploymentState) (deeds : List Deed) (did : DoDeeds A config deeds begun d) (run : CleanRun A config stores begun d deeds did)
    (server : ℕ) (held : List RowValue) → Holds config d server held → (row : RowValue) → Contains held row
    → RowWasSent run.opening run.clean.has.trace (all_lines deeds) server row
its_row A config stores begun d deeds did run server held holds row has =
    let o = run.opening in
    let trace = run.clean.has.trace in
    let stand = run.clean.has.stands in
    let steps = stand.stands.steps in
    let entry = run.clean.over_clean.listed_was_sent server held (listed config d run.clean.has.network o trace stand server held holds) row has in
    let was = registered o trace steps.legal server row entry.0 entry.1 in
    let a = was.accepted in
    let taken = stays_accepted o trace was.accepting was.before_accepting a.there server row.router row.key row.nonce a.reply a.line a.arrived in
    record {
      was = was;
      accepted = run.all_told.since server was.accepting was.before_accepting a.there row.router row.key row.nonce a.reply a.line a.no_start;
      sent = sent_line o trace steps.legal steps.network (all_lines deeds) server a.arrived.message a.arrived.arrival.from was.node was.sending was.before_sending was.sent
          (run.all_told.accepted_are server (taken_of o was.accepting was.before_accepting row.router row.key row.nonce a.arrived) taken);
    }

pub held_rows_were_sent : (A : Type 0) → HeldRowsWereSent A
held_rows_were_sent A config stores begun d deeds network begins did unforged =
    let run = runs_cleanly A config stores begun d deeds network begins did unforged in
    (run.first, run.opening, run.opens, run.clean, λ server held holds row has. its_row A config stores begun d deeds did run server held holds row has)

pub held_rows_agree : (A : Type 0) → HeldRowsAgree A
held_rows_agree A config stores begun d deeds network begins did unforged =
    let run = runs_cleanly A config stores begun d deeds network begins did unforged in
    let o = run.opening in
    let trace = run.clean.has.trace in
    let w = run.clean.has.network in
    let stand = run.clean.has.stands in (
      run.first,
      o,
      run.opens,
      run.clean,
      λ one other held held_by_other holds holds_too.
          agree w o trace stand.stands.steps.legal stand.stands.steps.network run.clean.over_clean.listed_was_sent run.clean.over_clean.listed_agree one other held held_by_other
          (listed config d w o trace stand one held holds) (listed config d w o trace stand other held_by_other holds_too),
    )
