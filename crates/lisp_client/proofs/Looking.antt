-- From the network's contract of what a Map-Server sends to the client's.
use Rattle.std.proofs.Common.{◌≡◌, ◌≢◌, ◌⊎◌, inl, inr, ℕ, ◌≤◌, ◌-◌, nat_le, nat_lt, if◌then◌else◌, Bool, true, false, cond, List, ◌∷◌, Option, None, Result, Ok, Err, refl, sym, ap, subst, ◌∙◌, true≢false, arith}
use Rattle.std.proofs.lemmas.Bool.{and_from, and_parts, leb-true, ltb-true}
use Rattle.std.proofs.lemmas.Bool.Decides.{Decides-eqb, Decides-ltb}
use Rattle.std.specs.Prelude.{◌==◌, IfNone, IfOk, IfSome, OnErr}
use Rattle.std.specs.List.{Contains}
use Rattle.std.specs.Result.{result_ok}
use Rattle.std.specs.declared.cmp.Ordering.{Ordering}
use Rattle.std.specs.declared.cmp.Ordering.TheVariants.{Less, Equal, Greater}
use Rattle.std.specs.Ordering.{nat_cmp, bool_cmp, ordering_then}
use Rattle.lisp_records.specs.declared.address.Addr.{Addr}
use Rattle.lisp_records.proofs.AddressLemmas.{cleared-wider}
use Rattle.lisp_records.specs.Address.{PrefixValue, addr_eq, covers, holds, max_len}
use Rattle.lisp_records.specs.Record.{MapRecordValue}
use Rattle.lisp_records.specs.Router.{router_cmp}
use Rattle.lisp_records.specs.Row.{RowValue, is_alive}
use Rattle.lisp_policy.specs.Configuration.{ConfigValue}
use Rattle.lisp_lookup.specs.Answer.{IsBest, may_answer, rank_cmp}
use Rattle.lisp_lookup.specs.Covering.{IsBestFor, alone}
use Rattle.lisp_lookup.specs.Replies.{IsLongest, record_of}
use Rattle.lisp_lookup.proofs.BestLaws.{for_address}
use Rattle.lisp_replies.specs.Kept.{IsKept, IsKeptNone}
use Rattle.lisp_replies.specs.Reply.{is_held_back, is_starting}
use Rattle.lisp_replies.specs.declared.reply.Reply.{Reply}
use Rattle.lisp_replies.specs.declared.reply.Reply.TheVariants.{Records, Negative, Forward, Silent}
use Rattle.lisp_model.specs.Trace.{EventValue, Step, Opening, sites, clock, is_server}
use Rattle.lisp_model.specs.Held.{rows}
use Rattle.lisp_model.specs.Bag.{since_start}
use Rattle.lisp_model.specs.Life.{began}
use Rattle.lisp_model.specs.Clean.{Clean}
use Rattle.lisp_model.specs.Reply.{IsReplyOf}
use Rattle.lisp_model.specs.Legal.{LegalTrace}
use Rattle.lisp_refinement.specs.World.{WorldState}
use Rattle.lisp_refinement.specs.Nodes.{server_at}
use Rattle.lisp_refinement.specs.Replied.{IsSentRecord, IsPromisedReply, IsPromised, GoesOn}
use Rattle.lisp_client.specs.Answers.{HasRun}
use Rattle.lisp_client.specs.Looked.{HasAddress, IsLongestRow, SaysOf, SaysOfLongest, AreLooked, IsNegative, IsSentOn, IsYoung, SaysSo, IsLooked, IsNoServer}
use Rattle.lisp_client.proofs.Promise.{server_missing}
use Rattle.lisp_client.proofs.Rows.{registered}

-- what isn't greater by its rank has no longer prefix
rank_case : (less equal : Bool) (one two three : Ordering) → ordering_then (ordering_then (ordering_then (cond less Less (cond equal Equal Greater)) one) two) three ≢ Greater → (less ≡ true) ⊎ (equal ≡ true)
rank_case true equal one two three low = inl refl
rank_case false true one two three low = inr refl
rank_case false false one two three low = absurd (low refl)

no_more : (a b : ℕ) → (nat_lt a b ≡ true) ⊎ ((a == b) ≡ true) → a ≤ b
no_more a b (inl less) = (let lt = ltb-true a b less in omega (arith, lt))
no_more a b (inr same) = (let is = (Decides-eqb a b).0 same in omega (arith, is))

no_longer : (a b : RowValue) → rank_cmp a b ≢ Greater → a.mapping.eid.mask_len ≤ b.mapping.eid.mask_len
no_longer a b low =
    no_more a.mapping.eid.mask_len b.mapping.eid.mask_len
    (rank_case (nat_lt a.mapping.eid.mask_len b.mapping.eid.mask_len) (a.mapping.eid.mask_len == b.mapping.eid.mask_len) (bool_cmp a.proxy b.proxy) (nat_cmp a.accepted b.accepted) (router_cmp a.router b.router) low)

-- which of two it is
first_one : {X : Type 0} (b : Bool) (x y : X) → b ≡ true → (if b then x else y) ≡ x
first_one true x y is = refl
first_one false x y is = absurd (true≢false (sym is))

second_one : {X : Type 0} (b : Bool) (x y : X) → b ≡ false → (if b then x else y) ≡ y
second_one true x y is = absurd (true≢false is)
second_one false x y is = refl

-- a record is that of a row
says_of : (r : MapRecordValue) (row : RowValue) → r ≡ record_of r.ttl r.eid row → SaysOf r row
says_of r row is = by row.proxy refl
  where
    by : (b : Bool) → row.proxy ≡ b → SaysOf r row
    by true proxy = inl (proxy, is ∙ first_one row.proxy _ _ proxy)
    by false proxy =
        let none = is ∙ second_one row.proxy _ _ proxy in
        inr (proxy, ap (λ (x : MapRecordValue). x.act) none, ap (λ (x : MapRecordValue). x.locators) none)

-- a prefix that covers that of an address alone has the address
alone_has : (addr : Addr) (eid : PrefixValue) → eid.mask_len ≤ max_len addr → holds eid (alone addr).addr ≡ true → holds eid addr ≡ true
alone_has addr eid le has = ap (λ (a : Addr). addr_eq a eid.addr) (sym (cleared-wider addr (max_len addr) eid.mask_len le)) ∙ has

-- what the Map-Server of a trace holds
module _ (o : Opening) (T : List Step) (server : ℕ) where
  abbrev held : List RowValue
  held = rows (since_start o T server) (clock T)

  -- a row may answer for an address where it is alive and has it
  has_address : (addr : Addr) (row : RowValue) → Contains held row → may_answer addr (clock T) row ≡ true → HasAddress o T server addr row
  has_address addr row there may =
      let parts = and_parts (is_alive row (clock T)) (holds row.mapping.eid addr) may in
      record { held = there; alive = (Decides-ltb (clock T - row.accepted) row.life).0 parts.0; has = parts.1 }

  may_answer_by : (addr : Addr) (row : RowValue) → HasAddress o T server addr row → may_answer addr (clock T) row ≡ true
  may_answer_by addr row its = and_from (is_alive row (clock T)) (holds row.mapping.eid addr) ((Decides-ltb (clock T - row.accepted) row.life).1 its.alive) its.has

  longest_row : (addr : Addr) (row : RowValue) → IsBest held addr (clock T) row → IsLongestRow o T server addr row
  longest_row addr row best = record {
    its = has_address addr row best.held best.may;
    longest = λ other its. no_longer other row (best.most other its.held (may_answer_by addr other its));
  }

  says_of_longest : LegalTrace o T → (addr : Addr) (r : MapRecordValue) → IsSentRecord o T server addr r → SaysOfLongest o T server addr r
  says_of_longest legal addr r sent = record {
    row = sent.row;
    longest = longest_row addr sent.row sent.best;
    says = says_of r sent.row sent.is;
    registered = registered o T legal server sent.row sent.send sent.sent;
  }

  -- the row that answers for a prefix, or for its address, has the address
  answering_has : (asked : PrefixValue) (row : RowValue) → IsBestFor held asked (clock T) row ⊎ IsBestFor held (alone asked.addr) (clock T) row → HasAddress o T server asked.addr row
  answering_has asked row (inl best) = has_address asked.addr row best.held (for_address row asked (clock T) best.may)
  answering_has asked row (inr best) =
      let parts = and_parts (is_alive row (clock T)) (covers row.mapping.eid (alone asked.addr)) best.may in
      let covered = and_parts (nat_le row.mapping.eid.mask_len (max_len asked.addr)) (holds row.mapping.eid (alone asked.addr).addr) parts.1 in
      record {
        held = best.held;
        alive = (Decides-ltb (clock T - row.accepted) row.life).0 parts.0;
        has = alone_has asked.addr row.mapping.eid (leb-true row.mapping.eid.mask_len (max_len asked.addr) covered.0) covered.1;
      }

  sent_on : LegalTrace o T → (asked : PrefixValue) (to : Addr) → GoesOn o T server asked to → IsSentOn o T server asked.addr to
  sent_on legal asked to goes = record {
    row = goes.row;
    its = answering_has asked goes.row goes.best;
    no_proxy = goes.no_proxy;
    source = goes.its;
    registered = registered o T legal server goes.row goes.send goes.sent;
  }

  negative : (asked : Addr) (ttl : ℕ) (eid : PrefixValue) → IsKeptNone held (sites o T server) asked (clock T) eid ttl → IsNegative o T server asked eid
  negative asked ttl eid kept = record {
    has = kept.has;
    none = λ addr has row its. true≢false (sym (may_answer_by addr row its) ∙ kept.none addr has row its.held);
  }

  are_looked : LegalTrace o T → (asked : Addr) (records : List MapRecordValue) → IsKept held asked (clock T) records
      → (Clean o T → (first : MapRecordValue) (rest : List MapRecordValue) → records ≡ first ∷ rest → (addr : Addr) → holds first.eid addr ≡ true
      → (r : MapRecordValue) → IsLongest records addr r → IsSentRecord o T server addr r)
      → AreLooked o T server asked records
  are_looked legal asked records kept sent = record {
    first = kept.first;
    rest = kept.rest;
    are = kept.is;
    has = kept.has;
    one = λ addr has. (let one = kept.one addr has in (one.0, record { among = one.1.kept; has = one.1.has; longest = one.1.longest }));
    each = λ clean addr has r is. says_of_longest legal addr r (sent clean kept.first kept.rest kept.is addr has r (record { kept = is.among; has = is.has; longest = is.longest }));
  }

  -- its life is starting where it is young
  module _ (quiet : ℕ) where
    abbrev starting : Bool
    starting = is_starting (began T server) quiet (clock T)

    young : starting ≡ true → IsYoung T server quiet
    young is = ltb-true (clock T - began T server) quiet is

    old : starting ≡ false → IsYoung T server quiet → ⊥
    old is young = true≢false (sym ((Decides-ltb (clock T - began T server) quiet).1 young) ∙ is)

    held_back : (asked : PrefixValue) (row : RowValue) → is_held_back starting (sites o T server) asked row ≡ true → IsYoung T server quiet
    held_back asked row is = young (and_parts starting _ is).0

  module _ {A : Type 0} (legal : LegalTrace o T) (asked : PrefixValue) (quiet : ℕ) where
    abbrev StartsAs : Reply A → Type 0
    StartsAs (Negative hole) = IsYoung T server quiet → ⊥
    StartsAs Silent = IsYoung T server quiet
    StartsAs (Records records) = Unit {0}
    StartsAs (Forward to) = Unit {0}

    starts_as : (reply : Reply A) → IsReplyOf o T server asked quiet reply → StartsAs reply
    starts_as (Negative hole) (inl never) = absurd never
    starts_as (Negative hole) (inr (none, inl never)) = absurd never
    starts_as (Negative hole) (inr (none, inr (started, is_hole, ttl))) = old quiet started
    starts_as Silent (inl (row, best, proxy, is)) = held_back quiet asked row is
    starts_as Silent (inr (none, inl (row, best, proxy, is))) = held_back quiet (alone asked.addr) row is
    starts_as Silent (inr (none, inr (starts, nobody))) = young quiet starts
    starts_as (Records records) is = tt
    starts_as (Forward to) is = tt

    says_so : (reply : Reply A) → IsPromisedReply o T server asked quiet reply → SaysSo o T server asked.addr quiet reply
    says_so (Records records) is = are_looked legal asked.addr records is.kept is.sent
    says_so (Negative hole) is = (negative asked.addr hole.ttl hole.eid is.kept, starts_as (Negative hole) is.is)
    says_so (Forward to) is = λ clean. sent_on legal asked to (is.sent clean)
    says_so Silent is = starts_as Silent is.is

-- what a network that took the events sends is as promised
pub is_looked : {A : Type 0} (c : ConfigValue) (events : List EventValue) (w : WorldState) → HasRun c events w → (server : ℕ) (asked : PrefixValue) (quiet : ℕ) (reply : Reply A)
    → IsPromised w server asked quiet reply → IsLooked c events server asked.addr quiet reply
is_looked c events w ran server asked quiet reply promised = record {
  opening = ran.opening;
  config = ran.config;
  nothing_kept = ran.nothing_kept;
  trace = ran.trace;
  legal = ran.stands.steps.legal;
  events_are = ran.events_are;
  says = says_so ran.opening ran.trace server ran.stands.steps.legal asked quiet reply (promised ran.opening ran.trace ran.stands);
}

-- or no Map-Server has the number
pub no_server : (c : ConfigValue) (events : List EventValue) (w : WorldState) → HasRun c events w → (server : ℕ) → server_at w server ≡ None → IsNoServer c events server
no_server c events w ran server none = record {
  network = w;
  ran = ran;
  missing = subst (λ (d : ConfigValue). is_server d server ≡ false) ran.config (server_missing w ran.opening ran.trace ran.stands server none);
}

-- what is so of a result is so of its value, and of its fault
pub ok_some : {X F : Type 0} (r : Result X F) (o : Option X) (P Q : X → Type 0) → o ≡ result_ok r → ((x : X) → P x → Q x) → IfOk r P → IfSome o Q
ok_some {X = X} (Ok x) o P Q is follows holds = subst (λ (o : Option X). IfSome o Q) (sym is) (follows x holds)
ok_some {X = X} (Err fault) o P Q is follows holds = subst (λ (o : Option X). IfSome o Q) (sym is) tt

pub err_none : {X F : Type 0} (r : Result X F) (o : Option X) (P Q : Type 0) → o ≡ result_ok r → (P → Q) → OnErr r P → IfNone o Q
err_none {X = X} (Ok x) o P Q is follows holds = subst (λ (o : Option X). IfNone o Q) (sym is) tt
err_none {X = X} (Err fault) o P Q is follows holds = subst (λ (o : Option X). IfNone o Q) (sym is) (follows holds)
