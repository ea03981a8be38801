-- Calls of a look, one after the other.
use Rattle.std.proofs.Common.{◌≡◌, ℕ, ◌+◌, ◌≤◌, Bool, List, [], ◌∷◌, ◌++◌, Option, Some, None, Result, Ok, Err, is_some, refl, ap, ◌∙◌, append_assoc, arith}
use Rattle.std.specs.Prelude.{◌-◌, ◌<◌, false, IsErrAnd}
use Rattle.std.specs.List.{AllByRecursion}
use Rattle.lisp_records.specs.declared.address.Addr.{Addr}
use Rattle.lisp_requests.specs.Encapsulated.{control_port}
use Rattle.lisp_look.specs.Answer.{AnswerValue}
use Rattle.lisp_look.specs.Asking.{sends_in, IsOfLook, Answers, Awaits, Asks, heard_in, outcome_of}
use Rattle.lisp_look.specs.Look.{LookValue, answers, datagram_of}
use Rattle.lisp_look.specs.Outside.{Call, Sends, Receives, Reads, Reception, Datagram, Log, Logs, logged}
use Rattle.lisp_look.specs.declared.asking.Heard.{Heard}
use Rattle.lisp_look.specs.declared.fault.LookFault.{LookFault}

-- ---- logs

-- nothing was asked
logged_nothing : (log : Log) → log ≡ logged [] log
logged_nothing None = refl
logged_nothing (Some calls) = refl

-- calls after calls
logged_more : (later earlier : List Call) (log : Log) → logged later (logged earlier log) ≡ logged (later ++ earlier) log
logged_more later earlier None = refl
logged_more later earlier (Some calls) = ap (λ (all : List Call). Some all) (simp append_assoc)

then_logged : (later earlier : List Call) (old mid new : Log) → mid ≡ logged earlier old → new ≡ logged later mid → new ≡ logged (later ++ earlier) old
then_logged later earlier old mid new first second = second ∙ ap (λ (log : Log). logged later log) first ∙ logged_more later earlier old

-- ---- what they are

sends_more : (later earlier : List Call) → sends_in (later ++ earlier) ≡ sends_in later + sends_in earlier
sends_more [] earlier = omega arith
sends_more (Sends _ _ _ _ ∷ later) earlier = omega (arith, sends_more later earlier)
sends_more (Receives _ _ ∷ later) earlier = sends_more later earlier
sends_more (Reads _ ∷ later) earlier = sends_more later earlier

each_more : (P : Call → Type 0) (later earlier : List Call) → AllByRecursion P later → AllByRecursion P earlier → AllByRecursion P (later ++ earlier)
each_more P [] earlier ls es = es
each_more P (call ∷ later) earlier ls es = (ls.0, each_more P later earlier ls.1 es)

-- where nothing was sent
none_sent : (look : LookValue) (server : Addr) (calls : List Call) → sends_in calls ≡ 0 → AllByRecursion (IsOfLook look server) calls
none_sent look server [] h = tt
none_sent look server (Sends _ _ _ _ ∷ calls) h = absurd (omega (arith, h))
none_sent look server (Receives _ _ ∷ calls) h = (tt, none_sent look server calls h)
none_sent look server (Reads _ ∷ calls) h = (tt, none_sent look server calls h)

-- what was received last stays so where more was asked before
told_more : (look : LookValue) (started : ℕ) (later earlier : List Call) (outcome : Option AnswerValue) → Answers look started later outcome → Answers look started (later ++ earlier) outcome
told_more look started later earlier None told = tt
told_more look started later earlier (Some answer) told = record {
  now = told.now;
  wait = told.wait;
  bytes = told.bytes;
  earlier = told.earlier ++ earlier;
  newest = ap (λ (calls : List Call). calls ++ earlier) told.newest;
  ms = told.ms;
  reply = told.reply;
}

-- ---- waiting

module _ (look : LookValue) (started : ℕ) where
  pub awaits_nothing : (log : Log) → Awaits look started log log None
  awaits_nothing log = record { calls = []; log = logged_nothing log; none = refl; told = tt }

  pub awaits_read : (old new : Log) (now : ℕ) → Logs old new (Reads now) → Awaits look started old new None
  awaits_read old new now logs = record { calls = Reads now ∷ []; log = logs; none = refl; told = tt }

  pub awaits_received : (old new : Log) (wait : ℕ) (what : Reception) → Logs old new (Receives wait what) → Awaits look started old new None
  awaits_received old new wait what logs = record { calls = Receives wait what ∷ []; log = logs; none = refl; told = tt }

  -- what answers is received, and then the clock is read
  pub awaits_answer : (old mid new : Log) (wait now : ℕ) (bytes : List ℕ) (answer : AnswerValue) → Logs old mid (Receives wait (Datagram answer.from bytes)) → Logs mid new (Reads now) → answer.ms ≡ now - started → answers look bytes ≡ Some answer.reply
      → Awaits look started old new (Some answer)
  awaits_answer old mid new wait now bytes answer received read ms reply = record {
    calls = Reads now ∷ Receives wait (Datagram answer.from bytes) ∷ [];
    log = then_logged (Reads now ∷ []) (Receives wait (Datagram answer.from bytes) ∷ []) old mid new received read;
    none = refl;
    told = record { now = now; wait = wait; bytes = bytes; earlier = []; newest = refl; ms = ms; reply = reply };
  }

  pub awaits_more : (old mid new : Log) (outcome : Option AnswerValue) → Awaits look started old mid None → Awaits look started mid new outcome → Awaits look started old new outcome
  awaits_more old mid new outcome first second = record {
    calls = second.calls ++ first.calls;
    log = then_logged second.calls first.calls old mid new first.log second.log;
    none = sends_more second.calls first.calls ∙ omega (arith, first.none, second.none);
    told = told_more look started second.calls first.calls outcome second.told;
  }

  -- the same where a fault is passed on
  pub heard_fault : {A : Type 0} (old new : Log) (r : Result (Heard A) LookFault) (e : LookFault) → IsErrAnd r (λ f. f ≡ e) → Awaits look started old new None → Awaits look started old new (heard_in r)
  heard_fault old new (Ok x) e passes awaits = absurd passes
  heard_fault old new (Err f) e passes awaits = awaits

  pub awaits_fault : (old new : Log) (r : Result (Option AnswerValue) LookFault) (e : LookFault) → IsErrAnd r (λ f. f ≡ e) → Awaits look started old new None → Awaits look started old new (outcome_of r)
  awaits_fault old new (Ok x) e passes awaits = absurd passes
  awaits_fault old new (Err f) e passes awaits = awaits

-- ---- sending

module _ (look : LookValue) (server : Addr) (started : ℕ) where
  pub asks_nothing : (log : Log) → Asks look server started 0 log log None
  asks_nothing log = record { calls = []; log = logged_nothing log; few = omega arith; each = tt; told = tt }

  pub asks_awaits : (old new : Log) (outcome : Option AnswerValue) → Awaits look started old new outcome → Asks look server started 0 old new outcome
  asks_awaits old new outcome awaits = record {
    calls = awaits.calls;
    log = awaits.log;
    few = omega (arith, awaits.none);
    each = none_sent look server awaits.calls awaits.none;
    told = awaits.told;
  }

  pub asks_once : (old new : Log) (taken : Bool) → Logs old new (Sends server control_port (datagram_of look) taken) → Asks look server started 1 old new None
  asks_once old new taken logs = record {
    calls = Sends server control_port (datagram_of look) taken ∷ [];
    log = logs;
    few = omega arith;
    each = ((refl, refl, refl), tt);
    told = tt;
  }

  pub asks_more : (most more : ℕ) (old mid new : Log) (outcome : Option AnswerValue) → Asks look server started most old mid None → Asks look server started more mid new outcome → Asks look server started (most + more) old new outcome
  asks_more most more old mid new outcome first second = record {
    calls = second.calls ++ first.calls;
    log = then_logged second.calls first.calls old mid new first.log second.log;
    few = rw (sends_more second.calls first.calls) (omega (arith, first.few, second.few));
    each = each_more (IsOfLook look server) second.calls first.calls second.each first.each;
    told = told_more look started second.calls first.calls outcome second.told;
  }

  pub asks_within : (most more : ℕ) (old new : Log) (outcome : Option AnswerValue) → most ≤ more → Asks look server started most old new outcome → Asks look server started more old new outcome
  asks_within most more old new outcome le asks = record {
    calls = asks.calls;
    log = asks.log;
    few = omega (arith, asks.few, le);
    each = asks.each;
    told = asks.told;
  }

  -- the same where a fault is passed on
  pub asks_fault : (most : ℕ) (old new : Log) (r : Result (Option AnswerValue) LookFault) (e : LookFault) → IsErrAnd r (λ f. f ≡ e) → Asks look server started most old new None → Asks look server started most old new (outcome_of r)
  asks_fault most old new (Ok x) e passes asks = absurd passes
  asks_fault most old new (Err f) e passes asks = asks

  -- one more try of so many
  pub tries_more : (count tries : ℕ) (old mid new : Log) (outcome : Option AnswerValue) → count < tries → Asks look server started count old mid None → Asks look server started 1 mid new outcome → Asks look server started tries old new outcome
  tries_more count tries old mid new outcome lt first second =
      asks_within (count + 1) tries old new outcome (omega (arith, lt)) (asks_more count 1 old mid new outcome first second)

-- where there is no answer
pub is_none : {X : Type 0} (o : Option X) → is_some o ≡ false → o ≡ None
is_none None is = refl
is_none (Some x) is = absurd (cc)
