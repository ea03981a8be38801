-- What a look asks of its socket and its clock, and what comes of it (RFC 9301 sections 5.3 and 8.3).
use Rattle.std.specs.Prelude.{◌≡◌, ℕ, suc, ◌-◌, ◌≤◌, List, [], ◌∷◌, Option, Some, None, Result, Ok, Err}
use Rattle.std.specs.List.{AllByRecursion}
use Rattle.lisp_records.specs.declared.address.Addr.{Addr}
use Rattle.lisp_requests.specs.Encapsulated.{control_port}
use Rattle.lisp_look.specs.Answer.{AnswerValue}
use Rattle.lisp_look.specs.Look.{LookValue, answers, datagram_of}
use Rattle.lisp_look.specs.Outside.{Call, Sends, Receives, Reads, Datagram, Log, Logs, logged}
use Rattle.lisp_look.specs.declared.asking.Heard.{Heard}
use Rattle.lisp_look.specs.declared.asking.Heard.TheVariants as heard

-- how many datagrams were sent
abbrev pub sends_in : List Call → ℕ
sends_in [] = 0
sends_in (Sends _ _ _ _ ∷ calls) = suc (sends_in calls)
sends_in (Receives _ _ ∷ calls) = sends_in calls
sends_in (Reads _ ∷ calls) = sends_in calls

-- what is sent is the look's Encapsulated Map-Request, to the Map-Server and the port of LISP control messages
abbrev pub IsOfLook : LookValue → Addr → Call → Type 0
IsOfLook look server (Sends to port bytes _) = (to ≡ server) × (port ≡ control_port) × (bytes ≡ datagram_of look)
IsOfLook look server (Receives _ _) = Unit {0}
IsOfLook look server (Reads _) = Unit {0}

-- the last datagram that was received answers the look; then the clock was read
pub record IsReceived (look : LookValue) (started : ℕ) (calls : List Call) (answer : AnswerValue) : Type 0 where
  pub now : ℕ
  pub wait : ℕ
  pub bytes : List ℕ
  pub earlier : List Call
  pub newest : calls ≡ Reads now ∷ Receives wait (Datagram answer.from bytes) ∷ earlier
  pub ms : answer.ms ≡ now - started
  pub reply : answers look bytes ≡ Some answer.reply

abbrev pub Answers : LookValue → ℕ → List Call → Option AnswerValue → Type 0
Answers look started calls None = Unit {0}
Answers look started calls (Some answer) = IsReceived look started calls answer

-- nothing was sent, and this came
pub record Awaits (look : LookValue) (started : ℕ) (old new : Log) (outcome : Option AnswerValue) : Type 0 where
  pub calls : List Call
  pub log : new ≡ logged calls old
  pub none : sends_in calls ≡ 0
  pub told : Answers look started calls outcome

-- so many datagrams at most were sent, each the look's, and this came
pub record Asks (look : LookValue) (server : Addr) (started most : ℕ) (old new : Log) (outcome : Option AnswerValue) : Type 0 where
  pub calls : List Call
  pub log : new ≡ logged calls old
  pub few : sends_in calls ≤ most
  pub each : AllByRecursion (IsOfLook look server) calls
  pub told : Answers look started calls outcome

-- the clock was read before
pub record AsksFirst (look : LookValue) (server : Addr) (most : ℕ) (old new : Log) (outcome : Option AnswerValue) : Type 0 where
  pub started : ℕ
  pub mid : Log
  pub read : Logs old mid (Reads started)
  pub asks : Asks look server started most mid new outcome

-- what a function that may fail answers
abbrev pub outcome_of : {E : Type 0} → Result (Option AnswerValue) E → Option AnswerValue
outcome_of (Ok outcome) = outcome
outcome_of (Err _) = None

-- what came of one receive
abbrev pub heard_answer : {A : Type 0} → Heard A → Option AnswerValue
heard_answer (heard.Answered answer) = Some answer
heard_answer heard.Other = None
heard_answer heard.Nothing = None

abbrev pub heard_in : {A E : Type 0} → Result (Heard A) E → Option AnswerValue
heard_in (Ok h) = heard_answer h
heard_in (Err _) = None
