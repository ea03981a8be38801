-- What a call from C is told of the rows that a Map-Server holds, and of who answers for an address.
use Rattle.std.specs.Prelude.{◌≡◌, ℕ, ◌+◌, ◌-◌, ◌^◌, min, nat_lt, List, [], length, replicate, Option, Some, None, if◌then◌else◌}
use Rattle.std.specs.Global.{Global}
use Rattle.std.specs.Option.{MatchOption}
use Rattle.lisp_records.specs.declared.address.Addr.{Addr}
use Rattle.lisp_records.specs.declared.locator.Locator.{Locator}
use Rattle.lisp_records.specs.Record.{MapRecordValue, bit}
use Rattle.lisp_records.specs.Row.{RowValue}
use Rattle.lisp_lookup.specs.declared.answer.Answer.{Answer}
use Rattle.lisp_lookup.specs.declared.answer.Answer.TheVariants.{NoSite, NotRegistered, Reply, Forward}
use Rattle.lisp_lookup.specs.Answer.{Answers}
use Rattle.lisp_lookup.specs.Table.{IsNextLive, live_from}
use Rattle.lisp_server.specs.Server.{ServerState}
use Rattle.lisp_embedded.specs.declared.hosted.HostedServer.{HostedServer}
use Rattle.lisp_registration.specs.declared.address.PlainAddress.{PlainAddress}
use Rattle.lisp_registration.specs.declared.held.PlainAnswer.{PlainAnswer}
use Rattle.lisp_registration.specs.declared.fault.HandleFault.TheVariants as faults
use Rattle.lisp_registration.specs.declared.record.PlainLocator.{PlainLocator}
use Rattle.lisp_registration.specs.declared.held.PlainRow.{PlainRow}
use Rattle.lisp_registration.specs.Fault.{handle_fault_number}
use Rattle.lisp_registration.specs.Meaning.{address_in}
use Rattle.lisp_registration.specs.Plain.{no_address, no_record, plain_address, plain_locators, plain_mapping}
use Rattle.lisp_registration.specs.Told.{put_in}

-- locators with others in front of them
abbrev pub with_front : List Locator → List PlainLocator → List PlainLocator
with_front ls locators = (put_in (plain_locators ls) locators).1

-- ---- the next row

abbrev pub plain_row : RowValue → PlainRow
plain_row h = record {
  nonce = h.nonce;
  site = h.router.site;
  accepted = h.accepted;
  life = h.life;
  xtr = h.router.xtr;
  from = plain_address h.from;
  key_id = h.key;
  proxy = bit h.proxy;
  is_there = 1;
  mapping = plain_mapping h.mapping;
}

abbrev pub no_row : PlainRow
no_row = record { nonce = 0; site = 0; accepted = 0; life = 0; xtr = replicate 16 0; from = no_address; key_id = 0; proxy = 0; is_there = 0; mapping = no_record }

-- the first row from a place on that is alive, with its place; or there is none
abbrev pub IsFound : List RowValue → ℕ → ℕ → Option (ℕ × RowValue) → Type 0
IsFound rows place now (Some found) = IsNextLive rows place now found.0 found.1
IsFound rows place now None = live_from rows place now ≡ []

-- what a call for a row leaves but the handle: the number, the place, the row and the locators
abbrev pub RowLeft : Type 0
RowLeft = ℕ × (ℕ × (PlainRow × List PlainLocator))

-- the place behind one; no list has 2^64 rows
abbrev pub next_place : ℕ → ℕ
next_place found = min (found + 1) (2 ^ 64 - 1)

-- what a row leaves that was found; or nothing was found
abbrev pub told_row : Option (ℕ × RowValue) → ℕ → PlainRow → List PlainLocator → RowLeft
told_row None place row locators = (0, (place, (no_row, locators)))
told_row (Some found) place row locators =
    if nat_lt (length locators) (length found.1.mapping.locators) then (handle_fault_number faults.Room, (place, (row, locators)))
    else (0, (next_place found.0, (plain_row found.1, with_front found.1.mapping.locators locators)))

-- what the first live row from a place on leaves
abbrev pub TellsNext : List RowValue → ℕ → ℕ → PlainRow → List PlainLocator → RowLeft → Type 0
TellsNext rows now place row locators left = (found : Option (ℕ × RowValue)) × IsFound rows place now found × (left ≡ told_row found place row locators)

-- the same of the rows of the Map-Server that a handle holds
abbrev pub LeavesRow : ℕ → Option HostedServer → ℕ → PlainRow → List PlainLocator → RowLeft → Type 0
LeavesRow now held place row locators left = MatchOption held (left ≡ (handle_fault_number faults.Null, (place, (row, locators)))) (λ hosted. TellsNext hosted.server.rows now place row locators left)

-- what a call for the next row leaves; the Map-Server is as it was
abbrev pub TellsRow : ℕ → Option HostedServer → ℕ → PlainRow → List PlainLocator → ℕ → Option HostedServer → ℕ → PlainRow → List PlainLocator → Type 0
TellsRow now old place row locators number new place' row' locators' = LeavesRow now old place row locators (number, (place', (row', locators'))) × (new ≡ old)

-- ---- who answers for an address

-- an answer that names neither an address nor a record
abbrev pub bare_answer : ℕ → PlainAnswer
bare_answer kind = record { kind = kind; to = no_address; mapping = no_record }

-- the answer with a record
abbrev pub reply_with : MapRecordValue → PlainAnswer
reply_with m = record { kind = 2; to = no_address; mapping = plain_mapping m }

abbrev pub plain_answer : {A : Type 0} → Answer A → PlainAnswer
plain_answer NoSite = bare_answer 0
plain_answer NotRegistered = bare_answer 1
plain_answer (Reply mapping) = reply_with mapping.now
plain_answer (Forward to) = record { kind = 3; to = plain_address to; mapping = no_record }

-- what a call for an answer leaves but the handle: the number, the answer and the locators
abbrev pub AnswerLeft : Type 0
AnswerLeft = ℕ × (PlainAnswer × List PlainLocator)

-- what an answer leaves
abbrev pub told_answer : {A : Type 0} → Answer A → PlainAnswer → List PlainLocator → AnswerLeft
told_answer (Reply mapping) old locators =
    if nat_lt (length locators) (length mapping.now.locators) then (handle_fault_number faults.Room, (old, locators))
    else (0, (reply_with mapping.now, with_front mapping.now.locators locators))
told_answer answer old locators = (0, (plain_answer answer, locators))

-- what the answer of a Map-Server leaves
abbrev pub TellsWho : ServerState → Addr → ℕ → PlainAnswer → List PlainLocator → AnswerLeft → Type 0
TellsWho server addr now old locators left = (answer : Answer Global) × Answers server.rows server.sites addr now answer × (left ≡ told_answer answer old locators)

-- the same where the address is one, and a handle holds a Map-Server
abbrev pub LeavesAnswer : Option Addr → ℕ → Option HostedServer → PlainAnswer → List PlainLocator → AnswerLeft → Type 0
LeavesAnswer address now held answer locators left =
    MatchOption address (left ≡ (handle_fault_number faults.Field, (answer, locators)))
    (λ addr. MatchOption held (left ≡ (handle_fault_number faults.Null, (answer, locators))) (λ hosted. TellsWho hosted.server addr now answer locators left))

-- what a call for an answer leaves; the Map-Server is as it was
abbrev pub TellsAnswer : PlainAddress → ℕ → Option HostedServer → PlainAnswer → List PlainLocator → ℕ → Option HostedServer → PlainAnswer → List PlainLocator → Type 0
TellsAnswer address now old answer locators number new answer' locators' = LeavesAnswer (address_in address) now old answer locators (number, (answer', locators')) × (new ≡ old)
