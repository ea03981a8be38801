-- What a fresh server answers to bytes (RFC 9301 section 8.2).
use Rattle.std.specs.Prelude.{◌≡◌, ◌⊎◌, ℕ, List, Option, Result, Ok, Err, if◌then◌else◌}
use Rattle.lisp_messages.specs.Message.{MapRegisterValue, MessageValue, Registers, Notifies}
use Rattle.lisp_messages.specs.Reading.{HasHead, message_at}
use Rattle.lisp_messages.specs.declared.fault.ReadFault.{ReadFault}
use Rattle.lisp_policy.specs.Site.{SiteValue}
use Rattle.lisp_nonces.specs.declared.fault.StoreFault.TheVariants as faults
use Rattle.lisp_nonces.specs.Memory.{MemoryStoreState}
use Rattle.lisp_server.specs.Server.{ServerState}
use Rattle.lisp_server.specs.Checks.{Passed, register_checked, reply_of}
use Rattle.lisp_admission.specs.declared.refused.Refused.{Refused}
use Rattle.lisp_admission.specs.declared.refused.Refused.TheVariants.{Read, StoreLoad, Full, OutOfMemory, StoreSave, NoNotice, NotMine}
use Rattle.lisp_server.specs.Receiving.{LacksSpace}
use Rattle.lisp_answer.specs.Fresh.{fresh_server, fresh_memory, source}

-- a Map-Notify, or nothing where none is wanted; or a refusal
abbrev pub Answer : Type 0
Answer = Result (Option (List ℕ)) Refused

-- a Map-Register that passes all checks is accepted, since no nonce was accepted before
abbrev pub answer_to : Result Passed Refused → Answer
answer_to (Ok passed) = Ok (reply_of passed.secret passed.message)
answer_to (Err refused) = Err refused

-- a Map-Notify is for routers, and no unsolicited Map-Notify (notice) stands that a Map-Notify-Ack could end
abbrev pub said_answer : List SiteValue → List ℕ → MessageValue → Answer
said_answer sites bytes (Registers m) = answer_to (register_checked sites source bytes m)
said_answer sites bytes (Notifies m) = Err (if m.ack then NoNotice else NotMine)

abbrev pub read_answer : List SiteValue → List ℕ → Result MessageValue ReadFault → Answer
read_answer sites bytes (Ok said) = said_answer sites bytes said
read_answer sites bytes (Err fault) = Err (Read fault)

-- the answer of a fresh server to bytes
abbrev pub answer_of : List SiteValue → List ℕ → Answer
answer_of sites bytes = read_answer sites bytes (message_at bytes)

-- the bytes are a Map-Register that passes all checks
abbrev pub PassesAll : List SiteValue → List ℕ → Type 0
PassesAll sites bytes = (m : MapRegisterValue) × (passed : Passed) × (message_at bytes ≡ Ok (Registers m)) × (register_checked sites source bytes m ≡ Ok passed)

-- memory ran out: here, of a message whose head is read; or in the store, where all checks are passed
abbrev pub RanOut : List SiteValue → List ℕ → Refused → Type 0
RanOut sites bytes OutOfMemory = HasHead bytes
RanOut sites bytes (StoreLoad fault) = (fault ≡ faults.OutOfMemory) × PassesAll sites bytes
RanOut sites bytes (StoreSave fault) = (fault ≡ faults.OutOfMemory) × PassesAll sites bytes
RanOut sites bytes _ = ⊥

-- the bytes are such a Map-Register, and its site has no space for its records alone
unfoldable pub FillsUp : List SiteValue → List ℕ → Refused → Type 0
FillsUp sites bytes (Full site full) = (p : PassesAll sites bytes) × (site ≡ p.1.message.site) × LacksSpace (fresh_server sites) p.1.message source 0 full
FillsUp sites bytes _ = ⊥

-- the result is the answer, unless memory ran out that may be refused, or the site may not hold so much
abbrev pub Answers : Type 0 → List SiteValue → List ℕ → Answer → Type 0
Answers may_refuse sites bytes (Ok reply) = answer_of sites bytes ≡ Ok reply
Answers may_refuse sites bytes (Err refused) = (may_refuse × RanOut sites bytes refused) ⊎ (FillsUp sites bytes refused ⊎ (answer_of sites bytes ≡ Err refused))

-- where a server is a fresh one of some sites, and its store an empty one, the result is what these answer
abbrev pub AnswersIfFresh : Type 0 → ServerState → MemoryStoreState → List ℕ → Answer → Type 0
AnswersIfFresh may_refuse server store bytes result = (sites : List SiteValue) → server ≡ fresh_server sites → store ≡ fresh_memory → Answers may_refuse sites bytes result
