-- The story: the first file to read. Six steps of a small network, as the model has them.
--
-- A step is an event, the line that it prints, the node that acted, and what that node's store shows afterwards. A trace
-- lists its steps with the last one first. The bag has each datagram that was ever sent, numbered from 0 on; nothing is
-- taken out of it, so that a datagram may arrive late, again, or never.
--
--      event            node        line                           its store keeps    bag
--   1  send             router 2    sent, nonce 1, datagram 0      sent: 1            0  Map-Register, nonce 1
--   2  deliver 0        server 0    accepted, reply datagram 1     received: 1        1  Map-Notify, nonce 1
--   3  deliver 1        router 2    counted, nonce 1               sent: 1
--   4  restart          server 0    restarted                      received: 1
--   5  deliver 0        server 0    refused: replay, saved 1       received: 1
--   6  send             router 2    sent, nonce 2, datagram 2      sent: 2            2  Map-Register, nonce 2
--
-- After step 2 the Map-Server holds a row, which step 4 forgets; the nonce that its store keeps refuses the old datagram
-- in step 5. That each step is legal after those before it is a law (`story`, src/laws.rt).
--
-- Where to go on: Trace (steps, and what they make of clock, databases and stores), Context (a step as its node sees it),
-- Sending, Receiving, Hearing, Notifying (what may come of each event), Legal (all of them: the table of legal steps);
-- Bag, Held, Counted, Timers, Life (what is in flight, held, counted, due, and when a life began); then Clean (nobody outside knows a secret) and
-- Promises (what is promised of every legal trace).
use Rattle.std.specs.Prelude.{ℕ, List, [], ◌∷◌, Some, None, true, false}
use Rattle.std.specs.FinMap.{empty, insert}
use Rattle.lisp_records.specs.declared.address.Addr.{Addr}
use Rattle.lisp_records.specs.declared.address.Addr.TheVariants.{V4}
use Rattle.lisp_records.specs.declared.router.RouterId.{RouterId}
use Rattle.lisp_records.specs.Address.{PrefixValue}
use Rattle.lisp_records.specs.Record.{MapRecordValue}
use Rattle.lisp_records.specs.Row.{RowValue}
use Rattle.lisp_policy.specs.Limits.{no_limits}
use Rattle.lisp_policy.specs.Configuration.{ConfigValue}
use Rattle.lisp_policy.specs.Site.{SiteValue}
use Rattle.lisp_nonces.specs.declared.fate.Fate.TheVariants as fates
use Rattle.lisp_nonces.specs.declared.pair.Pair.{Pair}
use Rattle.lisp_nonces.specs.declared.pair.PairKind.TheVariants as kinds
use Rattle.lisp_admission.specs.declared.refused.Refused.TheVariants as refuseds
use Rattle.lisp_model.specs.declared.event.Event.TheVariants as events
use Rattle.lisp_model.specs.declared.line.Line.TheVariants as lines
use Rattle.lisp_model.specs.declared.refusal.Refusal.TheVariants as refusals
use Rattle.lisp_model.specs.Trace.{EventValue, ShownStore, Step, Opening, shown_store, Line}

-- an xTR-ID, by its last byte
abbrev pub xtr_of : ℕ → List ℕ
xtr_of n = 0 ∷ 0 ∷ 0 ∷ 0 ∷ 0 ∷ 0 ∷ 0 ∷ 0 ∷ 0 ∷ 0 ∷ 0 ∷ 0 ∷ 0 ∷ 0 ∷ 0 ∷ n ∷ []

-- 127.0.0.n
abbrev pub local_at : ℕ → Addr
local_at n = V4 (127 ∷ 0 ∷ 0 ∷ n ∷ [])

-- 10.1.0.0/16 and 10.1.2.0/24
abbrev pub wide : PrefixValue
wide = record { addr = V4 (10 ∷ 1 ∷ 0 ∷ 0 ∷ []); mask_len = 16 }

abbrev pub narrow : PrefixValue
narrow = record { addr = V4 (10 ∷ 1 ∷ 2 ∷ 0 ∷ []); mask_len = 24 }

-- a record without locators
abbrev pub mapping : PrefixValue → ℕ → MapRecordValue
mapping eid ttl = record { ttl = ttl; act = 0; authoritative = true; version = 0; eid = eid; locators = [] }

-- the text `secret`
abbrev pub secret : List ℕ
secret = 0x73 ∷ 0x65 ∷ 0x63 ∷ 0x72 ∷ 0x65 ∷ 0x74 ∷ []

-- the two routers
abbrev pub one : RouterId
one = record { site = 1; xtr = xtr_of 10 }

abbrev pub two : RouterId
two = record { site = 1; xtr = xtr_of 11 }

-- a site with a key and a prefix
abbrev pub site : SiteValue
site = record { id = 1; keys = record { id = 1; secret = secret } ∷ []; prefixes = record { eid = wide; more_specifics = true } ∷ []; limits = no_limits }

-- Map-Servers 0 and 1; router 2, which registers with both, and router 3, which registers with the first
abbrev pub network : ConfigValue
network = record {
  sites = site ∷ [];
  servers = record { name = 1 ∷ []; address = local_at 11; resolve = [] } ∷ record { name = 2 ∷ []; address = local_at 12; resolve = [] } ∷ [];
  routers = record { name = 3 ∷ []; address = local_at 21; me = one; key_id = 1; servers = 0 ∷ 1 ∷ []; proxy = true; use_ttl = false; nonce_block = 1; database = mapping wide 1440 ∷ []; resolve = [] }
      ∷ record { name = 4 ∷ []; address = local_at 22; me = two; key_id = 1; servers = 0 ∷ []; proxy = false; use_ttl = false; nonce_block = 1; database = mapping narrow 1440 ∷ []; resolve = [] } ∷ [];
}

-- stores that keep nothing, and do as they like
abbrev pub blank : ShownStore
blank = record { kept = empty; faults = 0; is_obedient = false }

abbrev pub opening : Opening
opening = record { config = network; stores = blank ∷ blank ∷ blank ∷ blank ∷ [] }

-- what the nonces of a router are kept for: those that it sends, and those that a Map-Server accepts of it
abbrev pub sent_by : RouterId → Pair
sent_by router = record { kind = kinds.Sent; router = router; key = 1 }

abbrev pub got_from : RouterId → Pair
got_from router = record { kind = kinds.Received; router = router; key = 1 }

-- a store that keeps one more number
abbrev pub keeps : ShownStore → Pair → ℕ → ShownStore
keeps s pair nonce = record s { kept = insert s.kept pair (Some nonce ∷ []) }

-- steps; each names the trace before it where it has to
abbrev pub step : EventValue → Line → ℕ → ShownStore → Step
step event line actor after = record { event = event; line = line; actor = actor; shown = after }

-- what a node's store shows after a trace
abbrev pub at : List Step → ℕ → ShownStore
at T node = shown_store opening T node

-- the first router sends, and its store keeps the nonce
abbrev pub sends : List Step → ℕ → ℕ → ℕ → Step
sends T server nonce datagram = step (events.Send 2 server 0 fates.Done) (lines.Sent 2 server 0 1 nonce datagram) 2 (keeps (at T 2) (sent_by one) nonce)

-- a datagram of it arrives at a server, which accepts it and replies, or which knows a number that isn't below
abbrev pub takes : List Step → ℕ → ℕ → ℕ → ℕ → Step
takes T k server nonce datagram = step (events.Deliver k fates.Done) (lines.Accepted server one 1 nonce (Some datagram)) server (keeps (at T server) (got_from one) nonce)

abbrev pub replays : List Step → ℕ → ℕ → ℕ → Step
replays T k server saved = step (events.Deliver k fates.Done) (lines.Refused server (refusals.Receive (refuseds.Replay saved))) server (at T server)

-- a reply arrives at the first router
abbrev pub counts : List Step → ℕ → ℕ → ℕ → Step
counts T k server nonce = step (events.Deliver k fates.Done) (lines.Counted 2 server 0 1 nonce) 2 (at T 2)

abbrev pub restarts : List Step → ℕ → Step
restarts T node = step (events.Restart node 0 None) (lines.Restarted node) node (at T node)

-- the story, step by step: a Map-Register is sent, accepted and counted
abbrev pub one_sent : List Step
one_sent = sends [] 0 1 0 ∷ []

abbrev pub one_taken : List Step
one_taken = takes one_sent 0 0 1 1 ∷ one_sent

abbrev pub one_counted : List Step
one_counted = counts one_taken 1 0 1 ∷ one_taken

-- the Map-Server restarts, the old datagram arrives again, and the router sends once more
abbrev pub server_restarted : List Step
server_restarted = restarts one_counted 0 ∷ one_counted

abbrev pub replay_refused : List Step
replay_refused = replays server_restarted 0 0 1 ∷ server_restarted

abbrev pub six_steps : List Step
six_steps = sends replay_refused 0 2 2 ∷ replay_refused

-- the row that the Map-Server holds after the second step: for three minutes, since bit T is clear
abbrev pub first_row : RowValue
first_row = record { router = one; key = 1; nonce = 1; mapping = mapping wide 1440; accepted = 0; life = 180000; proxy = true; from = local_at 21 }
