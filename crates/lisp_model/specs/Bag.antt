-- Bag: the datagrams that the nodes sent. Nothing leaves it, so that each may arrive late, again, or never.
use Rattle.std.specs.Prelude.{ℕ, ◌==◌, List, [], ◌∷◌, ◌++◌, slice_get, map, Option, Some, None, Result, Ok, if◌then◌else◌, false}
use Rattle.std.specs.Option.{option_map, option_and_then, option_to_list}
use Rattle.lisp_records.specs.declared.address.Addr.{Addr}
use Rattle.lisp_records.specs.Parts.{part_at}
use Rattle.lisp_policy.specs.Configuration.{ConfigValue}
use Rattle.lisp_policy.specs.Site.{SiteValue}
pub use Rattle.lisp_messages.specs.declared.fault.ReadFault.{ReadFault}
use Rattle.lisp_messages.specs.Message.{MessageValue, MapRegisterValue, MapNotifyValue, Registers, Notifies}
use Rattle.lisp_messages.specs.Authentic.{signed}
use Rattle.lisp_messages.specs.Written.{written}
use Rattle.lisp_messages.specs.Reading.{message_at}
use Rattle.lisp_etr.specs.Hearing.{ack_of}
use Rattle.lisp_etr.specs.Sending.{map_register_of}
use Rattle.lisp_admission.specs.Checks.{reply_to}
use Rattle.lisp_model.specs.declared.event.Event.TheVariants as events
use Rattle.lisp_model.specs.declared.line.Line.TheVariants as lines
use Rattle.lisp_model.specs.Trace.{EventValue, Step, Opening, address_at, router_at, secret_at, etr_config, sites, clock, database, Line}
use Rattle.lisp_model.specs.Held.{Acceptance, heard_last, records_of}
use Rattle.lisp_model.specs.Timers.{notice_to}

-- a datagram: from and to which address, and which message, authentic under which secret
pub record Item : Type 0 where
  pub from : Addr
  pub to : Addr
  pub secret : List ℕ
  pub message : MessageValue

-- its bytes: the written spelling with its tag
unfoldable pub bytes_of : Item → List ℕ
bytes_of i = signed i.secret (written i.message)

-- what arrives: from which address, which bytes, and what is read in them
pub record Arrival : Type 0 where
  pub from : Addr
  pub bytes : List ℕ
  pub read : Result MessageValue ReadFault

-- an item arrives as it was sent
abbrev pub arrival_of : Item → Arrival
arrival_of i = record { from = i.from; bytes = bytes_of i; read = Ok i.message }

-- bytes from outside: what is read in them
abbrev pub junk_arrival : Addr → List ℕ → Arrival
junk_arrival from bytes = record { from = from; bytes = bytes; read = message_at bytes }

abbrev pub arrival_in : List Item → EventValue → Option Arrival
arrival_in bag (events.Deliver k _) = option_map arrival_of (slice_get bag k)
arrival_in bag (events.Junk _ from bytes) = Some (junk_arrival from bytes)
arrival_in bag _ = None

-- the Map-Register, and the Map-Notify or Map-Notify-Ack, that was read
abbrev pub as_register : Result MessageValue ReadFault → Option MapRegisterValue
as_register (Ok (Registers m)) = Some m
as_register _ = None

abbrev pub as_notify : Result MessageValue ReadFault → Option MapNotifyValue
as_notify (Ok (Notifies m)) = Some m
as_notify _ = None

-- what a server accepts in an arrival at a moment
abbrev pub acceptances_in : Option Arrival → ℕ → List Acceptance
acceptances_in a now =
    option_to_list (option_and_then (λ b. option_map (λ m. record { message = m; from = b.from; moment = now })
    (as_register b.read)) a)

-- the item of a Map-Register of a part of the router's database
abbrev pub register_item : Opening → List Step → ℕ → ℕ → ℕ → ℕ → Item
register_item o T router server part nonce = record {
  from = address_at o.config router;
  to = address_at o.config server;
  secret = (etr_config o T router).secret;
  message = Registers (map_register_of (etr_config o T router) (part_at (database o T router) part) nonce);
}

-- the item of the Map-Notify that answers a Map-Register: with its nonce, key and records, to its source, under the
-- secret that the server's sites have
abbrev pub reply_item : ConfigValue → List SiteValue → ℕ → Acceptance → Item
reply_item c sites server a = record {
  from = address_at c server;
  to = a.from;
  secret = secret_at sites a.message.site a.message.key_id;
  message = Notifies (reply_to a.message);
}

-- the item of a notice: the records that are held of a router, to where it was heard last
abbrev pub notice_item : Opening → List Step → List Acceptance → ℕ → ℕ → ℕ → ℕ → Acceptance → Item
notice_item o T since_start server router key nonce last = record {
  from = address_at o.config server;
  to = last.from;
  secret = secret_at (sites o T server) (router_at o.config router).me.site key;
  message = Notifies (record { ack = false; nonce = nonce; key_id = key; records = records_of since_start (router_at o.config router).me (clock T) });
}

-- the item of the Map-Notify-Ack that answers a notice: with the notice's fields, to its source
abbrev pub ack_item : Opening → List Step → ℕ → Arrival → MapNotifyValue → Item
ack_item o T router a m = record {
  from = address_at o.config router;
  to = a.from;
  secret = (etr_config o T router).secret;
  message = Notifies (ack_of m);
}

-- the bag, and what each server accepted since its start. What arrives is found in the bag; the records of
-- a notice by what was accepted
pub record Past : Type 0 where
  pub bag : List Item
  pub since : ℕ → List Acceptance

-- what a line with a datagram number adds to the bag
abbrev pub items_added : Opening → List Step → Past → Option Arrival → Line → List Item
items_added o T p a (lines.Sent router server part _ nonce _) = register_item o T router server part nonce ∷ []
items_added o T p a (lines.Accepted server _ _ _ (Some _)) =
    map (reply_item o.config (sites o T server) server) (acceptances_in a (clock T))
items_added o T p (Some a) (lines.Noticed router _ _ _) =
    option_to_list (option_map (ack_item o T router a) (as_notify a.read))
items_added o T p a (lines.Notice server router key nonce _) =
    option_to_list (option_map (notice_item o T (p.since server) server router key nonce)
    (heard_last (router_at o.config router).me (p.since server)))
items_added o T p a (lines.Resent server router _) =
    option_to_list (option_and_then (λ n. slice_get p.bag n.datagram)
    (notice_to o T server (router_at o.config router).me))
items_added o T p a _ = []

-- an accepted message is added for its server; a start forgets
abbrev pub since_start_after : Line → List Acceptance → ℕ → List Acceptance → List Acceptance
since_start_after (lines.Accepted server _ _ _ _) new k old = if server == k then new ++ old else old
since_start_after (lines.Restarted node) new k old = if node == k then [] else old
since_start_after (lines.Renewed server _) new k old = if server == k then [] else old
since_start_after _ new k old = old

abbrev pub past_after : Opening → List Step → Past → Option Arrival → Line → Past
past_after o T p a line = record { bag = p.bag ++ items_added o T p a line; since = λ k. since_start_after line (acceptances_in a (clock T)) k (p.since k) }

abbrev pub past : Opening → List Step → Past
past o [] = record { bag = []; since = λ k. [] }
past o (s ∷ T) = past_after o T (past o T) (arrival_in (past o T).bag s.event) s.line

-- the items, numbered from 0 on
abbrev pub bag : Opening → List Step → List Item
bag o T = (past o T).bag

-- what a server accepted since its start, the last one first
abbrev pub since_start : Opening → List Step → ℕ → List Acceptance
since_start o T server = (past o T).since server
