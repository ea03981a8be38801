-- What a Map-Server of a network sends for a Map-Request: an ITR that keeps it reads what the routers sent (RFC 9301
-- sections 5.5, 8.3 and 8.4).
use Rattle.std.specs.Prelude.{◌≡◌, ◌⊎◌, ℕ, true, false, List, ◌∷◌, slice_get, Some}
use Rattle.lisp_records.specs.declared.address.Addr.{Addr}
use Rattle.lisp_records.specs.Address.{PrefixValue, holds}
use Rattle.lisp_records.specs.Record.{MapRecordValue}
use Rattle.lisp_records.specs.Row.{RowValue}
use Rattle.lisp_lookup.specs.Answer.{IsBest}
use Rattle.lisp_lookup.specs.Covering.{IsBestFor, alone}
use Rattle.lisp_lookup.specs.Replies.{record_of, IsLongest}
use Rattle.lisp_lookup.specs.Table.{OneEach}
use Rattle.lisp_replies.specs.declared.reply.Reply.{Reply}
use Rattle.lisp_replies.specs.declared.reply.Reply.TheVariants.{Records, Negative, Forward, Silent}
use Rattle.lisp_replies.specs.Kept.{MayBeKept}
use Rattle.lisp_replies.specs.Reply.{IsReply, is_starting}
use Rattle.lisp_model.specs.Trace.{Step, Opening, sites, clock}
use Rattle.lisp_model.specs.History.{SentRegister}
use Rattle.lisp_model.specs.Held.{rows}
use Rattle.lisp_model.specs.Bag.{since_start}
use Rattle.lisp_model.specs.Clean.{Clean}
use Rattle.lisp_model.specs.Reply.{IsReplyOf}
use Rattle.lisp_refinement.specs.World.{ServerNodeState, WorldState}
use Rattle.lisp_refinement.specs.Stands.{Stands}
use Rattle.lisp_refinement.specs.Headline.{IsSentRow}

-- a node replies by its rows, of which there is one for each router and prefix; its life is starting for so many ms
pub record NodeReplies {A : Type 0} (node : ServerNodeState) (asked : PrefixValue) (quiet now : ℕ) (reply : Reply A) : Type 0 where
  pub one_each : OneEach node.core.rows
  pub is : IsReply node.core.rows node.core.sites asked (is_starting node.started quiet now) now reply

-- so does a running Map-Server at the network's clock
pub record Replies {A : Type 0} (w : WorldState) (server : ℕ) (asked : PrefixValue) (quiet : ℕ) (reply : Reply A) : Type 0 where
  pub node : ServerNodeState
  pub running : slice_get w.servers server ≡ Some node
  pub replies : NodeReplies node asked quiet w.clock reply

-- a record is that of the row that answers for an address, and a router sent that row
pub record IsSentRecord (o : Opening) (T : List Step) (server : ℕ) (addr : Addr) (r : MapRecordValue) : Type 0 where
  pub row : RowValue
  pub best : IsBest (rows (since_start o T server) (clock T)) addr (clock T) row
  pub is : r ≡ record_of r.ttl r.eid row
  pub send : SentRegister
  pub sent : IsSentRow o T server row send

-- a Map-Request goes on to where a row that a router sent came from: the row answers for the prefix that was asked for, or for its
-- address alone, and its router asked for no proxy replies
pub record GoesOn (o : Opening) (T : List Step) (server : ℕ) (asked : PrefixValue) (to : Addr) : Type 0 where
  pub row : RowValue
  pub best : IsBestFor (rows (since_start o T server) (clock T)) asked (clock T) row
      ⊎ IsBestFor (rows (since_start o T server) (clock T)) (alone asked.addr) (clock T) row
  pub no_proxy : row.proxy ≡ false
  pub its : to ≡ row.from
  pub send : SentRegister
  pub sent : IsSentRow o T server row send

-- the record that an ITR which keeps the reply reads for an address of the first one's prefix is one that was sent; so is the row
-- by which a Map-Request goes on
abbrev pub ReadsWhatWasSent : {A : Type 0} → Opening → List Step → ℕ → PrefixValue → Reply A → Type 0
ReadsWhatWasSent o T server asked (Records records) = (first : MapRecordValue) (rest : List MapRecordValue)
    → records ≡ first ∷ rest → (addr : Addr) → holds first.eid addr ≡ true
    → (r : MapRecordValue) → IsLongest records addr r → IsSentRecord o T server addr r
ReadsWhatWasSent o T server asked (Forward to) = GoesOn o T server asked to
ReadsWhatWasSent o T server asked (Negative hole) = Unit {0}
ReadsWhatWasSent o T server asked Silent = Unit {0}

-- a reply is by what the Map-Server holds, by the trace; an ITR may keep it; and where nobody outside knows a secret, it
-- reads what was sent
pub record IsPromisedReply {A : Type 0} (o : Opening) (T : List Step) (server : ℕ) (asked : PrefixValue) (quiet : ℕ) (reply : Reply A) : Type 0 where
  pub is : IsReplyOf o T server asked quiet reply
  pub kept : MayBeKept (rows (since_start o T server) (clock T)) (sites o T server) asked.addr (clock T) reply
  pub sent : Clean o T → ReadsWhatWasSent o T server asked reply

-- so it is by every trace that the network stands for
abbrev pub IsPromised : {A : Type 0} → WorldState → ℕ → PrefixValue → ℕ → Reply A → Type 0
IsPromised w server asked quiet reply = (o : Opening) (T : List Step) → Stands w o T → IsPromisedReply o T server asked quiet reply

-- each reply of a network is
abbrev pub RepliesArePromised : Type 0 → WorldState → Type 0
RepliesArePromised A w = (server : ℕ) (asked : PrefixValue) (quiet : ℕ) (reply : Reply A) → Replies w server asked quiet reply → IsPromised w server asked quiet reply
