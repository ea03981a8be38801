-- Legal steps of a router that changes its database or sends (RFC 9301 sections 5.6 and 8.2).
use Rattle.std.specs.Prelude.{◌≡◌, ◌<◌, ◌≤◌, ℕ, ◌+◌, ◌==◌, true, false, List, [], ◌∷◌, length, Option, Some, None, if◌then◌else◌, Ok}
use Rattle.lisp_records.specs.Database.{database_of}
use Rattle.lisp_records.specs.Parts.{part_count, part_at}
use Rattle.lisp_records.specs.Record.{MapRecordValue}
use Rattle.lisp_nonces.specs.declared.pair.Pair.{Pair}
use Rattle.lisp_nonces.specs.declared.fault.StoreFault.{StoreFault}
use Rattle.lisp_nonces.specs.Kept.{kept_at, number}
use Rattle.lisp_messages.specs.Message.{IsMapRegister}
use Rattle.lisp_etr.specs.Config.{sent_pair}
use Rattle.lisp_etr.specs.Sending.{last_nonce, map_register_of, block_end}
pub use Rattle.lisp_etr.specs.declared.send_fault.SendFault.{SendFault}
use Rattle.lisp_etr.specs.declared.send_fault.SendFault.TheVariants.{NoServer, NoPart, NonceSpent, OutOfMemory, Store}
use Rattle.lisp_model.specs.declared.line.Line.TheVariants as lines
use Rattle.lisp_model.specs.declared.line.Line.{Line}
use Rattle.lisp_model.specs.Trace.{Step, Opening, shown_store, etr_config, is_server, is_listed, database}
use Rattle.lisp_model.specs.Bag.{bag}
use Rattle.lisp_model.specs.Context.{Context, IsAtRouter, Same, Saves, SaveFails, IsBase}

-- what the nonces of a router are kept for
abbrev pub pair_at : Opening → List Step → ℕ → Pair
pair_at o T router = sent_pair (etr_config o T router)

-- the nonce of a router's last entry since its start, or since it went over to its key
abbrev pub last_sent_after : Line → ℕ → Option ℕ → Option ℕ
last_sent_after (lines.Sent router _ _ _ nonce _) r old = if router == r then Some nonce else old
last_sent_after (lines.Restarted node) r old = if node == r then None else old
last_sent_after (lines.Rotated node _) r old = if node == r then None else old
last_sent_after (lines.Emptied node _) r old = if node == r then None else old
last_sent_after _ r old = old

abbrev pub last_sent : List Step → ℕ → Option ℕ
last_sent [] r = None
last_sent (s ∷ T) r = last_sent_after s.line r (last_sent T r)

-- what its store kept for its pair then
abbrev pub start_values_after : Line → List (Option ℕ) → ℕ → List (Option ℕ) → List (Option ℕ)
start_values_after (lines.Restarted node) new r old = if node == r then new else old
start_values_after (lines.Rotated node _) new r old = if node == r then new else old
start_values_after (lines.Emptied node _) new r old = if node == r then new else old
start_values_after _ new r old = old

abbrev pub start_values : Opening → List Step → ℕ → List (Option ℕ)
start_values o [] r = kept_at (shown_store o [] r).kept (pair_at o [] r)
start_values o (s ∷ T) r = start_values_after s.line (kept_at s.shown.kept (pair_at o (s ∷ T) r)) r (start_values o T r)

-- the numbers that the next nonce of a router may count from
abbrev pub CountsFrom : Opening → List Step → ℕ → Option ℕ → Type 0
CountsFrom o T router base = IsBase (last_sent T router) (start_values o T router) base

-- a router is given another database
pub record IsChanged (t : Context) (router : ℕ) (db : List MapRecordValue) (named records : ℕ) : Type 0 where
  pub acts : IsAtRouter t router true
  pub names : named ≡ router
  pub fits : database_of db ≡ Ok db
  pub count : records ≡ length db
  pub same : Same t

-- the router's database has the part
abbrev pub HasPart : Context → ℕ → ℕ → Type 0
HasPart t router part = part < part_count (database t.opening t.past router)

-- a Map-Register of a part goes out: its nonce is the next one, and from now on the store has none below it; what was
-- saved, if anything was, is the end of its block
pub record IsSent (t : Context) (router server part key nonce datagram : ℕ) : Type 0 where
  pub acts : IsAtRouter t router true
  pub kind : is_server t.opening.config server ≡ true
  pub listed : is_listed t.opening.config router server ≡ true
  pub fits : database_of (database t.opening t.past router) ≡ Ok (database t.opening t.past router)
  pub there : HasPart t router part
  pub under : key ≡ (etr_config t.opening t.past router).key_id
  pub base : Option ℕ
  pub counts : CountsFrom t.opening t.past router base
  pub next : nonce ≡ number base + 1
  pub within : nonce ≤ last_nonce
  pub message : IsMapRegister
      (map_register_of (etr_config t.opening t.past router) (part_at (database t.opening t.past router) part) nonce)
  pub place : datagram ≡ length (bag t.opening t.past)
  pub saves : Saves t (pair_at t.opening t.past router) nonce
      (block_end nonce (etr_config t.opening t.past router).nonce_block)

-- the nonces are spent, or not
abbrev pub IsSpent : Context → ℕ → Type 0
IsSpent t router = (base : Option ℕ) × CountsFrom t.opening t.past router base × (last_nonce ≤ number base)

-- the end of the next nonce's block can't be saved
pub record NotSaved (t : Context) (router : ℕ) (fault : StoreFault) : Type 0 where
  pub base : Option ℕ
  pub counts : CountsFrom t.opening t.past router base
  pub left : number base < last_nonce
  pub fails : SaveFails t (pair_at t.opening t.past router)
      (block_end (number base + 1) (etr_config t.opening t.past router).nonce_block) fault

-- the router registers with the server, and its database has the part
abbrev pub MaySend : Context → ℕ → ℕ → ℕ → Type 0
MaySend t router server part = (is_listed t.opening.config router server ≡ true) × HasPart t router part

-- the first reason that applies: the server isn't listed; no such part; the nonces are spent; memory; the store
abbrev pub RefusesToSend : Context → ℕ → ℕ → ℕ → SendFault → Type 0
RefusesToSend t router server part NoServer = (is_listed t.opening.config router server ≡ false) × Same t
RefusesToSend t router server part NoPart =
    (is_listed t.opening.config router server ≡ true) × (part_count (database t.opening t.past router) ≤ part) × Same t
RefusesToSend t router server part NonceSpent = MaySend t router server part × IsSpent t router × Same t
RefusesToSend t router server part OutOfMemory =
    MaySend t router server part × (base : Option ℕ) × CountsFrom t.opening t.past router base
    × (number base < last_nonce) × Same t
RefusesToSend t router server part (Store fault) = MaySend t router server part × NotSaved t router fault
