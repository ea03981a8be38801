-- What a send makes of a router's store: what it keeps for the router's pair, and for the others (RFC 9301 section 5.6).
use Rattle.std.specs.Prelude.{◌≡◌, ◌≢◌, ℕ, ◌+◌, ◌<◌, ◌≤◌, List, [], ◌∷◌, length, Option, Some, Result, Err, IsTrue, IsOk, IfOk, IfErr, OnOk, OnErr, IsErrOf}
use Rattle.lisp_records.specs.Parts.{part_count}
use Rattle.lisp_nonces.specs.Kept.{kept_at, with_value, NoneBelow}
use Rattle.lisp_nonces.specs.declared.fault.StoreFault.TheVariants as stores
use Rattle.lisp_nonces.specs.Store.{StoreState, Rose, Proceeds, MaySave, MayFailSave}
use Rattle.lisp_nonces.specs.Promises.{KeepsOthersIfHonest}
use Rattle.lisp_etr.specs.Config.{EtrConfigValue, sent_pair}
use Rattle.lisp_etr.specs.Etr.{EtrState}
use Rattle.lisp_etr.specs.Faults.{device_failed}
use Rattle.lisp_etr.specs.Sending.{last_nonce, block_end, Settles, LeavesPair}
use Rattle.lisp_etr.specs.declared.send_fault.SendFault.{SendFault}
use Rattle.lisp_etr.specs.declared.send_fault.SendFault.TheVariants as sends

-- the values that may be kept for the router's pair
abbrev pub kept_for : EtrConfigValue → StoreState → List (Option ℕ)
kept_for c store = kept_at store.kept (sent_pair c)

-- of an honest store, every other pair keeps what it kept
abbrev pub KeepsOtherPairs : EtrConfigValue → StoreState → StoreState → Type 0
KeepsOtherPairs c before after = KeepsOthersIfHonest before after (sent_pair c)

-- of an honest store, a nonce above what is safe leaves the end of its block alone for the pair
abbrev pub BlockSaves : {X E : Type 0} → EtrConfigValue → ℕ → ℕ → StoreState → StoreState → Result X E → Type 0
BlockSaves c safe nonce before after answer = IsTrue before.is_honest → safe < nonce → OnOk answer (kept_for c after ≡ Some (block_end nonce c.nonce_block) ∷ [])

-- of an honest store, using a nonce settles its pair
abbrev pub BlockSettles : {X E : Type 0} → EtrConfigValue → ℕ → StoreState → StoreState → Result X E → Type 0
BlockSettles c nonce before after answer = IsTrue before.is_honest → OnOk answer (Settles (kept_for c before) (kept_for c after) nonce c.nonce_block)

-- of an honest store, a refusal leaves the pair as it was, or with the end of the block added
abbrev pub BlockLeaves : {X E : Type 0} → EtrConfigValue → ℕ → StoreState → StoreState → Result X E → Type 0
BlockLeaves c nonce before after answer = IsTrue before.is_honest → OnErr answer (LeavesPair (kept_for c before) (kept_for c after) nonce c.nonce_block)

-- of an obedient store, a save that fails keeps the end of the block too, after what it kept, once
abbrev pub BlockKeepsToo : {X : Type 0} → EtrConfigValue → ℕ → StoreState → StoreState → Result X SendFault → Type 0
BlockKeepsToo c nonce before after answer =
    IsErrOf answer device_failed → IsTrue before.is_obedient → kept_for c after ≡ with_value (kept_for c before) (block_end nonce c.nonce_block)

-- of an honest store that keeps nothing below what was safe, nothing is below what is saved then
abbrev pub BlockIsSafe : {E : Type 0} → EtrConfigValue → ℕ → StoreState → StoreState → Result ℕ E → Type 0
BlockIsSafe c safe before after answer = IsTrue before.is_honest → NoneBelow safe (kept_for c before) → IfOk answer (λ saved. NoneBelow saved (kept_for c after))

-- and where the nonce is refused, nothing is below what was safe
abbrev pub SafeStays : {X E : Type 0} → EtrConfigValue → ℕ → StoreState → StoreState → Result X E → Type 0
SafeStays c safe before after answer = IsTrue before.is_honest → NoneBelow safe (kept_for c before) → OnErr answer (NoneBelow safe (kept_for c after))

-- of an honest store that keeps nothing below what was safe, a send leaves nothing below what is safe then
abbrev pub SafeIfHonest : EtrState → EtrState → StoreState → StoreState → Type 0
SafeIfHonest old new before after = IsTrue before.is_honest → NoneBelow old.safe (kept_for old.config before) → NoneBelow new.safe (kept_for old.config after)

-- of an honest store, a send whose nonce isn't safe leaves the end of its block alone for the pair
abbrev pub SavesBlockIfHonest : {X E : Type 0} → EtrState → StoreState → StoreState → Result X E → Type 0
SavesBlockIfHonest e before after answer = BlockSaves e.config e.safe (e.last + 1) before after answer

-- of an honest store, a send settles the router's pair
abbrev pub SettlesIfHonest : {X E : Type 0} → EtrState → StoreState → StoreState → Result X E → Type 0
SettlesIfHonest e before after answer = BlockSettles e.config (e.last + 1) before after answer

-- of an honest store, a send that is refused leaves the pair as it was, or with the end of the block added
abbrev pub LeavesIfHonest : {X E : Type 0} → EtrState → StoreState → StoreState → Result X E → Type 0
LeavesIfHonest e before after answer = BlockLeaves e.config (e.last + 1) before after answer

-- of an obedient store, a send whose save fails keeps the end of the block too, after what it kept, once
abbrev pub KeepsEndIfObedient : {X : Type 0} → EtrState → StoreState → StoreState → Result X SendFault → Type 0
KeepsEndIfObedient e before after answer = BlockKeepsToo e.config (e.last + 1) before after answer

-- the next nonce is not safe: the end of its block is saved first
abbrev pub NeedsSave : EtrState → Type 0
NeedsSave e = e.safe < e.last + 1

-- the store is as it was, unless its device failed
abbrev pub SameUnlessDevice : StoreState → StoreState → SendFault → Type 0
SameUnlessDevice before after fault = fault ≢ device_failed → after ≡ before

-- what a send saves, and how it uses and leaves the router's store
pub record SendSaves {X : Type 0} (old new : EtrState) (before after : StoreState) (answer : Result X SendFault) : Type 0 where
  -- no lower nonce comes back from the store: not after a send, nor after one that failed
  pub safe : OnOk answer (old.last + 1 ≤ new.safe)
  pub keeps_safe : SafeIfHonest old new before after
  pub settles : SettlesIfHonest old before after answer
  pub leaves : LeavesIfHonest old before after answer
  pub others : KeepsOtherPairs old.config before after
  -- a nonce that is safe is sent without a save
  pub unasked : old.last + 1 ≤ old.safe → after ≡ before
  -- for any other the end of its block is kept, and nothing else
  pub saved : SavesBlockIfHonest old before after answer
  -- an obedient store fails where it is armed to, and keeps the end of the block too then
  pub saves : NeedsSave old → OnOk answer (MaySave before)
  pub save_fails : IsErrOf answer device_failed → MayFailSave before
  pub doubted : KeepsEndIfObedient old before after answer
  -- only a device that failed leaves the store in doubt
  pub refused : IfErr answer (SameUnlessDevice before after)
  pub cause : IsErrOf answer device_failed → Rose before after
  pub sound : answer ≢ Err (sends.Store stores.Damaged)
  pub proceeds : Proceeds before after

-- a Map-Register of a part to a Map-Server goes out while a nonce is left, unless a device failed in between
abbrev pub SendsUnlessFailed : {X E : Type 0} → EtrState → ℕ → ℕ → StoreState → StoreState → Result X E → Type 0
SendsUnlessFailed e server part before after answer =
    server < length e.config.servers → part < part_count e.database → e.last < last_nonce → ¬ (Rose before after)
    → IsOk answer
