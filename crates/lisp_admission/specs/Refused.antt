-- Why a Map-Server refuses a message: the numbers, and the refusals for want of a store's memory.
use Rattle.std.specs.Prelude.{ℕ, Result, IsErrOf}
use Rattle.lisp_nonces.specs.declared.fault.StoreFault.TheVariants as stores
use Rattle.lisp_messages.specs.declared.fault.ReadFault.{ReadFault}
use Rattle.lisp_messages.specs.declared.fault.ReadFault.TheVariants as reads
use Rattle.lisp_policy.specs.Limits.{full_number}
use Rattle.lisp_admission.specs.declared.limit.Limit.{Limit}
use Rattle.lisp_admission.specs.declared.limit.Limit.TheVariants.{Router, Source, Ttl}
use Rattle.lisp_admission.specs.declared.refused.Refused.{Refused}
use Rattle.lisp_admission.specs.declared.refused.Refused.TheVariants.{Read, UnknownSite, UnknownKey, BadAuth, MergeAsked, NotAllowed, Limited, StoreLoad, Replay, Jump, Full, OutOfMemory, StoreSave, NoNotice, NotMine}

abbrev pub limit_number : Limit → ℕ
limit_number Router = 69
limit_number Source = 136
limit_number (Ttl _) = 137

abbrev pub refused_number : Refused → ℕ
refused_number (Read _) = 50
refused_number UnknownSite = 51
refused_number UnknownKey = 52
refused_number BadAuth = 53
refused_number MergeAsked = 54
refused_number (NotAllowed _) = 55
refused_number (Limited _ limit) = limit_number limit
refused_number (StoreLoad _) = 56
refused_number (Replay _) = 57
refused_number (Jump _ _) = 138
refused_number (Full _ full) = full_number full
refused_number OutOfMemory = 58
refused_number (StoreSave _) = 59
refused_number NoNotice = 60
refused_number NotMine = 61

-- the refusal of a message that can't be read; out of memory says nothing of the message
abbrev pub refused_of_read : ReadFault → Refused
refused_of_read reads.OutOfMemory = OutOfMemory
refused_of_read fault = Read fault

-- the store had no memory for the load of the last nonce
abbrev pub load_out_of_memory : Refused
load_out_of_memory = StoreLoad stores.OutOfMemory

-- or for the save of the new one
abbrev pub save_out_of_memory : Refused
save_out_of_memory = StoreSave stores.OutOfMemory

-- neither is answered: no store is asked
abbrev pub IsStoreless : {X : Type 0} → Result X Refused → Type 0
IsStoreless answer = (¬ (IsErrOf answer load_out_of_memory)) × (¬ (IsErrOf answer save_out_of_memory))
