-- What a program passes that keeps a Map-Server's nonces itself.
use Rattle.std.specs.Prelude.{◌≡◌, ℕ, List, [], ◌∷◌, Option, Some, None, Result, Ok, Err, IsTrue}
use Rattle.lisp_messages.specs.declared.fault.ReadFault.{ReadFault}
use Rattle.lisp_messages.specs.Message.{MessageValue, Registers, Notifies}
use Rattle.lisp_messages.specs.Reading.{message_at}
use Rattle.lisp_nonces.specs.declared.pair.Pair.{Pair}
use Rattle.lisp_nonces.specs.Kept.{kept_at}
use Rattle.lisp_nonces.specs.Store.{StoreState}
use Rattle.lisp_admission.specs.Pairs.{pair_of}

-- the pair of the router and the key of a Map-Register
abbrev pub pair_of_message : Result MessageValue ReadFault → Option Pair
pair_of_message (Ok (Registers m)) = Some (pair_of m)
pair_of_message (Ok (Notifies m)) = None
pair_of_message (Err e) = None

-- the pair whose last nonce a datagram needs
abbrev pub pair_in : List ℕ → Option Pair
pair_in bytes = pair_of_message (message_at bytes)

-- an honest store that keeps this for the pair, or nothing
pub record KeepsPassed (pair : Pair) (kept : Option ℕ) (store : StoreState) : Type 0 where
  pub honest : IsTrue store.is_honest
  pub keeps : kept_at store.kept pair ≡ kept ∷ []

-- the same of a pair that may be none
pub record Passes (pair : Option Pair) (kept : Option ℕ) (store : StoreState) : Type 0 where
  pub honest : IsTrue store.is_honest
  pub keeps : (p : Pair) → pair ≡ Some p → kept_at store.kept p ≡ kept ∷ []
