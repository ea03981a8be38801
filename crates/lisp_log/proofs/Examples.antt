-- Examples: which lines of Map-Requests repeat others, and that none says that a device failed.
use Rattle.std.proofs.Common.{ℕ, [], ◌∷◌, Some, None, ◌≡◌, refl}
use Rattle.lisp_mapping.specs.declared.outcome.Outcome.TheVariants as outcomes
use Rattle.lisp_records.specs.declared.address.Addr.{Addr}
use Rattle.lisp_records.specs.declared.address.Addr.TheVariants.{V4}
use Rattle.lisp_records.specs.Address.{PrefixValue}
use Rattle.lisp_records.specs.declared.router.RouterId.{RouterId}
use Rattle.lisp_requests.specs.declared.fault.RequestFault.TheVariants.{Security}
use Rattle.lisp_mapping.specs.declared.unasked.Unasked.TheVariants.{Request, Unlisted}
use Rattle.lisp_turns.specs.declared.outside.Printed.TheVariants as printed
use Rattle.lisp_log.specs.declared.repeats.Repeated.TheVariants as repeated
use Rattle.lisp_log.specs.Log.{repeating}
use Rattle.lisp_log.specs.Text.{device_of}

abbrev ipv4 : ℕ → ℕ → ℕ → ℕ → Addr
ipv4 a b c d = V4 (a ∷ b ∷ c ∷ d ∷ [])

abbrev block : ℕ → ℕ → ℕ → ℕ → ℕ → PrefixValue
block a b c d n = record { addr = ipv4 a b c d; mask_len = n }

-- what is refused is summed with its like, by number and source
secured : repeating (printed.Unasked (ipv4 192 0 2 9) (Request Security)) ≡ Some (repeated.Refused 112, ipv4 192 0 2 9)
secured = refl

held_back : repeating (printed.OverBudget (ipv4 192 0 2 9)) ≡ Some (repeated.Refused 135, ipv4 192 0 2 9)
held_back = refl

-- what is answered is by where the answer goes, whichever EID-Prefix was asked for; what goes on is by the router
answered : repeating (printed.Asked (block 10 1 2 3 32) (ipv4 192 0 2 7) (outcomes.Replied 2)) ≡ Some (repeated.Replied, ipv4 192 0 2 7)
answered = refl

forwarded : repeating (printed.Asked (block 10 1 2 3 32) (ipv4 192 0 2 7) (outcomes.Forwarded (ipv4 192 0 2 22))) ≡ Some (repeated.Forwarded, ipv4 192 0 2 22)
forwarded = refl

-- a row that died is told each time
expired : (router : RouterId) → repeating (printed.Expired router (block 10 1 2 3 32)) ≡ None
expired router = refl

-- no device of the system's failed
no_device : device_of (printed.Unasked (ipv4 192 0 2 9) Unlisted) ≡ None
no_device = refl

none_held_back : device_of (printed.OverBudget (ipv4 192 0 2 9)) ≡ None
none_held_back = refl
