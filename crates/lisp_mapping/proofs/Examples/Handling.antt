-- What is said of an EID-Prefix, and which address is probed: rows by hand.
use Rattle.std.proofs.Common.{ℕ, Bool, true, false, List, [], ◌∷◌, Some, None, ◌≡◌, refl, map}
use Rattle.lisp_records.specs.declared.address.Addr.{Addr}
use Rattle.lisp_records.specs.declared.address.Addr.TheVariants.{V4}
use Rattle.lisp_records.specs.Address.{PrefixValue}
use Rattle.lisp_records.specs.Record.{MapRecordValue}
use Rattle.lisp_replies.specs.declared.reply.Negative.{Negative}
use Rattle.lisp_replies.specs.declared.reply.Reply.{Reply}
use Rattle.lisp_replies.specs.declared.reply.Reply.TheVariants as replies
use Rattle.lisp_mapping.specs.Asked.{AskedValue}
use Rattle.lisp_mapping.specs.declared.replier.Replier.TheVariants.{Router}
use Rattle.lisp_mapping.specs.Handling.{outcome_of, probed}
use Rattle.lisp_mapping.specs.declared.outcome.Outcome.TheVariants as outcomes

abbrev ipv4 : ℕ → ℕ → ℕ → ℕ → Addr
ipv4 a b c d = V4 (a ∷ b ∷ c ∷ d ∷ [])

abbrev block : ℕ → ℕ → ℕ → ℕ → ℕ → PrefixValue
block a b c d n = record { addr = ipv4 a b c d; mask_len = n }

abbrev its_record : MapRecordValue
its_record = record { ttl = 1440; act = 0; authoritative = false; version = 0; eid = block 10 1 0 0 16; locators = [] }

-- nobody is in 11.0.0.0/8, for a quarter of an hour
abbrev nobody : Negative
nobody = record { eid = block 11 0 0 0 8; ttl = 15 }

abbrev all : List (Reply (Unit {0}))
all = replies.Records (its_record ∷ its_record ∷ []) ∷ replies.Negative nobody ∷ replies.Forward (ipv4 192 0 2 1) ∷ replies.Silent ∷ []

-- how many records there are; the prefix of a negative Map-Reply; to whom the Map-Request goes on; nothing
each_said : map outcome_of all ≡ outcomes.Replied 2 ∷ outcomes.Negative (block 11 0 0 0 8) ∷ outcomes.Forwarded (ipv4 192 0 2 1) ∷ outcomes.Silent ∷ []
each_said = refl

-- a router probes for its own address, where it is asked to
abbrev asked : Bool → AskedValue
asked probe = record { of = Router; nonce = 7; probe = probe; to = ipv4 192 0 2 7; port = 40000; eids = block 10 1 2 3 32 ∷ [] }

its_own : probed (asked true) (ipv4 192 0 2 1) ≡ Some (ipv4 192 0 2 1)
its_own = refl

not_probed : probed (asked false) (ipv4 192 0 2 1) ≡ None
not_probed = refl
