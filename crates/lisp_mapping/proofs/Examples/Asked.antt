-- What a node takes of a Map-Request: rows by hand.
use Rattle.std.proofs.Common.{ℕ, Bool, true, false, List, [], ◌∷◌, None, ◌≡◌, refl}
use Rattle.std.specs.Prelude.{Ok, Err}
use Rattle.lisp_records.specs.declared.address.Addr.{Addr}
use Rattle.lisp_records.specs.declared.address.Addr.TheVariants.{V4, V6}
use Rattle.lisp_records.specs.declared.address.Family.TheVariants.{Ipv4, Ipv6}
use Rattle.lisp_records.specs.Address.{PrefixValue, masked}
use Rattle.lisp_requests.specs.Request.{MapRequestValue}
use Rattle.lisp_mapping.specs.Asked.{AskedValue, asked_of, is_alone}
use Rattle.lisp_mapping.specs.declared.replier.Replier.{Replier}
use Rattle.lisp_mapping.specs.declared.replier.Replier.TheVariants.{MapServer, Router}
use Rattle.lisp_mapping.specs.declared.unasked.Unasked.TheVariants.{Solicited, Probed, Unwanted, NoItrRloc, Unlisted}

abbrev pub ipv4 : ℕ → ℕ → ℕ → ℕ → Addr
ipv4 a b c d = V4 (a ∷ b ∷ c ∷ d ∷ [])

abbrev pub block : ℕ → ℕ → ℕ → ℕ → ℕ → PrefixValue
block a b c d n = record { addr = ipv4 a b c d; mask_len = n }

-- fe80:: and the host 1
abbrev far : Addr
far = V6 (254 ∷ 128 ∷ 0 ∷ 0 ∷ 0 ∷ 0 ∷ 0 ∷ 0 ∷ 0 ∷ 0 ∷ 0 ∷ 0 ∷ 0 ∷ 0 ∷ 0 ∷ 1 ∷ [])

-- for 10.1.2.3, from an IPv6 ITR-RLOC and two of IPv4
abbrev plain : MapRequestValue
plain = record { authoritative = false; probe = false; smr = false; pitr = false; smr_invoked = false; local = false; no_reply = false; nonce = 7; source = None; itr_rlocs = far ∷ ipv4 192 0 2 7 ∷ ipv4 192 0 2 8 ∷ []; eids = block 10 1 2 3 32 ∷ [] }

abbrev near : List PrefixValue
near = block 192 0 2 0 24 ∷ []

abbrev pub asked : Replier → Bool → AskedValue
asked of probe = record { of = of; nonce = 7; probe = probe; to = ipv4 192 0 2 7; port = 40000; eids = block 10 1 2 3 32 ∷ [] }

-- Map-Replies go to the first ITR-RLOC of the node's own family, and to the port that was asked from
taken : asked_of MapServer near Ipv4 40000 plain ≡ Ok (asked MapServer false)
unfolding masked
taken = refl

-- another prefix, or no prefix at all, has it
elsewhere : asked_of MapServer (block 198 51 100 0 24 ∷ []) Ipv4 40000 plain ≡ Err Unlisted
unfolding masked
elsewhere = refl

nowhere : asked_of MapServer [] Ipv4 40000 plain ≡ Err Unlisted
nowhere = refl

-- the second ITR-RLOC isn't tried
second : asked_of MapServer (block 192 0 2 8 32 ∷ []) Ipv4 40000 plain ≡ Err Unlisted
unfolding masked
second = refl

no_rloc : asked_of MapServer near Ipv6 40000 (record plain { itr_rlocs = ipv4 192 0 2 7 ∷ [] }) ≡ Err NoItrRloc
no_rloc = refl

-- a router answers a probe, a Map-Server doesn't
probed : asked_of Router near Ipv4 40000 (record plain { probe = true }) ≡ Ok (asked Router true)
unfolding masked
probed = refl

not_probed : asked_of MapServer near Ipv4 40000 (record plain { probe = true }) ≡ Err Probed
not_probed = refl

-- in this order
solicited : asked_of MapServer [] Ipv4 40000 (record plain { smr = true; probe = true; no_reply = true }) ≡ Err Solicited
solicited = refl

unwanted : asked_of Router [] Ipv4 40000 (record plain { probe = true; no_reply = true }) ≡ Err Unwanted
unwanted = refl

-- a Map-Request comes alone, or something stands around it
comes_alone : is_alone (16 ∷ 0 ∷ []) ≡ true
comes_alone = refl

comes_around : is_alone (128 ∷ 0 ∷ []) ≡ false
comes_around = refl
