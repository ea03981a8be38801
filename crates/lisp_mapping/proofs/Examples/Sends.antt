-- What is sent for a Map-Request: rows by hand.
use Rattle.std.proofs.Common.{ℕ, true, false, List, [], ◌∷◌, ◌≡◌, refl}
use Rattle.lisp_records.specs.Written.{written}
use Rattle.lisp_requests.specs.Reply.{written_reply}
use Rattle.lisp_replies.specs.declared.reply.Negative.{Negative}
use Rattle.lisp_replies.specs.declared.reply.Reply.{Reply}
use Rattle.lisp_replies.specs.declared.reply.Reply.TheVariants as replies
use Rattle.lisp_mapping.specs.Asked.{AskedValue}
use Rattle.lisp_mapping.specs.Sends.{forwarded, negative_record, replied, sends}
use Rattle.lisp_mapping.specs.declared.replier.Replier.TheVariants.{MapServer, Router}
use Rattle.lisp_mapping.proofs.Examples.Asked.{asked, block, ipv4}

-- asked with the nonce 1122334455667788
abbrev known : AskedValue
known = record (asked MapServer false) { nonce = 1234605616436508552 }

-- nobody is in 11.0.0.0/8, for a quarter of an hour: RFC 9301 sections 5.4 and 5.5 by hand
abbrev nobody : Negative
nobody = record { eid = block 11 0 0 0 8; ttl = 15 }

negative_bytes : (replied known (negative_record known nobody ∷ [])).bytes ≡ 32 ∷ 0 ∷ 0 ∷ 1 ∷ 17 ∷ 34 ∷ 51 ∷ 68 ∷ 85 ∷ 102 ∷ 119 ∷ 136 ∷ 0 ∷ 0 ∷ 0 ∷ 15 ∷ 0 ∷ 8 ∷ 32 ∷ 0 ∷ 0 ∷ 0 ∷ 0 ∷ 1 ∷ 11 ∷ 0 ∷ 0 ∷ 0 ∷ []
unfolding written_reply written
negative_bytes = refl

-- a router's is authoritative, and answers the probe
own_negative : negative_record (asked Router true) nobody ≡ record { ttl = 15; act = 1; authoritative = true; version = 0; eid = block 11 0 0 0 8; locators = [] }
own_negative = refl

-- a Map-Request goes on to each router once, as it came, to port 4342
abbrev came : List ℕ
came = 128 ∷ 0 ∷ 0 ∷ 0 ∷ []

abbrev Replies : Type 0
Replies = List (Reply (Unit {0}))

abbrev two : Replies
two = replies.Forward (ipv4 192 0 2 1) ∷ replies.Silent ∷ replies.Forward (ipv4 192 0 2 2) ∷ replies.Forward (ipv4 192 0 2 1) ∷ []

each_once : sends known came [] two ≡ record { to = ipv4 192 0 2 1; port = 4342; bytes = came } ∷ record { to = ipv4 192 0 2 2; port = 4342; bytes = came } ∷ []
each_once = refl

-- a Map-Reply for each EID-Prefix, in their order, to the ITR-RLOC and port that were named
abbrev mixed : Replies
mixed = replies.Negative nobody ∷ replies.Forward (ipv4 192 0 2 1) ∷ replies.Negative nobody ∷ []

in_order : sends known came [] mixed ≡ replied known (negative_record known nobody ∷ []) ∷ forwarded (ipv4 192 0 2 1) came ∷ replied known (negative_record known nobody ∷ []) ∷ []
in_order = refl

abbrev none : Replies
none = replies.Silent ∷ replies.Silent ∷ []

silent : sends known came [] none ≡ []
silent = refl
