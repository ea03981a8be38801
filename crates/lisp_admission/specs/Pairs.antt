-- What the nonces of a Map-Server are kept for (RFC 9301 sections 5.6 and 5.7).
use Rattle.std.specs.Prelude.{replicate}
use Rattle.lisp_records.specs.declared.router.RouterId.{RouterId}
use Rattle.lisp_messages.specs.Message.{MapRegisterValue}
use Rattle.lisp_nonces.specs.declared.pair.Pair.{Pair}
use Rattle.lisp_nonces.specs.declared.pair.PairKind.TheVariants as kinds

-- the router that sent it
abbrev pub router_of : MapRegisterValue → RouterId
router_of m = record { site = m.site; xtr = m.xtr }

-- what its nonce is kept for
abbrev pub pair_of : MapRegisterValue → Pair
pair_of m = record { kind = kinds.Received; router = router_of m; key = m.key_id }

-- what the nonces of all notices of a Map-Server are kept for
abbrev pub notice_pair : Pair
notice_pair = record { kind = kinds.Notice; router = record { site = 0; xtr = replicate 16 0 }; key = 0 }
