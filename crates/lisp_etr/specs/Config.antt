-- The configuration of a router (RFC 9301 section 8.2).
use Rattle.std.specs.Prelude.{ℕ, Bool, List}
use Rattle.lisp_records.specs.declared.address.Addr.{Addr}
use Rattle.lisp_records.specs.declared.router.RouterId.{RouterId}
use Rattle.lisp_nonces.specs.declared.pair.Pair.{Pair}
use Rattle.lisp_nonces.specs.declared.pair.PairKind.TheVariants.{Sent}

-- its site and xTR-ID; its key and the secret of it; its Map-Servers; P and T; how many nonces one save serves
pub record EtrConfigValue : Type 0 where
  pub me : RouterId
  pub key_id : ℕ
  pub secret : List ℕ
  pub servers : List Addr
  pub proxy : Bool
  pub use_ttl : Bool
  pub nonce_block : ℕ

-- what its nonces under a key are kept for
abbrev pub sent_pair_under : EtrConfigValue → ℕ → Pair
sent_pair_under c key_id = record { kind = Sent; router = c.me; key = key_id }

-- what its nonces are kept for
abbrev pub sent_pair : EtrConfigValue → Pair
sent_pair c = sent_pair_under c c.key_id

-- the same with another key
abbrev pub with_key : EtrConfigValue → ℕ → List ℕ → EtrConfigValue
with_key c key_id secret = record c { key_id = key_id; secret = secret }
