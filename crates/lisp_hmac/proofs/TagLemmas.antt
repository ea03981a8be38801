-- How long an HMAC and a tag are.
use Rattle.std.proofs.Common.{◌≡◌, ℕ, List, length, arith}
use Rattle.std.proofs.lemmas.List.{length-take-le}
use Rattle.sha2.proofs.Facts256.{length-sha256}
use Rattle.lisp_hmac.specs.Tag.{hmac, without_tag, tag}

-- an HMAC has 32 bytes
pub length-hmac : (key message : List ℕ) → length (hmac key message) ≡ 32
unfolding hmac
length-hmac key message = length-sha256 _

-- a tag has 16 bytes
pub length-tag : (key message : List ℕ) (at : ℕ) → length (tag key message at) ≡ 16
unfolding tag
length-tag key message at = length-take-le 16 (hmac key (without_tag message at)) (omega (arith, length-hmac key (without_tag message at)))
