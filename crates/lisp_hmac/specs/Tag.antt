-- HMAC-SHA-256 (RFC 2104), and the tag of 128 bits that a LISP control message carries
-- (RFC 9301 sections 5.6 and 12.5, RFC 4868 section 2.3).
use Rattle.std.specs.Prelude.{◌≡◌, ℕ, ◌+◌, ◌-◌, List, ◌++◌, length, take, drop, map, replicate, bit_xor, nat_lt, if◌then◌else◌, slice_range}
use Rattle.sha2.specs.Sha256.{sha256}

-- bytes with zeros behind them, up to a block of 64
abbrev pub padded : List ℕ → List ℕ
padded bytes = bytes ++ replicate (64 - length bytes) 0

-- the key as one block: one that is longer than a block is replaced by its digest (RFC 2104 section 2)
abbrev pub block_key : List ℕ → List ℕ
block_key key = padded (if nat_lt 64 (length key) then sha256 key else key)

-- each byte of a block xored with the pad byte
abbrev pub xored : List ℕ → ℕ → List ℕ
xored block pad = map (λ b. bit_xor b pad) block

-- H(K xor opad, H(K xor ipad, message)) (RFC 2104 section 2)
unfoldable pub hmac : List ℕ → List ℕ → List ℕ
hmac key message = sha256 (xored (block_key key) 0x5c ++ sha256 (xored (block_key key) 0x36 ++ message))

-- the message with its 16 bytes of Authentication Data, from a place on, taken as zeros
abbrev pub without_tag : List ℕ → ℕ → List ℕ
without_tag message at = take at message ++ replicate 16 0 ++ drop (at + 16) message

-- the first 128 bits of the HMAC over the message without its tag (RFC 4868 section 2.3)
unfoldable pub tag : List ℕ → List ℕ → ℕ → List ℕ
tag key message at = take 16 (hmac key (without_tag message at))

-- the 16 bytes of a message from a place on are its tag under the key
abbrev pub HasTag : List ℕ → List ℕ → ℕ → Type 0
HasTag key message at = slice_range message at (at + 16) ≡ tag key message at
