-- A message with its own tag as its Authentication Data is authentic.
use Rattle.std.proofs.Common.{◌≡◌, ℕ, ◌≤◌, List, [], ◌++◌, length, take, drop, replicate, refl, sym, ap, ◌∙◌, append_assoc, arith}
use Rattle.std.specs.Prelude.{slice_range}
use Rattle.std.proofs.lemmas.List.{take_at, drop_at, length-append}
use Rattle.lisp_hmac.specs.Tag.{hmac, without_tag, tag}
use Rattle.lisp_hmac.proofs.TagLemmas.{length-tag}
use Rattle.lisp_messages.specs.Message.{MapRegisterValue, MapNotifyValue}
use Rattle.lisp_messages.specs.Written.{written_notify_head, written_records, written_notify, written_register_head, written_ids, written_register}
use Rattle.lisp_messages.specs.Authentic.{IsAuthentic, signed}

-- a message without its tag has zeros there, whatever stood there
pub without_tag-parts : (head auth rest : List ℕ) → length head ≡ 16 → length auth ≡ 16 → without_tag (head ++ (auth ++ rest)) 16 ≡ (head ++ replicate 16 0) ++ rest
without_tag-parts head auth rest len wide =
    let both : length (head ++ auth) ≡ 32 = omega (arith, length-append head auth) in
    let behind : drop 32 (head ++ (auth ++ rest)) ≡ rest = ap (drop 32) (sym (append_assoc head auth rest)) ∙ drop_at (head ++ auth) rest 32 both in
    rw (take_at head (auth ++ rest) 16 len, behind) refl

-- the tag does not depend on its own bytes
pub tag-parts : (secret head auth other rest : List ℕ) → length head ≡ 16 → length auth ≡ 16 → length other ≡ 16 → tag secret (head ++ (auth ++ rest)) 16 ≡ tag secret (head ++ (other ++ rest)) 16
unfolding tag
tag-parts secret head auth other rest len wide wide_too = ap (λ (t : List ℕ). take 16 (hmac secret t)) (without_tag-parts head auth rest len wide ∙ sym (without_tag-parts head other rest len wide_too))

-- bytes 16 to 32 are what stands behind 16 bytes
pub slice_range-auth : (head auth rest : List ℕ) → length head ≡ 16 → length auth ≡ 16 → slice_range (head ++ (auth ++ rest)) 16 32 ≡ auth
slice_range-auth head auth rest len wide = rw (drop_at head (auth ++ rest) 16 len) (take_at auth rest 16 wide)

-- a message with its own tag behind its first 16 bytes is authentic
pub signed_is_authentic_of : (secret head rest : List ℕ) → length head ≡ 16 → IsAuthentic (signed secret (λ auth. head ++ (auth ++ rest))) secret
signed_is_authentic_of secret head rest len =
    let zeros : List ℕ = replicate 16 0 in
    let own : List ℕ = tag secret (head ++ (zeros ++ rest)) 16 in
    let wide : length own ≡ 16 = length-tag secret (head ++ (zeros ++ rest)) 16 in
    let long : 32 ≤ length (head ++ (own ++ rest)) = omega (arith, length-append head (own ++ rest), length-append own rest) in
    (long, slice_range-auth head own rest len wide ∙ tag-parts secret head zeros own rest len refl wide)

-- a Map-Notify with its own tag is authentic
pub signed_is_authentic : (secret : List ℕ) (m : MapNotifyValue) → IsAuthentic (signed secret (written_notify m)) secret
unfolding written_notify
signed_is_authentic secret m = signed_is_authentic_of secret (written_notify_head m []) (written_records m.records) refl

-- a Map-Register with its own tag is authentic
pub signed_register_is_authentic : (secret : List ℕ) (m : MapRegisterValue) → IsAuthentic (signed secret (written_register m)) secret
unfolding written_register
signed_register_is_authentic secret m =
    signed_is_authentic_of secret (written_register_head m []) (written_records m.records ++ written_ids m) refl
