-- Reading a line byte by byte.
use Rattle.std.proofs.Common.{◌≡◌, ◌≢◌, ℕ, ◌+◌, ◌<◌, ◌≤◌, Bool, true, false, cond, eqb, List, [], ◌∷◌, ◌++◌, length, get_or, take, Option, Some, None, refl, sym, ap, ◌∙◌, append_assoc, arith}
use Rattle.std.specs.Prelude.{IfSome, ⊤}
use Rattle.std.specs.Io.BufRead.{take_through}
use Rattle.std.specs.Io.KnownBytes.{Consumes, IsAtEnd, Keeps}
use Rattle.std.proofs.lemmas.Bool.{ne_eqb}
use Rattle.std.proofs.lemmas.List.{length-append, append-nil}

-- of the bytes that were left, the line so far is the front, and what still comes of it is left
abbrev pub TakesFront : Option (List ℕ) → Option (List ℕ) → List ℕ → Type 0
TakesFront (Some old) (Some new) line = take_through 10 old ≡ line ++ take_through 10 new
TakesFront None new line = ⊤
TakesFront (Some old) None line = ⊥

-- of a buffer of one byte, as much as a read that was not empty fills is that byte
pub take-one : (buf : List ℕ) (n : ℕ) → length buf ≡ 1 → n ≢ 0 → n ≤ length buf → take n buf ≡ get_or buf 0 0 ∷ []
take-one [] n len some fits = absurd (omega arith)
take-one (b ∷ []) n len some fits = let one : n ≡ 1 = omega arith in rw one refl
take-one (b ∷ c ∷ bs) n len some fits = absurd (omega arith)

-- a byte that ends no line goes on with it
take_through-more : (b : ℕ) (bytes : List ℕ) → b ≢ 10 → take_through 10 (b ∷ bytes) ≡ b ∷ take_through 10 bytes
take_through-more b bytes other = let no_end : eqb b 10 ≡ false = ne_eqb b 10 other in rw no_end refl

-- one more byte of the line
pub Took-more : (old mid new : Option (List ℕ)) (line : List ℕ) (b : ℕ) → b ≢ 10 → TakesFront old mid line → Consumes mid new (b ∷ []) → TakesFront old new (line ++ b ∷ [])
Took-more None mid new line b other took read = tt
Took-more (Some old) None new line b other took read = absurd took
Took-more (Some old) (Some mid) None line b other took read = absurd read
Took-more (Some old) (Some mid) (Some new) line b other took read =
    took ∙ rw (read, take_through-more b new other) (sym (append_assoc line (b ∷ []) (take_through 10 new)))

-- the line feed, which ends it
pub Took-last : (old mid new : Option (List ℕ)) (line all : List ℕ) (b : ℕ) → b ≡ 10 → all ≡ line ++ b ∷ [] → TakesFront old mid line → Consumes mid new (b ∷ []) → IfSome old (λ input. all ≡ take_through 10 input)
Took-last None mid new line all b ends is took read = tt
Took-last (Some old) None new line all b ends is took read = absurd took
Took-last (Some old) (Some mid) None line all b ends is took read = absurd read
Took-last (Some old) (Some mid) (Some new) line all b ends is took read =
    let last : take_through 10 mid ≡ b ∷ [] = rw (read, ends) refl in
    is ∙ sym (took ∙ ap (λ (t : List ℕ). line ++ t) last)

-- nothing more of it
pub Took-end : (old mid new : Option (List ℕ)) (line : List ℕ) → TakesFront old mid line → Consumes mid new [] → IsAtEnd new → IfSome old (λ input. line ≡ take_through 10 input)
Took-end None mid new line took read end = tt
Took-end (Some old) None new line took read end = absurd took
Took-end (Some old) (Some mid) None line took read end = absurd read
Took-end (Some old) (Some mid) (Some new) line took read end =
    let nothing : mid ≡ [] = read ∙ end in
    sym (took ∙ rw nothing (append-nil line))

-- a byte that is read belongs to the line, or ends it
length-take_through : (b : ℕ) (bytes : List ℕ) → 1 ≤ length (take_through 10 (b ∷ bytes))
length-take_through b bytes = elim (eqb b 10) as (λ (e : Bool). 1 ≤ length (cond e (b ∷ []) (b ∷ take_through 10 bytes))) [ true ↦ omega arith | false ↦ omega arith ]

-- one byte more than the line so far
pub Took-long : (n : ℕ) (old mid new : Option (List ℕ)) (line : List ℕ) (b : ℕ) → n ≤ length line → TakesFront old mid line → Consumes mid new (b ∷ []) → IfSome old (λ input. n < length (take_through 10 input))
Took-long n None mid new line b le took read = tt
Took-long n (Some old) None new line b le took read = absurd took
Took-long n (Some old) (Some mid) None line b le took read = absurd read
Took-long n (Some old) (Some mid) (Some new) line b le took read =
    let size : length (take_through 10 old) ≡ length line + length (take_through 10 mid) = ap length took ∙ length-append line (take_through 10 mid) in
    let some : 1 ≤ length (take_through 10 mid) = rw read (length-take_through b new) in
    omega arith

-- what was consumed in two steps
pub Consumes-more : (old mid new : Option (List ℕ)) (line more : List ℕ) → Consumes old mid line → Consumes mid new more → Consumes old new (line ++ more)
Consumes-more None mid new line more before after = tt
Consumes-more (Some old) None new line more before after = absurd before
Consumes-more (Some old) (Some mid) None line more before after = absurd after
Consumes-more (Some old) (Some mid) (Some new) line more before after = before ∙ rw after (sym (append_assoc line more new))

-- a read that failed took nothing
pub Took-same : (old mid new : Option (List ℕ)) (line : List ℕ) → TakesFront old mid line → Keeps mid new → TakesFront old new line
Took-same None mid new line took keeps = tt
Took-same (Some old) None new line took keeps = absurd took
Took-same (Some old) (Some mid) None line took keeps = absurd keeps
Took-same (Some old) (Some mid) (Some new) line took keeps = rw keeps took

pub Consumes-same : (old mid new : Option (List ℕ)) (line : List ℕ) → Consumes old mid line → Keeps mid new → Consumes old new line
Consumes-same None mid new line before keeps = tt
Consumes-same (Some old) None new line before keeps = absurd before
Consumes-same (Some old) (Some mid) None line before keeps = absurd keeps
Consumes-same (Some old) (Some mid) (Some new) line before keeps = rw keeps before
