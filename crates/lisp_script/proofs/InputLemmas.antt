-- Reading an input byte by byte.
use Rattle.std.proofs.Common.{◌≡◌, ◌≢◌, ℕ, ◌+◌, ◌<◌, ◌≤◌, List, [], ◌∷◌, ◌++◌, length, get_or, take, Option, Some, None, refl, sym, ap, ◌∙◌, append_assoc, arith}
use Rattle.std.specs.Prelude.{IfSome}
use Rattle.std.specs.Io.KnownBytes.{Consumes, IsAtEnd, Keeps}
use Rattle.std.proofs.lemmas.List.{length-append, append-nil}

-- of a buffer of one byte, as much as a read that was not empty fills is that byte
pub take-one : (buf : List ℕ) (n : ℕ) → length buf ≡ 1 → n ≢ 0 → n ≤ length buf → take n buf ≡ get_or buf 0 0 ∷ []
take-one [] n len some fits = absurd (omega arith)
take-one (b ∷ []) n len some fits = let one : n ≡ 1 = omega arith in rw one refl
take-one (b ∷ c ∷ bs) n len some fits = absurd (omega arith)

-- what was consumed in two steps
pub Consumes-more : (old mid new : Option (List ℕ)) (front more : List ℕ) → Consumes old mid front → Consumes mid new more → Consumes old new (front ++ more)
Consumes-more None mid new front more before after = tt
Consumes-more (Some old) None new front more before after = absurd before
Consumes-more (Some old) (Some mid) None front more before after = absurd after
Consumes-more (Some old) (Some mid) (Some new) front more before after = before ∙ rw after (sym (append_assoc front more new))

-- a read that failed took nothing
pub Consumes-same : (old mid new : Option (List ℕ)) (front : List ℕ) → Consumes old mid front → Keeps mid new → Consumes old new front
Consumes-same None mid new front before keeps = tt
Consumes-same (Some old) None new front before keeps = absurd before
Consumes-same (Some old) (Some mid) None front before keeps = absurd keeps
Consumes-same (Some old) (Some mid) (Some new) front before keeps = rw keeps before

-- where nothing is left, all of it was consumed
pub Consumes-all : (old mid new : Option (List ℕ)) (front : List ℕ) → Consumes old mid front → Consumes mid new [] → IsAtEnd new → IfSome old (λ input. front ≡ input)
Consumes-all None mid new front took read end = tt
Consumes-all (Some old) None new front took read end = absurd took
Consumes-all (Some old) (Some mid) None front took read end = absurd read
Consumes-all (Some old) (Some mid) (Some new) front took read end =
    let nothing : mid ≡ [] = read ∙ end in
    sym (took ∙ rw nothing (append-nil front))

-- one byte more than those so far
pub Consumes-long : (n : ℕ) (old mid new : Option (List ℕ)) (front : List ℕ) (b : ℕ) → n ≤ length front → Consumes old mid front → Consumes mid new (b ∷ []) → IfSome old (λ input. n < length input)
Consumes-long n None mid new front b le took read = tt
Consumes-long n (Some old) None new front b le took read = absurd took
Consumes-long n (Some old) (Some mid) None front b le took read = absurd read
Consumes-long n (Some old) (Some mid) (Some new) front b le took read =
    let size : length old ≡ length front + length mid = ap length took ∙ length-append front mid in
    let some : length mid ≡ length (b ∷ new) = ap length read in
    omega arith
