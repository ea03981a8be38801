-- Commands are taken one after the other.
use Rattle.std.proofs.Common.{◌≡◌, ℕ, suc, zero, ◌+◌, ◌-◌, ◌<◌, ◌≤◌, List, [], ◌∷◌, map, length, drop, Option, slice_range, refl, sym, subst, arith}
use Rattle.lisp_refinement.specs.World.{WorldState}
use Rattle.lisp_script.specs.Command.{CommandValue}
use Rattle.lisp_udp.specs.Network.{TakesCommand, TakesAll}
use Rattle.lisp_udp.specs.Sockets.{SocketValue}
use Rattle.lisp_udp.proofs.Sending.{drop_past, next_of}

-- what stands at a place, before what follows it
record StandsAt {X : Type 0} (xs : List X) (k : ℕ) : Type 0 where
  item : X
  first : drop k xs ≡ item ∷ drop (suc k) xs

stands_at : {X : Type 0} (xs : List X) (k : ℕ) → k < length xs → StandsAt xs k
stands_at [] k within = absurd (omega (arith, within))
stands_at (x ∷ xs) zero within = record { item = x; first = refl }
stands_at (x ∷ xs) (suc k) within = let there = stands_at xs k (omega (arith, within)) in record { item = there.item; first = there.first }

-- a range of one place has it alone
alone : {X : Type 0} (xs : List X) (k : ℕ) (x : X) (others : List X) → drop k xs ≡ x ∷ others → slice_range xs k (k + 1) ≡ x ∷ []
alone xs k x others first =
    let one : (k + 1) - k ≡ 1 = omega arith in
    rw (one, first) refl

-- those up to the one with a number were taken: what takes the others makes it all
module _ {X : Type 0} (value : X → CommandValue) (Plays : WorldState → WorldState → List CommandValue → Option (List ℕ) → Option (List ℕ) → Type 0)
    (old : WorldState) (sockets : List SocketValue) (before : Option (List ℕ)) (commands : List X) where
  abbrev pub TakenSoFar : WorldState → List SocketValue → Option (List ℕ) → ℕ → Type 0
  TakenSoFar now heard told k = (new : WorldState) (left : List SocketValue) (after : Option (List ℕ))
      → TakesAll Plays now new heard left (map value (drop k commands)) told after → TakesAll Plays old new sockets left (map value commands) before after

  pub taken_more : (now between : WorldState) (heard left : List SocketValue) (told after : Option (List ℕ)) (k : ℕ) → TakenSoFar now heard told k → k < length commands
      → TakesCommand (Plays now between (map value (slice_range commands k (k + 1)))) now between heard left (map value (slice_range commands k (k + 1))) told after
      → TakenSoFar between left after (k + 1)
  taken_more now between heard left told after k so_far within takes new last end rest =
      let there = stands_at commands k within in
      let others = subst (λ n. TakesAll Plays between new left last (map value (drop n commands)) after end) (sym (next_of k)) rest in
      so_far new last end (rw there.first (between, left, after, rw (alone commands k there.item (drop (suc k) commands) there.first) at takes, others))

  pub taken_all : (now : WorldState) (heard : List SocketValue) (told : Option (List ℕ)) (k : ℕ) → TakenSoFar now heard told k → length commands ≤ k
      → TakesAll Plays old now sockets heard (map value commands) before told
  taken_all now heard told k so_far past = so_far now heard told (rw (drop_past commands k past) (refl, refl, refl))
