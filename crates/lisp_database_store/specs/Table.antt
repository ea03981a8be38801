-- What a call makes of a database that may be open.
use Rattle.std.specs.Prelude.{◌≡◌, ℕ, List, [], ◌∷◌, All, Option, Some, None}
use Rattle.lisp_nonces.specs.declared.pair.Pair.{Pair}
use Rattle.lisp_store.specs.declared.kept_nonce.KeptNonce.{KeptNonce}
use Rattle.lisp_store.specs.declared.writer.Writer.{Writer}
use Rattle.lisp_database_store.specs.Meaning.{Meaning}

module _ {T : Type 0} where
  -- it is open, and so
  abbrev pub IsOpen : Option T → (T → Type 0) → Type 0
  IsOpen table P = (t : T) × (table ≡ Some t) × P t

-- What follows is told in the words of the table.
module _ {T : Type 0} (means : Meaning T) where
  -- a call used the table that was open, or one that it opened, which has our tables; one is open now, and both are so
  pub record Uses (old new : Option T) (P : T → T → Type 0) : Type 0 where
    pub used : T
    pub same : (t : T) → old ≡ Some t → t ≡ used
    pub anew : old ≡ None → means.has_tables used
    pub left : IsOpen new (P used)

  -- a load found a nonce for a pair, or nothing
  abbrev pub Finds : Option T → Option T → Pair → Option ℕ → Type 0
  Finds old new pair nonce = Uses old new (λ used left. means.is_of_nonces used → means.has_clean_disk left → means.keeps used pair nonce)

  -- a load changed nothing
  abbrev pub LeavesAll : Option T → Option T → Type 0
  LeavesAll old new = Uses old new (λ used left. means.has_tables used → means.has_clean_disk left → means.is_unchanged used left)

  -- a save kept a nonce for a pair
  abbrev pub Saves : Option T → Option T → Pair → ℕ → Type 0
  Saves old new pair nonce = Uses old new (λ used left. means.is_of_nonces used → means.has_clean_disk left → means.saves_nonce used left pair nonce)

  -- a nonce was forgotten
  abbrev pub Forgets : Option T → Option T → Pair → Type 0
  Forgets old new pair = Uses old new (λ used left. means.is_of_nonces used → means.has_clean_disk left → means.forgets used left pair)

  -- each of these nonces was found for its pair
  abbrev pub FindsEach : Option T → Option T → List KeptNonce → Type 0
  FindsEach old new nonces = Uses old new (λ used left. means.is_of_nonces used → means.has_clean_disk left → All (λ kept. means.keeps used kept.pair (Some kept.nonce)) nonces)

  -- the greater nonce is kept for a pair
  abbrev pub SavesGreatest : Option T → Option T → Pair → ℕ → Type 0
  SavesGreatest old new pair nonce = Uses old new (λ used left. means.is_of_nonces used → means.has_clean_disk left → means.keeps_greatest used left pair nonce)

  -- a transaction was begun, and one was committed
  abbrev pub Begins : Option T → Option T → Type 0
  Begins old new = Uses old new (λ used left. means.has_tables used → means.has_clean_disk left → means.begins_group used left)

  abbrev pub Commits : Option T → Option T → Type 0
  Commits old new = Uses old new (λ used left. means.has_tables used → means.has_clean_disk left → means.commits_group used left)

  -- of each of these nonces and what was kept for its pair the greater is kept, one after the other
  abbrev pub SavesEach : Option T → Option T → List KeptNonce → Type 0
  SavesEach old new [] = new ≡ old
  SavesEach old new (kept ∷ more) = (next : Option T) × SavesGreatest old next kept.pair kept.nonce × SavesEach next new more

  -- in one transaction, which is committed, and nothing waits any more
  pub record TakesAll (old new : Option T) (nonces : List KeptNonce) : Type 0 where
    pub begun : Option T
    pub saved : Option T
    pub begins : Begins old begun
    pub each : SavesEach begun saved nonces
    pub commits : Commits saved new
    pub settled : IsOpen new means.is_committed

  -- pairs were counted
  abbrev pub CountsPairs : Option T → Option T → ℕ → Type 0
  CountsPairs old new count = Uses old new (λ used left. means.has_tables used → means.has_clean_disk left → means.counts_pairs used count)

  -- a load found who wrote last, or nobody
  abbrev pub FindsWriter : Option T → Option T → Option Writer → Type 0
  FindsWriter old new writer = Uses old new (λ used left. means.has_clean_disk left → means.finds_writer used left writer)

  -- a save kept who wrote last
  abbrev pub SavesWriter : Option T → Option T → Writer → Type 0
  SavesWriter old new writer = Uses old new (λ used left. means.has_clean_disk left → means.saves_writer used left writer)
