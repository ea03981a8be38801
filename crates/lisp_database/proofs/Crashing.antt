-- What a crash leaves of two saves.
use Rattle.std.proofs.Common.{◌≡◌, ◌≢◌, ◌⊎◌, inl, inr, ℕ, false, Option, Some, None, sym, ap, subst, ◌∙◌}
use Rattle.std.specs.Prelude.{IfSome}
use Rattle.sqlite.specs.Tree.{Trees}
use Rattle.sqlite.specs.State.{State}
use Rattle.lisp_nonces.specs.declared.pair.Pair.{Pair}
use Rattle.lisp_store.specs.PairName.{IsPair}
use Rattle.lisp_database.specs.Kept.{IsOfNonces, Keeps, rows_of, SavesNonce, CommitsSave}

pub if_both : {X : Type 0} (o : Option X) (P Q R : X → Type 0) → ((x : X) → P x → Q x → R x) → IfSome o P → IfSome o Q → IfSome o R
if_both None P Q R f p q = tt
if_both (Some x) P Q R f p q = f x p q

module _ (old mid : State) (pair : Pair) (first second : ℕ) (db : Trees) (outside : old.in_transaction ≡ false) (saved : SavesNonce old mid pair first) where
  abbrev Left : Type 0
  Left = mid.may_leave db ⊎ (IsOfNonces mid.now → CommitsSave mid pair second db)

  pub keeps : Left → Keeps db pair (Some first) ⊎ Keeps db pair (Some second)
  keeps (inl may) = inl (subst (λ (t : Trees). Keeps t pair (Some first)) (sym (saved.durable outside db may)) saved.saved.kept)
  keeps (inr commits) = inr (commits saved.table).saved.kept

  pub others : Left → (q : Pair) → IsPair q → q ≢ pair → rows_of db q ≡ rows_of old.now.trees q
  others (inl may) q is other = ap (λ (t : Trees). rows_of t q) (saved.durable outside db may) ∙ saved.saved.others q is other
  others (inr commits) q is other = (commits saved.table).saved.others q is other ∙ saved.saved.others q is other
