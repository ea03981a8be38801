-- A Map-Server drops its dead rows, one after another, and each is told.
use Rattle.std.proofs.Common.{◌≡◌, ◌≢◌, ◌⊎◌, inl, inr, ℕ, Bool, true, false, true≢false, List, [], ◌∷◌, ◌++◌, length, slice_index_or, Option, Some, None, refl, sym, ap, subst, ◌∙◌, arith}
use Rattle.std.specs.Prelude.{◌↔◌, if◌then◌else◌}
use Rattle.std.specs.List.{All, AllPairs, Contains}
use Rattle.std.specs.Option.{option_and_then}
use Rattle.std.proofs.lemmas.List.{append-nil, append_assoc, get_or_default}
use Rattle.std.proofs.lemmas.List.Elements.{All-contains, Contains-push, Contains-push_cases, Contains-append_left}
use Rattle.std.proofs.lemmas.List.Quantifiers.{all_pairs_push}
use Rattle.lisp_records.specs.declared.router.RouterId.{RouterId}
use Rattle.lisp_records.specs.Address.{PrefixValue}
use Rattle.lisp_records.specs.Row.{RowValue, is_alive}
use Rattle.lisp_lookup.specs.Table.{is_row_of, row_key, row_at, if_alive, Expires}
use Rattle.lisp_lookup.proofs.TableLaws.{has_key, found_holds}
use Rattle.lisp_refinement.specs.World.{ServerNodeState}
use Rattle.lisp_refinement.specs.Events.{ExpiresNode}
use Rattle.lisp_turns.specs.Node.{NodeState, Server, Router, Passes, IsDead, NoneDead, DropsRow, TellsDead}
use Rattle.lisp_turns.specs.Outside.{OutsideState, Prints}
use Rattle.lisp_turns.specs.Stretch.{Asks, Expires as TellsEach}
use Rattle.lisp_turns.specs.Turn.{expired_calls}
use Rattle.lisp_turns.specs.declared.outside.Printed.TheVariants as printed
use Rattle.lisp_turns.proofs.Asking.{asks_none, asks_then}

abbrev Key : Type 0
Key = RouterId × PrefixValue

-- how many rows a node has
abbrev pub row_count : NodeState → ℕ
row_count (Server n) = length n.core.rows
row_count (Router n) = 0

-- a row that is found is one of the rows, and that of its router and prefix
found : (rows : List RowValue) (key : Key) (row : RowValue) → row_at rows key.0 key.1 ≡ Some row → Contains rows row × (row_key row ≡ key)
unfolding row_at
found rows key row is = (let at = found_holds (is_row_of key.0 key.1) rows row is in (at.0, (has_key key row).0 at.1))

-- where each row is alive, none is dead
pub none_dead : (n : ServerNodeState) (now : ℕ) → All (λ row. is_alive row now ≡ true) n.core.rows → NoneDead (Server n) now
none_dead n now alive key (row, there, dead) = true≢false (sym (All-contains (λ r. is_alive r now ≡ true) n.core.rows row alive (found n.core.rows key row there).0) ∙ dead)

-- a key is the one of a row, or another
same_or_other : (row : RowValue) (key : Key) → (key ≡ row_key row) ⊎ (key ≢ row_key row)
same_or_other row key = by (is_row_of key.0 key.1 row) refl
  where
    by : (b : Bool) → is_row_of key.0 key.1 row ≡ b → (key ≡ row_key row) ⊎ (key ≢ row_key row)
    by true is = inl (sym ((has_key key row).0 is))
    by false is = inr (λ same. true≢false (sym ((has_key key row).1 (sym same)) ∙ is))

-- nothing is dead: so it is told
left_alone : (now : ℕ) (rows : List RowValue) (router : RouterId) (eid : PrefixValue) → ((row : RowValue) → row_at rows router eid ≡ Some row → is_alive row now ≡ false → ⊥)
    → row_at rows router eid ≡ option_and_then (if_alive now) (row_at rows router eid)
left_alone now rows router eid never = by (row_at rows router eid) refl
  where
    alive : (row : RowValue) (b : Bool) → is_alive row now ≡ b → (b ≡ false → ⊥) → Some row ≡ (if b then Some row else None)
    alive row true is never = refl
    alive row false is never = absurd (never refl)

    by : (o : Option RowValue) → row_at rows router eid ≡ o → o ≡ option_and_then (if_alive now) o
    by None is = refl
    by (Some row) is = alive row (is_alive row now) refl (never row is)

pub tells_none : (node : NodeState) (now : ℕ) → NoneDead node now → TellsDead node node now []
tells_none node now none = record {
  passes = by node none;
  each = λ key. (λ in_none. absurd (omega (arith, in_none.1)), λ dead. absurd (none key dead));
  once = λ i j d less within. absurd (omega (arith, within));
}
  where
    by : (n : NodeState) → NoneDead n now → Passes n n now
    by (Server n) none = record { rows = λ router eid. left_alone now n.core.rows router eid (λ row there dead. none (router, eid) (row, there, dead)); rest = refl }
    by (Router n) none = refl

-- a row was dropped, and those that were dead then are told
module _ (old mid new : ServerNodeState) (now : ℕ) (key : Key) (drops : DropsRow (Server old) (Server mid) now key) (told : List Key) (rest : TellsDead (Server mid) (Server new) now told) where
  own_key : row_key drops.0.row ≡ key
  own_key = (found old.core.rows key drops.0.row drops.0.was).1

  same_key : (other : Key) → (other ≡ key) ⊎ (other ≢ key)
  same_key other = subst (λ (k : Key). (other ≡ k) ⊎ (other ≢ k)) own_key (same_or_other drops.0.row other)

  -- it was dead, and isn't held any more
  was_dead : IsDead (Server old) now key
  was_dead = (drops.0.row, drops.0.was, drops.0.dead)

  not_held : (other : Key) → IsDead (Server mid) now other → other ≢ key
  not_held other (row, there, dead) same =
      absurd (let clash : ◌≡◌ {A = Option RowValue} (Some row) None = sym there ∙ ap (λ (k : Key). row_at mid.core.rows k.0 k.1) same ∙ drops.0.gone in cc)

  -- of any other it is as it was
  dead_before : (other : Key) → IsDead (Server mid) now other → IsDead (Server old) now other
  dead_before other (row, there, dead) = (row, sym (drops.0.others other.0 other.1 (not_held other (row, there, dead))) ∙ there, dead)

  dead_still : (other : Key) → other ≢ key → IsDead (Server old) now other → IsDead (Server mid) now other
  dead_still other differs (row, there, dead) = (row, drops.0.others other.0 other.1 differs ∙ there, dead)

  rows_passed : Expires old.core.rows new.core.rows now
  rows_passed router eid = by (same_key (router, eid))
    where
      dies : (row : RowValue) → row_at old.core.rows router eid ≡ Some row → is_alive row now ≡ false → option_and_then (if_alive now) (row_at old.core.rows router eid) ≡ None
      dies row there dead = ap (λ (o : Option RowValue). option_and_then (if_alive now) o) there ∙ ap (λ (b : Bool). if b then Some row else None) dead

      by : ((router, eid) ≡ key) ⊎ ((router, eid) ≢ key) → row_at new.core.rows router eid ≡ option_and_then (if_alive now) (row_at old.core.rows router eid)
      by (inl same) =
          rest.passes.rows router eid
          ∙ ap (λ (k : Key). option_and_then (if_alive now) (row_at mid.core.rows k.0 k.1)) same
          ∙ ap (λ (o : Option RowValue). option_and_then (if_alive now) o) drops.0.gone
          ∙ sym (dies drops.0.row (ap (λ (k : Key). row_at old.core.rows k.0 k.1) same ∙ drops.0.was) drops.0.dead)
      by (inr differs) = rest.passes.rows router eid ∙ ap (λ (o : Option RowValue). option_and_then (if_alive now) o) (drops.0.others router eid differs)

  passed : ExpiresNode old new now
  passed = record {
    rows = rows_passed;
    rest = rest.passes.rest ∙ ap (λ (n : ServerNodeState). record n { core = record n.core { rows = new.core.rows } }) drops.1;
  }

  each_told : (other : Key) → Contains (told ++ key ∷ []) other ↔ IsDead (Server old) now other
  each_told other = (λ held. there (Contains-push_cases told key other held), λ dead. back (same_key other) dead)
    where
      there : Contains told other ⊎ (key ≡ other) → IsDead (Server old) now other
      there (inl earlier) = dead_before other ((rest.each other).0 earlier)
      there (inr same) = subst (λ (k : Key). IsDead (Server old) now k) same was_dead

      back : (other ≡ key) ⊎ (other ≢ key) → IsDead (Server old) now other → Contains (told ++ key ∷ []) other
      back (inl same) dead = subst (λ (k : Key). Contains (told ++ key ∷ []) k) (sym same) (Contains-push told key)
      back (inr differs) dead = Contains-append_left told (key ∷ []) other ((rest.each other).1 (dead_still other differs dead))

  once_told : AllPairs (λ a b. a ≢ b) (told ++ key ∷ [])
  once_told = all_pairs_push (λ a b. a ≢ b) told key rest.once (λ k d within. not_held (slice_index_or told k d) ((rest.each (slice_index_or told k d)).0 (k, within, get_or_default told k (slice_index_or told k d) d within)))

  tells_server : TellsDead (Server old) (Server new) now (told ++ key ∷ [])
  tells_server = record { passes = passed; each = each_told; once = once_told }

pub tells_more : (old mid new : NodeState) (now : ℕ) (key : Key) (told : List Key) → DropsRow old mid now key → TellsDead mid new now told → TellsDead old new now (told ++ key ∷ [])
tells_more (Server old) (Server mid) (Server new) now key told drops rest = tells_server old mid new now key drops told rest
tells_more (Server old) (Server mid) (Router new) now key told drops rest = absurd rest.passes
tells_more (Server old) (Router mid) new now key told drops rest = absurd drops
tells_more (Router old) mid new now key told drops rest = absurd drops

-- dead rows were dropped so far, the newest first: with those that are dropped later they are all that die
pub record HasDropped (old new : NodeState) (now : ℕ) : Type 0 where
  pub dead : List Key
  pub all : (last : NodeState) (later : List Key) → TellsDead new last now later → TellsDead old last now (later ++ dead)

abbrev pub dropped_none : (node : NodeState) (now : ℕ) → HasDropped node node now
dropped_none node now = record { dead = []; all = λ last later rest. subst (λ (l : List Key). TellsDead node last now l) (sym (append-nil later)) rest }

abbrev pub dropped_more : {old mid new : NodeState} {now : ℕ} (key : Key) → HasDropped old mid now → DropsRow mid new now key → HasDropped old new now
dropped_more {old} {mid} {new} {now} key so_far drops = record {
  dead = key ∷ so_far.dead;
  all = λ last later rest.
      subst (λ (l : List Key). TellsDead old last now l) (append_assoc later (key ∷ []) so_far.dead)
      (so_far.all last (later ++ key ∷ []) (tells_more mid new last now key later drops rest));
}

-- once no row is dead, these were all
pub dropped_all : {old new : NodeState} {now : ℕ} (so_far : HasDropped old new now) → NoneDead new now → TellsDead old new now so_far.dead
dropped_all {old} {new} {now} so_far none = so_far.all new [] (tells_none new now none)

pub dropped_passes : {old new last : NodeState} {now : ℕ} → HasDropped old new now → NoneDead new now × (last ≡ new) → Passes old last now
dropped_passes {old} {new} {last} {now} so_far (none, same) = subst (λ (n : NodeState). Passes old n now) (sym same) (dropped_all so_far none).passes

-- and each was told
pub record HasTold (old new : NodeState) (now : ℕ) (before after : OutsideState) : Type 0 where
  pub dropped : HasDropped old new now
  pub asked : Asks before after (expired_calls dropped.dead)

pub told_none : (node : NodeState) (now : ℕ) (s : OutsideState) → HasTold node node now s s
told_none node now s = record { dropped = dropped_none node now; asked = asks_none s }

pub told_more : {old mid new : NodeState} {now : ℕ} {before s after : OutsideState} (router : RouterId) (eid : PrefixValue) → HasTold old mid now before s → DropsRow mid new now (router, eid)
    → Asks s after (Prints (printed.Expired router eid) ∷ []) → HasTold old new now before after
told_more {old} {mid} {new} {now} {before} {s} {after} router eid so_far drops asked = record {
  dropped = dropped_more (router, eid) so_far.dropped drops;
  asked = asks_then before s after (expired_calls so_far.dropped.dead) (Prints (printed.Expired router eid) ∷ []) so_far.asked asked;
}

pub told_all : {old new last : NodeState} {now : ℕ} {before after : OutsideState} → HasTold old new now before after → NoneDead new now × (last ≡ new) → TellsEach old last now before after
told_all {old} {new} {last} {now} {before} {after} so_far (none, same) =
    subst (λ (n : NodeState). TellsEach old n now before after) (sym same)
    (record { dead = so_far.dropped.dead; told = dropped_all so_far.dropped none; asked = so_far.asked })
