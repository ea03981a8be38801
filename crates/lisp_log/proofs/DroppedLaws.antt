-- What becomes of a second's sums where there is no room for them.
use Rattle.std.proofs.Common.{◌≡◌, ℕ, zero, suc, ◌+◌, ◌^◌, ◌<◌, ◌≤◌, Bool, true, false, ◌&&◌, List, [], ◌∷◌, ◌++◌, length, refl, sym, ap, ◌∙◌, inl, inr, arith, append-nil, append_assoc}
use Rattle.std.specs.Prelude.{nat_le, ◌==◌, if◌then◌else◌}
use Rattle.std.specs.Bool.{⊤}
use Rattle.std.specs.List.{flat_map}
use Rattle.std.proofs.lemmas.Bool.{eqb-true, true≢false}
use Rattle.std.proofs.lemmas.List.Sums.{sum_by-cons, sum_by-append}
use Rattle.lisp_log.specs.declared.repeats.Repeat.{Repeat}
use Rattle.lisp_log.specs.Text.{repeat_text}
use Rattle.lisp_log.specs.Waiting.{WaitingState, put_sum, drops, room}
use Rattle.lisp_log.specs.Log.{Sum, PutsSum, PutsAll, sum_of, sums}
use Rattle.lisp_log.specs.Sums.{events_in, Waits, DroppedSumsAreCounted}
use Rattle.lisp_log.proofs.SumLaws.{events_are}

-- each of these sums tells some
abbrev EachTells : List Sum → Type 0
EachTells [] = ⊤
EachTells (s ∷ ss) = (1 ≤ s.events) × EachTells ss

tells_both : (ss others : List Sum) → EachTells ss → EachTells others → EachTells (ss ++ others)
tells_both [] others first second = second
tells_both (s ∷ ss) others first second = (first.0, tells_both ss others first.1 second)

one_some : (name : List ℕ) (r : Repeat) (none : Bool) → (r.times == 0) ≡ none → EachTells (if none then [] else record { text = repeat_text name r; events = r.times } ∷ [])
one_some name r true is = tt
one_some name r false is = (some r.times is, tt)
  where
    some : (n : ℕ) → (n == 0) ≡ false → 1 ≤ n
    some zero none = absurd (true≢false none)
    some (suc n) more = omega arith

each_tells : (name : List ℕ) (entries : List Repeat) → EachTells (sums name entries)
each_tells name [] = tt
each_tells name (r ∷ entries) = tells_both (sum_of name r) (sums name entries) (one_some name r (r.times == 0) refl) (each_tells name entries)

-- where some are dropped, all are
has_dropped : (w : WaitingState) (fits : Bool) → 1 ≤ w.dropped → (w.dropped == 0 && fits) ≡ false
has_dropped w fits some = tested (w.dropped == 0) fits refl
  where
    tested : (none b : Bool) → (w.dropped == 0) ≡ none → (none && b) ≡ false
    tested true b is = let zero = eqb-true w.dropped 0 is in absurd (omega (arith, zero, some))
    tested false b is = refl

pub drops_more : (w : WaitingState) (events : ℕ) → w.dropped + events < 2 ^ 64 → (drops w events).dropped ≡ w.dropped + events
drops_more w events within = omega (arith, within)

module _ (may_refuse : Type 0) where
  -- a sum is dropped behind another that was
  drops_it : (old new : WaitingState) (s : Sum) → 1 ≤ old.dropped → PutsSum may_refuse old new s → new ≡ drops old s.events
  drops_it old new s some (inl put) = put ∙ ap (λ (b : Bool). if b then record old { bytes = old.bytes ++ s.text } else drops old s.events) (has_dropped old (nat_le (length old.bytes + length s.text) room) some)
  drops_it old new s some (inr lost) = lost.1

  -- and all are
  drops_all : (all : List Sum) (old new : WaitingState) → 1 ≤ old.dropped → old.dropped + events_in all < 2 ^ 64 → PutsAll may_refuse old new all → (new.bytes ≡ old.bytes) × (new.dropped ≡ old.dropped + events_in all)
  drops_all [] old new some within is = (ap (λ (w : WaitingState). w.bytes) is, let same = ap (λ (w : WaitingState). w.dropped) is in omega (arith, same))
  drops_all (s ∷ ss) old new some within (between, puts, rest) =
      let sum = sum_by-cons (λ (x : Sum). x.events) s ss in
      let is = drops_it old between s some puts in
      let more : between.dropped ≡ old.dropped + s.events = ap (λ (w : WaitingState). w.dropped) is ∙ drops_more old s.events (omega (arith, sum, within)) in
      let others = drops_all ss between new (omega (arith, more, some)) (omega (arith, more, sum, within)) rest in
      (others.0 ∙ ap (λ (w : WaitingState). w.bytes) is, omega (arith, others.1, more, sum))

  -- one is dropped, and so are all behind it
  module _ (s : Sum) (ss : List Sum) (old between new : WaitingState) (some : 1 ≤ s.events) (within : old.dropped + events_in (s ∷ ss) < 2 ^ 64) where
    waits_none : between ≡ drops old s.events → PutsAll may_refuse between new ss → Waits old new (s ∷ ss)
    waits_none is rest =
        let sum = sum_by-cons (λ (x : Sum). x.events) s ss in
        let more : between.dropped ≡ old.dropped + s.events = ap (λ (w : WaitingState). w.dropped) is ∙ drops_more old s.events (omega (arith, sum, within)) in
        let others = drops_all ss between new (omega (arith, more, some)) (omega (arith, more, sum, within)) rest in
        record {
          first = [];
          others = s ∷ ss;
          all_are = refl;
          bytes = others.0 ∙ ap (λ (w : WaitingState). w.bytes) is ∙ sym (append-nil old.bytes);
          dropped = omega (arith, others.1, more, sum);
        }

  -- one waits, and then others
  waits_too : (s : Sum) (ss : List Sum) (old between new : WaitingState) → between ≡ record old { bytes = old.bytes ++ s.text } → Waits between new ss → Waits old new (s ∷ ss)
  waits_too s ss old between new is waits = record {
    first = s ∷ waits.first;
    others = waits.others;
    all_are = ap (λ (xs : List Sum). s ∷ xs) waits.all_are;
    bytes = waits.bytes ∙ ap (λ (w : WaitingState). w.bytes ++ flat_map (λ (x : Sum). x.text) waits.first) is ∙ append_assoc old.bytes s.text (flat_map (λ (x : Sum). x.text) waits.first);
    dropped = waits.dropped ∙ ap (λ (w : WaitingState). w.dropped + events_in waits.others) is;
  }

  -- one waits where there is room
  waits_if : (s : Sum) (ss : List Sum) (old between new : WaitingState) → 1 ≤ s.events → old.dropped + events_in (s ∷ ss) < 2 ^ 64 → between ≡ put_sum old s.text s.events → PutsAll may_refuse between new ss
      → (between.dropped ≡ old.dropped → Waits between new ss) → (fits : Bool) → (old.dropped == 0 && nat_le (length old.bytes + length s.text) room) ≡ fits → Waits old new (s ∷ ss)
  waits_if s ss old between new some within put rest others false is =
      waits_none s ss old between new some within (put ∙ ap (λ (b : Bool). if b then record old { bytes = old.bytes ++ s.text } else drops old s.events) is) rest
  waits_if s ss old between new some within put rest others true is =
      let same : between ≡ record old { bytes = old.bytes ++ s.text } = put ∙ ap (λ (b : Bool). if b then record old { bytes = old.bytes ++ s.text } else drops old s.events) is in
      waits_too s ss old between new same (others (ap (λ (w : WaitingState). w.dropped) same))

  -- each waits, up to one that is dropped
  waits_all : (all : List Sum) (old new : WaitingState) → EachTells all → old.dropped + events_in all < 2 ^ 64 → PutsAll may_refuse old new all → Waits old new all
  waits_all [] old new some within is = record {
    first = [];
    others = [];
    all_are = refl;
    bytes = ap (λ (w : WaitingState). w.bytes) is ∙ sym (append-nil old.bytes);
    dropped = let same = ap (λ (w : WaitingState). w.dropped) is in omega (arith, same);
  }
  waits_all (s ∷ ss) old new some within (between, inr lost, rest) = waits_none s ss old between new some.0 within lost.1 rest
  waits_all (s ∷ ss) old new some within (between, inl put, rest) =
      let sum = sum_by-cons (λ (x : Sum). x.events) s ss in
      waits_if s ss old between new some.0 within put rest (λ kept. waits_all ss between new some.1 (omega (arith, kept, sum, within)) rest) (old.dropped == 0 && nat_le (length old.bytes + length s.text) room) refl

  pub dropped_sums_are_counted : DroppedSumsAreCounted may_refuse
  dropped_sums_are_counted events entries name old new left puts within =
      let untold = events_are events entries left name in
      let waits = waits_all (sums name entries) old new (each_tells name entries) (omega (arith, untold, within)) puts in
      record {
        waits = waits;
        none_lost = sym (sum_by-append (λ (s : Sum). s.events) waits.first waits.others) ∙ ap (λ (all : List Sum). events_in all) (sym waits.all_are) ∙ untold;
      }
