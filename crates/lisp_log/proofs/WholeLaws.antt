-- What is written is whole lines.
use Rattle.std.proofs.Common.{◌≡◌, ℕ, ◌+◌, ◌^◌, ◌<◌, Bool, true, false, ◌&&◌, List, [], ◌∷◌, ◌++◌, length, Some, refl, sym, ap, ◌∙◌, subst, inl, inr, arith, append_assoc}
use Rattle.std.specs.Prelude.{nat_le, ◌==◌, if◌then◌else◌}
use Rattle.std.proofs.lemmas.Bool.{eqb-true, true≢false}
use Rattle.std.proofs.lemmas.Option.{same_Some}
use Rattle.lisp_log.specs.Waiting.{WaitingState, drops, dropped_text, room, IsOwed, Pours}
use Rattle.lisp_log.specs.Whole.{Happening, put, unmade, pour, Written, line, dropped, texts, events_in, events_of, Accounts, IsWhole, WrittenIsWhole}
use Rattle.lisp_log.proofs.DroppedLaws.{drops_more}

-- what is written and what is missing make up all events
all_events : (happenings : List Happening) (written : List Written) (missing : ℕ) → Accounts happenings written missing → events_of written + missing ≡ events_in happenings
all_events [] written missing (none, is) = let written_none = ap events_of none in omega (arith, written_none, is)
all_events (put bytes events ∷ earlier) written missing (inl (older, is, none, rest)) =
    let newest = ap events_of is in let before = all_events earlier older 0 rest in omega (arith, newest, before, none)
all_events (put bytes events ∷ earlier) written missing (inr (fewer, more, rest)) = omega (arith, all_events earlier written fewer rest, more)
all_events (unmade events ∷ earlier) written missing (fewer, more, rest) = omega (arith, all_events earlier written fewer rest, more)
all_events (pour ∷ earlier) written missing (inl rest) = all_events earlier written missing rest
all_events (pour ∷ earlier) written missing (inr (older, count, is, some, none, rest)) =
    let newest = ap events_of is in let before = all_events earlier older count rest in omega (arith, newest, before, none)

-- what is to be shown of each history
whole : (happenings : List Happening) (taken : List ℕ) (state : WaitingState) (written : List Written) → taken ++ state.bytes ≡ texts written → Accounts happenings written state.dropped → IsWhole happenings taken state
whole happenings taken state written is accounts = record { written = written; texts_are = is; accounts = accounts; none_lost = all_events happenings written state.dropped accounts }

and_left : (a b : Bool) → (a && b) ≡ true → a ≡ true
and_left true b both = refl
and_left false b both = absurd (true≢false (sym both))

module _ (earlier : List Happening) (taken : List ℕ) (old : WaitingState) (events : ℕ) (short : events_in earlier + events < 2 ^ 64) (before : IsWhole earlier taken old) where
  more : (drops old events).dropped ≡ old.dropped + events
  more = drops_more old events (omega (arith, before.none_lost, short))

  put_whole : (bytes : List ℕ) (fits : Bool) → (old.dropped == 0 && nat_le (length old.bytes + length bytes) room) ≡ fits → IsWhole (put bytes events ∷ earlier) taken (if fits then record old { bytes = old.bytes ++ bytes } else drops old events)
  put_whole bytes true tested =
      let none : old.dropped ≡ 0 = eqb-true old.dropped 0 (and_left (old.dropped == 0) (nat_le (length old.bytes + length bytes) room) tested) in
      whole (put bytes events ∷ earlier) taken (record old { bytes = old.bytes ++ bytes }) (line bytes events ∷ before.written)
      (sym (append_assoc taken old.bytes bytes) ∙ ap (λ (t : List ℕ). t ++ bytes) before.texts_are)
      (inl (before.written, refl, none, subst (λ (n : ℕ). Accounts earlier before.written n) none before.accounts))
  put_whole bytes false tested = whole (put bytes events ∷ earlier) taken (drops old events) before.written before.texts_are (inr (old.dropped, more, before.accounts))

  unmade_whole : IsWhole (unmade events ∷ earlier) taken (drops old events)
  unmade_whole = whole (unmade events ∷ earlier) taken (drops old events) before.written before.texts_are (old.dropped, more, before.accounts)

-- a sink took a front of what is owed to it
pour_whole : (earlier : List Happening) (before taken : List ℕ) (old new : WaitingState) → IsWhole earlier before old → Pours old new (Some before) (Some taken) → IsWhole (pour ∷ earlier) taken new
pour_whole earlier before taken old new was pours = owes pours.owed
  where
    all : taken ++ new.bytes ≡ before ++ (pours.poured ++ new.bytes)
    all = ap (λ (t : List ℕ). t ++ new.bytes) (same_Some taken (before ++ pours.poured) pours.taken) ∙ append_assoc before pours.poured new.bytes

    owes : IsOwed old new (pours.poured ++ new.bytes) → IsWhole (pour ∷ earlier) taken new
    owes (inl (owed, same)) = whole (pour ∷ earlier) taken new was.written (all ∙ ap (λ (t : List ℕ). before ++ t) owed ∙ was.texts_are)
        (inl (subst (λ (n : ℕ). Accounts earlier was.written n) (sym same) was.accounts))
    owes (inr (owed, none, some)) = whole (pour ∷ earlier) taken new (dropped old.dropped ∷ was.written)
        (all ∙ ap (λ (t : List ℕ). before ++ t) owed ∙ sym (append_assoc before old.bytes (dropped_text old.dropped)) ∙ ap (λ (t : List ℕ). t ++ dropped_text old.dropped) was.texts_are)
        (inr (was.written, old.dropped, refl, some, none, was.accounts))

pub written_is_whole : WrittenIsWhole
written_is_whole [] taken state (none, is) short = whole [] taken state [] (ap (λ (t : List ℕ). t ++ state.bytes) none ∙ ap (λ (w : WaitingState). w.bytes) is) (refl, ap (λ (w : WaitingState). w.dropped) is)
written_is_whole (put bytes events ∷ earlier) taken state (old, before, is) short =
    subst (λ (w : WaitingState). IsWhole (put bytes events ∷ earlier) taken w) (sym is) (
    put_whole earlier taken old events short (written_is_whole earlier taken old before (omega (arith, short))) bytes (old.dropped == 0 && nat_le (length old.bytes + length bytes) room) refl)
written_is_whole (unmade events ∷ earlier) taken state (old, before, is) short =
    subst (λ (w : WaitingState). IsWhole (unmade events ∷ earlier) taken w) (sym is) (unmade_whole earlier taken old events short (written_is_whole earlier taken old before (omega (arith, short))))
written_is_whole (pour ∷ earlier) taken state (old, had, before, pours) short =
    pour_whole earlier had taken old state (written_is_whole earlier had old before short) pours
