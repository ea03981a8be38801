-- How many runs of replays are to be told.
use Rattle.std.proofs.Common.{ℕ, ◌+◌, ◌<◌, Bool, ◌&&◌, List, arith}
use Rattle.std.specs.Prelude.{nat_le, count_by}
use Rattle.std.proofs.lemmas.Bool.{le-leb, lt-leb}
use Rattle.lisp_log.specs.declared.replays.Replay.{Replay}
use Rattle.lisp_log.specs.Replays.{TellsReplay, is_long}
use Rattle.lisp_log.specs.Silences.{again}
use Rattle.lisp_log.proofs.Silent.{and_both, and_not, fewer_pass}

abbrev pub is_due : ℕ → Replay → Bool
is_due now r = is_long r && nat_le r.next_line now

abbrev pub count_due : ℕ → List Replay → ℕ
count_due now runs = count_by (is_due now) runs

-- one that was told is to be told no more
pub fewer : (old new : List Replay) (now : ℕ) (told : Replay) → TellsReplay old new now told → count_due now new < count_due now old
fewer old new now told t = fewer_pass (is_due now) old new t.place told (record told { next_line = now + again }) t.there t.left
    (and_both (is_long told) (nat_le told.next_line now) t.due.0 (le-leb told.next_line now t.due.1))
    (and_not (is_long told) (nat_le (now + again) now) (lt-leb (now + again) now (omega arith)))
