use Rattle.std.proofs.Common.{◌≡◌, ℕ, ◌<◌, ◌≤◌}
use Rattle.std.specs.Prelude.{◌||◌}
use Rattle.lisp_refinement.specs.World.{is_used}
use Rattle.lisp_nodes.proofs.used_keys.add_all.Given as goal

-- those below the present one are added, and the others aren't yet
abbrev pub invariant-loop-key : goal.invariant-loop-key
invariant-loop-key l =
    ((k : ℕ) → k < l.key → is_used l.used k ≡ (is_used l.more k || is_used l.initial.used k))
    × ((k : ℕ) → l.key ≤ k → is_used l.used k ≡ is_used l.initial.used k)
