-- Life: when the present life of a node began. A Map-Server that has just started holds no rows yet, so that it doesn't
-- know which prefixes are missing (RFC 9301 section 8.3).
use Rattle.std.specs.Prelude.{ℕ, ◌==◌, List, [], ◌∷◌, if◌then◌else◌}
use Rattle.lisp_model.specs.declared.line.Line.TheVariants as lines
use Rattle.lisp_model.specs.Trace.{Step, clock, Line}

-- a restart begins a life at its moment, and so do sites under which a Map-Server starts anew
abbrev pub began_after : Line → ℕ → ℕ → ℕ → ℕ
began_after (lines.Restarted node) now k old = if node == k then now else old
began_after (lines.Renewed server _) now k old = if server == k then now else old
began_after _ now k old = old

-- the moment, in ms, when a node's present life began; 0 for its first
abbrev pub began : List Step → ℕ → ℕ
began [] k = 0
began (s ∷ T) k = began_after s.line (clock T) k (began T k)
