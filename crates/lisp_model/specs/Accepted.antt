-- Accepted: the Map-Registers that a server ever accepted, and the numbers that it tried (RFC 9301 section
-- 5.6). Lists have the last one first.
use Rattle.std.specs.Prelude.{ℕ, ◌==◌, List, [], ◌∷◌, ◌++◌, map, if◌then◌else◌}
use Rattle.std.specs.List.{filter, flat_map}
use Rattle.std.specs.Option.{option_to_list}
use Rattle.lisp_nonces.specs.declared.pair.Pair.{Pair}
use Rattle.lisp_nonces.specs.Kept.{kept_at}
use Rattle.lisp_admission.specs.declared.refused.Refused.TheVariants.{StoreSave}
use Rattle.lisp_model.specs.declared.line.Line.TheVariants as lines
use Rattle.lisp_model.specs.declared.refusal.Refusal.TheVariants.{Receive}
use Rattle.lisp_model.specs.Trace.{Step, Opening, shown_store, clock, Line}
use Rattle.lisp_model.specs.Held.{Acceptance, is_of_pair}
use Rattle.lisp_model.specs.Bag.{arrival_in, acceptances_in, bag}

-- what is taken in a step
abbrev pub acceptances_in_step : Opening → List Step → Step → List Acceptance
acceptances_in_step o T s = acceptances_in (arrival_in (bag o T) s.event) (clock T)

abbrev pub acceptances_after : Line → List Acceptance → ℕ → List Acceptance → List Acceptance
acceptances_after (lines.Accepted server _ _ _ _) new k old = if server == k then new ++ old else old
acceptances_after _ new k old = old

abbrev pub acceptances : Opening → List Step → ℕ → List Acceptance
acceptances o [] server = []
acceptances o (s ∷ T) server = acceptances_after s.line (acceptances_in_step o T s) server (acceptances o T server)

-- the nonces of a pair
abbrev pub nonces_of : Pair → List Acceptance → List ℕ
nonces_of pair messages = map (λ a. a.message.nonce) (filter (is_of_pair pair) messages)

-- tried: accepted, or refused since the save failed; and the numbers that were kept at the opening
abbrev pub tried_nonces_after : Line → List ℕ → ℕ → List ℕ → List ℕ
tried_nonces_after (lines.Accepted server _ _ _ _) new k old = if server == k then new ++ old else old
tried_nonces_after (lines.Refused node (Receive (StoreSave _))) new k old = if node == k then new ++ old else old
tried_nonces_after _ new k old = old

abbrev pub tried_nonces : Opening → List Step → ℕ → Pair → List ℕ
tried_nonces o [] server pair = flat_map option_to_list (kept_at (shown_store o [] server).kept pair)
tried_nonces o (s ∷ T) server pair =
    tried_nonces_after s.line (nonces_of pair (acceptances_in_step o T s)) server (tried_nonces o T server pair)
