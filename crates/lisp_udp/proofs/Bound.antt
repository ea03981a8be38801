-- A socket is bound for each node.
use Rattle.std.proofs.Common.{◌≡◌, ◌⊎◌, ℕ, zero, suc, ◌+◌, List, [], ◌∷◌, ◌++◌, length, length-append, Some, inl, inr, refl, sym, ap, ◌∙◌, slice_get}
use Rattle.std.proofs.lemmas.Option.{same_Some}
use Rattle.lisp_policy.specs.Configuration.{ConfigValue}
use Rattle.lisp_udp.specs.Sockets.{SocketValue, IsSocketAt}

-- those of the nodes before a number
pub record SocketsSoFar (config : ConfigValue) (sockets : List SocketValue) (n : ℕ) : Type 0 where
  pub count : length sockets ≡ n
  pub each : (k : ℕ) (s : SocketValue) → slice_get sockets k ≡ Some s → IsSocketAt config k s

abbrev AtEnd : List SocketValue → SocketValue → ℕ → SocketValue → Type 0
AtEnd sockets added k s = (slice_get sockets k ≡ Some s) ⊎ ((k ≡ length sockets) × (s ≡ added))

-- what stands in a list that got one more
at_end : (sockets : List SocketValue) (added : SocketValue) (k : ℕ) (s : SocketValue) → slice_get (sockets ++ added ∷ []) k ≡ Some s → AtEnd sockets added k s
at_end [] added zero s at = inr (refl, sym (same_Some added s at))
at_end [] added (suc k) s at = inl at
at_end (one ∷ sockets) added zero s at = inl at
at_end (one ∷ sockets) added (suc k) s at = behind (at_end sockets added k s at)
  where
    behind : AtEnd sockets added k s → AtEnd (one ∷ sockets) added (suc k) s
    behind (inl before) = inl before
    behind (inr last) = inr (ap suc last.0, last.1)

pub none_yet : (config : ConfigValue) → SocketsSoFar config [] 0
none_yet config = record { count = refl; each = λ k s at. absurd cc }

pub one_more : (config : ConfigValue) (sockets : List SocketValue) (n : ℕ) (added : SocketValue) → SocketsSoFar config sockets n → IsSocketAt config n added
    → SocketsSoFar config (sockets ++ added ∷ []) (n + 1)
one_more config sockets n added so_far is =
    record {
      count = length-append sockets (added ∷ []) ∙ ap (λ (k : ℕ). k + 1) so_far.count;
      each = λ k s at. cases k s (at_end sockets added k s at);
    }
  where
    cases : (k : ℕ) (s : SocketValue) → AtEnd sockets added k s → IsSocketAt config k s
    cases k s (inl before) = so_far.each k s before
    cases k s (inr last) = rw (last.0, so_far.count, last.1) is
