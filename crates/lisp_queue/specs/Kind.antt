-- The kinds of datagrams that wait in a queue.
use Rattle.std.specs.Prelude.{ℕ, Bool, true, not, List}
use Rattle.lisp_requests.specs.MessageType.{is_request}
use Rattle.lisp_queue.specs.declared.kind.Kind.{Kind}
use Rattle.lisp_queue.specs.declared.kind.Kind.TheVariants as kinds

-- whether a datagram of these bytes is of a kind
abbrev pub is_of : Kind → List ℕ → Bool
is_of kinds.All bytes = true
is_of kinds.Requests bytes = is_request bytes
is_of kinds.Others bytes = not (is_request bytes)

-- the first bytes of one of a kind: no Map-Request, where others alone are of it
abbrev pub is_within : Kind → List ℕ → Bool
is_within kinds.Others bytes = not (is_request bytes)
is_within _ bytes = true
