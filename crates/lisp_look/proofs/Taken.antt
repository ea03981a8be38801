-- What is taken as an answer.
use Rattle.std.proofs.Common.{rules, ◌≡◌, ℕ, ◌==◌, Bool, true, false, Option, Some, None, Result, Ok, Err, refl, sym, ap, ◌∙◌}
use Rattle.std.specs.Prelude.{IfOk, IfSome, if◌then◌else◌}
use Rattle.lisp_requests.specs.Reply.{MapReplyValue}
use Rattle.lisp_requests.specs.declared.fault.RequestFault.{RequestFault}
use Rattle.lisp_look.specs.Look.{with_nonce}

-- a Map-Reply with the nonce was read
chosen : (b : Bool) (reply m : MapReplyValue) → (if b then Some reply else None) ≡ Some m → reply ≡ m
chosen true reply m is = cc
chosen false reply m is = absurd cc

was_read : (nonce : ℕ) (read : Result MapReplyValue RequestFault) (m : MapReplyValue) → with_nonce nonce read ≡ Some m → read ≡ Ok m
was_read nonce (Ok reply) m is = ap (λ (r : MapReplyValue). Ok r) (chosen (reply.nonce == nonce) reply m is)
was_read nonce (Err fault) m is = absurd cc

pub taken : {E : Type 0} (Spelled : MapReplyValue → Type 0) (nonce : ℕ) (read : Result MapReplyValue RequestFault) (result : Result (Option MapReplyValue) E) → ((m : MapReplyValue) → read ≡ Ok m → Spelled m) → IfOk result (λ reply. reply ≡ with_nonce nonce read) → IfOk result (λ reply. IfSome reply Spelled)
taken Spelled nonce read (Ok None) takes is = tt
taken Spelled nonce read (Ok (Some m)) takes is = takes m (was_read nonce read m (sym is))
taken Spelled nonce read (Err e) takes is = tt

-- what is read with the nonce is taken
same : (n : ℕ) → (n == n) ≡ true
same n = search rules

pub is_taken : {E : Type 0} (nonce : ℕ) (read : Result MapReplyValue RequestFault) (result : Result (Option MapReplyValue) E) (m : MapReplyValue) → read ≡ Ok m → m.nonce ≡ nonce → IfOk result (λ reply. reply ≡ with_nonce nonce read) → IfOk result (λ reply. reply ≡ Some m)
is_taken nonce read (Ok reply) m reads named is =
    is ∙ rw (reads, named, same nonce) refl
is_taken nonce read (Err e) m reads named is = tt
