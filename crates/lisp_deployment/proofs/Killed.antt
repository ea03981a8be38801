-- From the law that printed nonces rise alone: a Map-Server that was killed accepts no replay.
use Rattle.std.proofs.Common.{◌≡◌, ◌⊎◌, inl, inr, ℕ, ◌<◌, Bool, List, [], ◌∷◌, ◌++◌, Option, refl, sym, ap, subst, ◌∙◌}
use Rattle.std.specs.Prelude.{if◌then◌else◌}
use Rattle.std.specs.List.{Contains}
use Rattle.std.proofs.lemmas.List.{append_assoc}
use Rattle.std.proofs.lemmas.List.Elements.{Contains-append_left, Contains-append_right}
use Rattle.lisp_records.specs.declared.router.RouterId.{RouterId}
use Rattle.lisp_model.specs.declared.line.Line.{Line}
use Rattle.lisp_model.specs.declared.line.Line.TheVariants as lines
use Rattle.lisp_model.specs.Promises.{Falls}
use Rattle.lisp_model.proofs.ListLemmas.{at_head, head_or_tail, in_none}
use Rattle.lisp_deployment.specs.Deeds.{Deed, Life}
use Rattle.lisp_deployment.specs.Printed.{lines_in, all_lines, PrintedNoncesRise, KilledServersAcceptNoReplays}
use Rattle.lisp_deployment.proofs.Printed.{nonce_in, nonces, nonces_append, its_number}

-- of numbers that fall, each of the first ones is above all that come behind
above : (xs ys : List ℕ) (m n : ℕ) → Falls (xs ++ ys) → Contains xs n → Contains ys m → m < n
above [] ys m n falls has later = absurd (in_none n has)
above (x ∷ xs) ys m n falls has later = by (head_or_tail x xs n has) (λ there. above xs ys m n falls.1 there later)
  where
    by : (n ≡ x) ⊎ Contains xs n → (Contains xs n → m < n) → m < n
    by (inl is) go = subst (λ z. m < z) (sym is) (falls.0 m (Contains-append_right xs ys m later))
    by (inr there) go = go there

-- the lines of deeds one after another
pub lines_append : (later earlier : List Deed) → all_lines (later ++ earlier) ≡ all_lines later ++ all_lines earlier
lines_append [] earlier = refl
lines_append (deed ∷ later) earlier = ap (λ (ls : List Line). lines_in deed ++ ls) (lines_append later earlier) ∙ sym (append_assoc (lines_in deed) (all_lines later) (all_lines earlier))

-- the nonce of a line is among those of all lines
contains_nonce : (server : ℕ) (router : RouterId) (key nonce : ℕ) (reply : Option ℕ) (ls : List Line) → Contains ls (lines.Accepted server router key nonce reply) → Contains (nonces server router key ls) nonce
contains_nonce server router key nonce reply [] has = absurd (in_none (lines.Accepted server router key nonce reply) has)
contains_nonce server router key nonce reply (line ∷ ls) has = by (head_or_tail line ls (lines.Accepted server router key nonce reply) has) (contains_nonce server router key nonce reply ls)
  where
    own : Contains (nonce_in server router key (lines.Accepted server router key nonce reply)) nonce
    own = subst (λ (b : Bool). Contains (if b then nonce ∷ [] else []) nonce) (sym ((its_number server router key server router key).1 (refl, (refl, refl)))) (at_head nonce [])

    by : (lines.Accepted server router key nonce reply ≡ line) ⊎ Contains ls (lines.Accepted server router key nonce reply)
        → (Contains ls (lines.Accepted server router key nonce reply) → Contains (nonces server router key ls) nonce) → Contains (nonces server router key (line ∷ ls)) nonce
    by (inl is) go = Contains-append_left (nonce_in server router key line) (nonces server router key ls) nonce (subst (λ (l : Line). Contains (nonce_in server router key l) nonce) is own)
    by (inr there) go = Contains-append_right (nonce_in server router key line) (nonces server router key ls) nonce (go there)

pub accept_no_replays : (A : Type 0) → PrintedNoncesRise A → KilledServersAcceptNoReplays A
accept_no_replays A rise config stores begun d later earlier server told network begins did router key before after reply other was is =
    above (nonces server router key (all_lines later)) (nonces server router key (all_lines (Life server told ∷ earlier))) before after
    (subst Falls (ap (nonces server router key) (lines_append later (Life server told ∷ earlier)) ∙ nonces_append server router key (all_lines later) (all_lines (Life server told ∷ earlier)))
    (rise config stores begun d (later ++ Life server told ∷ earlier) network begins did server router key))
    (contains_nonce server router key after other (all_lines later) is) (contains_nonce server router key before reply (all_lines (Life server told ∷ earlier)) was)
