-- What is said of one EID-Prefix more, of all, and what is done then.
use Rattle.std.proofs.Common.{◌≡◌, ℕ, ◌+◌, ◌<◌, ◌≤◌, List, [], ◌∷◌, ◌++◌, length, take, slice_index_or, map, refl, sym, ap, ◌∙◌, subst}
use Rattle.std.specs.Prelude.{Result, Ok, Err, IfOk}
use Rattle.std.proofs.lemmas.List.{take_all}
use Rattle.lisp_records.specs.Address.{PrefixValue}
use Rattle.lisp_replies.specs.declared.reply.Reply.{Reply}
use Rattle.lisp_replies.proofs.OwnWalkLaws.{one_more}
use Rattle.lisp_mapping.specs.Asked.{AskedValue}
use Rattle.lisp_mapping.specs.Sends.{sends}
use Rattle.lisp_mapping.specs.declared.unasked.Unasked.{Unasked}
use Rattle.lisp_mapping.specs.Handling.{HandledValue, Handles, IsHandled, RepliesEach, outcome_of}

module _ {A : Type 0} (Says : PrefixValue → Reply A → Type 0) where
  pushed : (eids : List PrefixValue) (eid : PrefixValue) (replies : List (Reply A)) (reply : Reply A) → RepliesEach Says eids replies → Says eid reply → RepliesEach Says (eids ++ eid ∷ []) (replies ++ reply ∷ [])
  pushed [] eid replies reply none says = (reply, [], ap (λ (rs : List (Reply A)). rs ++ reply ∷ []) none, says, refl)
  pushed (first ∷ eids) eid replies reply (its, rest, are, said, others) says = (its, rest ++ reply ∷ [], ap (λ (rs : List (Reply A)). rs ++ reply ∷ []) are, said, pushed eids eid rest reply others says)

  -- of the next one
  pub next_said : (eids : List PrefixValue) (i : ℕ) (eid : PrefixValue) (replies new : List (Reply A)) (reply : Reply A) → i < length eids → eid ≡ slice_index_or eids i eid
      → RepliesEach Says (take i eids) replies → Says eid reply → new ≡ replies ++ reply ∷ [] → RepliesEach Says (take (i + 1) eids) new
  next_said eids i eid replies new reply lt read so_far says push =
      subst (λ (es : List PrefixValue). RepliesEach Says es new) (sym (one_more eids i eid lt read))
      (subst (λ (rs : List (Reply A)). RepliesEach Says (take i eids ++ eid ∷ []) rs) (sym push) (pushed (take i eids) eid replies reply so_far says))

  -- of all
  pub all_said : (eids : List PrefixValue) (i : ℕ) (replies : List (Reply A)) → length eids ≤ i → RepliesEach Says (take i eids) replies → RepliesEach Says eids replies
  all_said eids i replies end so_far = subst (λ (es : List PrefixValue). RepliesEach Says es replies) (take_all i eids end) so_far

-- ---- what is done for a datagram

pub is_handled : {A E : Type 0} (Says : PrefixValue → Reply A → Type 0) (asked : AskedValue) (bytes : List ℕ) (replies : List (Reply A)) (result : Result HandledValue E)
    → IfOk result (λ h. h.asked ≡ asked) → IfOk result (λ h. h.outcomes ≡ map outcome_of replies) → IfOk result (λ h. h.datagrams ≡ sends asked bytes [] replies)
    → RepliesEach Says asked.eids replies → IfOk result (λ h. IsHandled Says asked bytes h)
is_handled Says asked bytes replies (Ok h) its_asked its_outcomes its_datagrams each = record { replies = replies; each = each; said = λ i. record { asked = its_asked i; outcomes = its_outcomes i; datagrams = its_datagrams i } }
is_handled Says asked bytes replies (Err e) its_asked its_outcomes its_datagrams each = tt

pub handles : {A : Type 0} (Says : AskedValue → PrefixValue → Reply A → Type 0) (bytes : List ℕ) (taken : Result AskedValue Unasked) (asked : AskedValue) (handled : HandledValue)
    → taken ≡ Ok asked → IsHandled (Says asked) asked bytes handled → Handles Says bytes taken (Ok handled)
handles Says bytes taken asked handled is done =
    let same : asked ≡ handled.asked = sym (ap (λ (h : HandledValue). h.asked) done.said) in
    (is ∙ ap Ok same, subst (λ (a : AskedValue). IsHandled (Says a) a bytes handled) same done)
