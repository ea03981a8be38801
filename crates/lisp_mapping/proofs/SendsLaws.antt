-- What is sent for one EID-Prefix more.
use Rattle.std.proofs.Common.{◌≡◌, inl, inr, ℕ, ◌<◌, ◌≤◌, Bool, true, false, cond, nat_lt, List, [], ◌∷◌, ◌++◌, length, refl, sym, ap, ◌∙◌, arith}
use Rattle.std.specs.List.{All}
use Rattle.std.proofs.lemmas.Bool.Decides.{Decides-ltb}
use Rattle.std.proofs.lemmas.List.Elements.{All-append, All-cons, All-nil}
use Rattle.std.proofs.lemmas.List.{append_assoc, append-nil}
use Rattle.lisp_records.specs.declared.address.Addr.{Addr}
use Rattle.lisp_records.specs.Record.{MapRecordValue}
use Rattle.lisp_policy.proofs.Found.{not_true}
use Rattle.lisp_replies.specs.declared.reply.Negative.{Negative}
use Rattle.lisp_replies.specs.declared.reply.Reply.{Reply}
use Rattle.lisp_replies.specs.declared.reply.Reply.TheVariants as replies
use Rattle.lisp_mapping.specs.Asked.{AskedValue}
use Rattle.lisp_mapping.specs.Promises.{IsReplyOrGoesOn, RepliesOrGoesOn}
use Rattle.lisp_mapping.specs.Sends.{DatagramValue, forwarded, gone_after, gone_then, has_gone, negative_record, replied, sends, sent_for}

module _ {A : Type 0} (asked : AskedValue) (bytes : List ℕ) where
  pub gone_more : (gone : List Addr) (xs : List (Reply A)) (x : Reply A) → gone_after gone (xs ++ x ∷ []) ≡ gone_then (gone_after gone xs) x
  gone_more gone [] x = refl
  gone_more gone (y ∷ ys) x = gone_more (gone_then gone y) ys x

  pub sends_more : (gone : List Addr) (xs : List (Reply A)) (x : Reply A) → sends asked bytes gone (xs ++ x ∷ []) ≡ sends asked bytes gone xs ++ sent_for asked bytes (gone_after gone xs) x
  sends_more gone [] x = append-nil (sent_for asked bytes gone x)
  sends_more gone (y ∷ ys) x = ap (λ (rest : List DatagramValue). sent_for asked bytes gone y ++ rest) (sends_more (gone_then gone y) ys x) ∙ sym (append_assoc (sent_for asked bytes gone y) (sends asked bytes (gone_then gone y) ys) (sent_for asked bytes (gone_after (gone_then gone y) ys) x))

-- what is known behind one reply more
module _ {A : Type 0} (asked : AskedValue) (bytes : List ℕ) (ys : List (Reply A)) (x : Reply A) (sent : List DatagramValue) (gone : List Addr) (sent_is : sent ≡ sends asked bytes [] ys) (gone_is : gone ≡ gone_after [] ys) where
  abbrev pub IsNext : List DatagramValue → List Addr → Type 0
  IsNext new new_gone = (new ≡ sends asked bytes [] (ys ++ x ∷ [])) × (new_gone ≡ gone_after [] (ys ++ x ∷ []))

  next : (y : Reply A) → x ≡ y → (new : List DatagramValue) (new_gone : List Addr) → new ≡ sent ++ sent_for asked bytes gone y → new_gone ≡ gone_then gone y → IsNext new new_gone
  next y is new new_gone sent_new gone_new = (sent_new ∙ (λ i. sent_is i ++ sent_for asked bytes (gone_is i) (sym is i)) ∙ sym (sends_more asked bytes [] ys x), gone_new ∙ (λ i. gone_then (gone_is i) (sym is i)) ∙ sym (gone_more asked bytes [] ys x))

  none : (y : Reply A) → x ≡ y → sent_for asked bytes gone y ≡ [] → gone ≡ gone_then gone y → IsNext sent gone
  none y is sent_none gone_same = next y is sent gone (sym (append-nil sent) ∙ ap (λ (l : List DatagramValue). sent ++ l) (sym sent_none)) gone_same

  pub of_records : (records : List MapRecordValue) → x ≡ replies.Records records → length records ≤ 255 → (new : List DatagramValue) → new ≡ sent ++ replied asked records ∷ [] → IsNext new gone
  of_records records is few new pushed = next (replies.Records records) is new gone (pushed ∙ ap (λ (b : Bool). sent ++ cond b (replied asked records ∷ []) []) (sym ((Decides-ltb (length records) 256).1 (omega (arith, few))))) refl

  pub of_many : (records : List MapRecordValue) → x ≡ replies.Records records → 255 < length records → IsNext sent gone
  of_many records is many = none (replies.Records records) is (ap (λ (b : Bool). cond b (replied asked records ∷ []) []) (not_true (nat_lt (length records) 256) (λ few. omega (arith, many, (Decides-ltb (length records) 256).0 few)))) refl

  pub of_negative : (hole : Negative) → x ≡ replies.Negative hole → (new : List DatagramValue) → new ≡ sent ++ replied asked (negative_record asked hole ∷ []) ∷ [] → IsNext new gone
  of_negative hole is new pushed = next (replies.Negative hole) is new gone pushed refl

  pub of_forward : (to : Addr) → x ≡ replies.Forward to → has_gone gone to ≡ false → (new : List DatagramValue) (new_gone : List Addr) → new ≡ sent ++ forwarded to bytes ∷ [] → new_gone ≡ gone ++ to ∷ [] → IsNext new new_gone
  of_forward to is fresh new new_gone pushed noted = next (replies.Forward to) is new new_gone (pushed ∙ ap (λ (b : Bool). sent ++ cond b [] (forwarded to bytes ∷ [])) (sym fresh)) (noted ∙ ap (λ (b : Bool). cond b gone (gone ++ to ∷ [])) (sym fresh))

  pub of_gone : (to : Addr) → x ≡ replies.Forward to → has_gone gone to ≡ true → IsNext sent gone
  of_gone to is before = none (replies.Forward to) is (ap (λ (b : Bool). cond b [] (forwarded to bytes ∷ [])) before) (ap (λ (b : Bool). cond b gone (gone ++ to ∷ [])) (sym before))

  pub of_silent : x ≡ replies.Silent → IsNext sent gone
  of_silent is = none replies.Silent is refl refl

-- ---- each is a Map-Reply to where was asked from, or goes on

module _ (asked : AskedValue) (bytes : List ℕ) where
  one_of : (d : DatagramValue) → IsReplyOrGoesOn asked bytes d → All (IsReplyOrGoesOn asked bytes) (d ∷ [])
  one_of d is = All-cons (IsReplyOrGoesOn asked bytes) d [] is (All-nil (IsReplyOrGoesOn asked bytes))

  chosen : (test : Bool) (one : List DatagramValue) → (test ≡ true → All (IsReplyOrGoesOn asked bytes) one) → All (IsReplyOrGoesOn asked bytes) (cond test one [])
  chosen true one all = all refl
  chosen false one all = All-nil (IsReplyOrGoesOn asked bytes)

  chosen_not : (test : Bool) (one : List DatagramValue) → All (IsReplyOrGoesOn asked bytes) one → All (IsReplyOrGoesOn asked bytes) (cond test [] one)
  chosen_not true one all = All-nil (IsReplyOrGoesOn asked bytes)
  chosen_not false one all = all

module _ {A : Type 0} (asked : AskedValue) (bytes : List ℕ) where
  for_one : (gone : List Addr) (reply : Reply A) → All (IsReplyOrGoesOn asked bytes) (sent_for asked bytes gone reply)
  for_one gone (replies.Records records) = chosen asked bytes (nat_lt (length records) 256) (replied asked records ∷ []) (λ few. one_of asked bytes (replied asked records) (inl (records, (Decides-ltb (length records) 256).0 few, refl)))
  for_one gone (replies.Negative hole) = one_of asked bytes (replied asked (negative_record asked hole ∷ [])) (inl (negative_record asked hole ∷ [], omega arith, refl))
  for_one gone (replies.Forward to) = chosen_not asked bytes (has_gone gone to) (forwarded to bytes ∷ []) (one_of asked bytes (forwarded to bytes) (inr (to, refl)))
  for_one gone replies.Silent = All-nil (IsReplyOrGoesOn asked bytes)

  for_all : (gone : List Addr) (more : List (Reply A)) → All (IsReplyOrGoesOn asked bytes) (sends asked bytes gone more)
  for_all gone [] = All-nil (IsReplyOrGoesOn asked bytes)
  for_all gone (reply ∷ more) = All-append (IsReplyOrGoesOn asked bytes) (sent_for asked bytes gone reply) (sends asked bytes (gone_then gone reply) more) (for_one gone reply) (for_all (gone_then gone reply) more)

pub replies_or_goes_on : (A : Type 0) → RepliesOrGoesOn A
replies_or_goes_on A asked bytes more = for_all asked bytes [] more
