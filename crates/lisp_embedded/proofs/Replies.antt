-- Map-Replies fit a message, and are those that a node sends.
use Rattle.std.proofs.Common.{◌≡◌, ℕ, ◌+◌, ◌<◌, ◌≤◌, inl, inr, Bool, true, cond, List, [], ◌∷◌, length, Option, refl, sym, ap, ◌∙◌, subst, arith, length-append}
use Rattle.std.proofs.lemmas.Bool.Decides.{Decides-ltb}
use Rattle.std.specs.List.{flat_map}
use Rattle.std.specs.Prelude.{Result, Ok, Err, IfOk, OnOk}
use Rattle.std.proofs.lemmas.List.Concat.{length-flat_map}
use Rattle.lisp_records.proofs.Cuts.{fits_is}
use Rattle.lisp_records.proofs.WrittenLemmas.{length-written}
use Rattle.lisp_records.specs.declared.address.Addr.{Addr}
use Rattle.lisp_records.specs.declared.address.Family.{Family}
use Rattle.lisp_records.specs.declared.address.Family.TheVariants.{Ipv4, Ipv6}
use Rattle.lisp_records.specs.Address.{PrefixValue, family, width}
use Rattle.lisp_records.specs.Parts.{fits_message, size}
use Rattle.lisp_records.specs.Record.{MapRecordValue}
use Rattle.lisp_records.specs.Row.{RowValue}
use Rattle.lisp_records.specs.Written.{written}
use Rattle.lisp_requests.specs.Reply.{IsMapReply, MapReplyValue, written_reply, written_reply_head}
use Rattle.lisp_policy.specs.Site.{SiteValue}
use Rattle.lisp_lookup.specs.Covering.{alone}
use Rattle.lisp_replies.specs.declared.reply.Negative.{Negative}
use Rattle.lisp_replies.specs.declared.reply.Reply.{Reply}
use Rattle.lisp_replies.specs.declared.reply.Reply.TheVariants.{Records, Negative as NegativeReply, Forward, Silent}
use Rattle.lisp_replies.specs.Own.{IsOwnReply, OwnRepliesFor, OwnRepliesNone}
use Rattle.lisp_replies.specs.Reply.{IsReply, RepliesFor, RepliesNone}
use Rattle.lisp_mapping.specs.Sends.{replied}
use Rattle.lisp_mapping.specs.declared.replier.Replier.{Replier}
use Rattle.lisp_mapping.specs.Handling.{outcome_of}
use Rattle.lisp_embedded.specs.Replying.{Fits, HostedReplyValue, Says, SendsTheSame, map_reply_of, negative_of, spelled_reply}

pub few : (records : List MapRecordValue) → fits_message records ≡ true → length records < 256
few records fit = omega (arith, (fits_is records fit).0)

-- ---- how long they are

-- a Map-Reply has 12 bytes before its records
length-reply : (m : MapReplyValue) → length (written_reply m) ≡ 12 + size m.records
unfolding written_reply
length-reply m = omega (arith, length-append (written_reply_head m) (flat_map written m.records), length-flat_map written m.records)

pub records_are_short : (probe : Bool) (nonce : ℕ) (records : List MapRecordValue) → fits_message records ≡ true → length (written_reply (map_reply_of probe nonce records)) ≤ 16396
records_are_short probe nonce records fit = omega (arith, length-reply (map_reply_of probe nonce records), (fits_is records fit).1)

narrow : (f : Family) → width f ≤ 16
narrow Ipv4 = omega arith
narrow Ipv6 = omega arith

-- one record without locators has at most 28
pub negative_is_short : (of : Replier) (probe : Bool) (nonce : ℕ) (hole : Negative) → IsMapReply (map_reply_of probe nonce (negative_of of hole ∷ [])) → length (written_reply (map_reply_of probe nonce (negative_of of hole ∷ []))) ≤ 16396
negative_is_short of probe nonce hole is =
    omega (arith, length-reply (map_reply_of probe nonce (negative_of of hole ∷ [])), length-written (negative_of of hole) is.records.0.eid, narrow (family hole.eid.addr))

-- so are those of a function that may answer that memory ran out
pub short_records : {X E : Type 0} (result : Result X E) (view : X → List ℕ) (probe : Bool) (nonce : ℕ) (records : List MapRecordValue) → fits_message records ≡ true
    → IfOk result (λ v. view v ≡ written_reply (map_reply_of probe nonce records)) → IfOk result (λ v. length (view v) ≤ 16396)
short_records (Ok v) view probe nonce records fit is = subst (λ (bytes : List ℕ). length bytes ≤ 16396) (sym is) (records_are_short probe nonce records fit)
short_records (Err e) view probe nonce records fit is = tt

pub short_negative : {X E : Type 0} (result : Result X E) (view : X → List ℕ) (of : Replier) (probe : Bool) (nonce : ℕ) (hole : Negative) (records : List MapRecordValue) → records ≡ negative_of of hole ∷ []
    → OnOk result (IsMapReply (map_reply_of probe nonce records)) → IfOk result (λ v. view v ≡ written_reply (map_reply_of probe nonce records)) → IfOk result (λ v. length (view v) ≤ 16396)
short_negative (Ok v) view of probe nonce hole records are known is =
    let one = negative_is_short of probe nonce hole (subst (λ (rs : List MapRecordValue). IsMapReply (map_reply_of probe nonce rs)) are known) in
    subst (λ (bytes : List ℕ). length bytes ≤ 16396) (sym (is ∙ ap (λ (rs : List MapRecordValue). written_reply (map_reply_of probe nonce rs)) are)) one
short_negative (Err e) view of probe nonce hole records are known is = tt

-- ---- what is said

pub says : {A E : Type 0} (IsFor : Reply A → Type 0) (of : Replier) (probe : Bool) (nonce : ℕ) (reply : Reply A) (result : Result HostedReplyValue E) → IsFor reply
    → IfOk result (λ hosted. hosted.outcome ≡ outcome_of reply) → IfOk result (λ hosted. hosted.bytes ≡ spelled_reply of probe nonce reply) → IfOk result (λ hosted. Says IsFor of probe nonce hosted)
says IsFor of probe nonce reply (Ok hosted) is its_outcome its_bytes = (reply, is, λ i. record { outcome = its_outcome i; bytes = its_bytes i })
says IsFor of probe nonce reply (Err e) is its_outcome its_bytes = tt

-- ---- of a Map-Server

module _ {A : Type 0} (rows : List RowValue) (sites : List SiteValue) (starting : Bool) (now : ℕ) where
  for_fits : (asked : PrefixValue) (reply : Reply A) → RepliesFor rows sites asked starting now reply → Fits reply
  for_fits asked (Records records) is = is.0.fit
  for_fits asked (NegativeReply hole) is = tt
  for_fits asked (Forward to) is = tt
  for_fits asked Silent is = tt

  none_fits : (addr : Addr) (reply : Reply A) → RepliesNone rows sites addr starting now reply → Fits reply
  none_fits addr (Records records) is = absurd is
  none_fits addr (NegativeReply hole) is = tt
  none_fits addr (Forward to) is = tt
  none_fits addr Silent is = tt

  pub server_fits : (asked : PrefixValue) (reply : Reply A) → IsReply rows sites asked starting now reply → Fits reply
  server_fits asked reply (inl is) = for_fits asked reply is
  server_fits asked reply (inr (unanswered, inl is)) = for_fits (alone asked.addr) reply is
  server_fits asked reply (inr (unanswered, inr is)) = none_fits asked.addr reply is

-- ---- of a router

module _ {A : Type 0} (database : List MapRecordValue) (probed : Option Addr) where
  own_for_fits : (asked : PrefixValue) (reply : Reply A) → OwnRepliesFor database asked probed reply → Fits reply
  own_for_fits asked (Records records) is = is.fit
  own_for_fits asked (NegativeReply hole) is = tt
  own_for_fits asked (Forward to) is = tt
  own_for_fits asked Silent is = tt

  own_none_fits : (addr : Addr) (reply : Reply A) → OwnRepliesNone database addr reply → Fits reply
  own_none_fits addr (Records records) is = absurd is
  own_none_fits addr (NegativeReply hole) is = tt
  own_none_fits addr (Forward to) is = tt
  own_none_fits addr Silent is = tt

  pub router_fits : (asked : PrefixValue) (reply : Reply A) → IsOwnReply database asked probed reply → Fits reply
  router_fits asked reply (inl is) = own_for_fits asked reply is
  router_fits asked reply (inr (unanswered, inl is)) = own_for_fits (alone asked.addr) reply is
  router_fits asked reply (inr (unanswered, inr is)) = own_none_fits asked.addr reply is

-- ---- those that a node sends

pub sends_the_same : (A : Type 0) → SendsTheSame A
sends_the_same A asked bytes (Records records) fit = sym (ap (λ (b : Bool). cond b (replied asked records ∷ []) []) ((Decides-ltb (length records) 256).1 (few records fit)))
sends_the_same A asked bytes (NegativeReply hole) fit = refl
sends_the_same A asked bytes (Forward to) fit = refl
sends_the_same A asked bytes Silent fit = refl
