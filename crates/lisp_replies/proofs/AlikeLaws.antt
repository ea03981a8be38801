-- Rows that are alive make the reply, and no others: neither those that died nor their order.
use Rattle.std.proofs.Common.{◌≡◌, inl, inr, ℕ, Bool, true, List, sym, ◌∙◌, true≢false}
use Rattle.std.proofs.lemmas.Bool.{and_parts}
use Rattle.lisp_records.specs.declared.address.Addr.{Addr}
use Rattle.lisp_records.specs.Address.{PrefixValue, covers, prefix_around}
use Rattle.lisp_records.specs.Record.{MapRecordValue}
use Rattle.lisp_records.specs.Row.{RowValue, is_alive}
use Rattle.lisp_policy.{proofs.Found.not_true, specs.Site.SiteValue}
use Rattle.lisp_lookup.specs.Covering.{IsBestFor, NoneAnswersFor, alone, may_answer_for}
use Rattle.lisp_lookup.specs.Hole.{IsAlike, IsEmptyIn, IsHole}
use Rattle.lisp_lookup.specs.Inside.{AreInside, IsBestOfOwn, is_inside}
use Rattle.lisp_lookup.specs.Replies.{AreRecords, RepliesWith}
use Rattle.lisp_replies.specs.Kept.{ReplyAlike, SameLive}
use Rattle.lisp_replies.specs.Narrowing.{FitNowhere, NoneFitFor}
use Rattle.lisp_replies.specs.Reply.{IsReply, IsTooLarge, IsUnanswered, RepliesFor, RepliesNone}
use Rattle.lisp_replies.specs.declared.reply.Reply.{Reply}
use Rattle.lisp_replies.specs.declared.reply.Reply.TheVariants.{Records, Negative, Forward, Silent}

-- the other rows have the same that are alive
turned : (one other : List RowValue) (now : ℕ) → SameLive one other now → SameLive other one now
turned one other now same h alive = ((same h alive).1, (same h alive).0)

-- ---- what is said of rows that are alive

module _ (one other : List RowValue) (now : ℕ) (same : SameLive one other now) where
  best_for : (asked : PrefixValue) (h : RowValue) → IsBestFor one asked now h → IsBestFor other asked now h
  best_for asked h best = record {
    held = (same h (lives h best.may)).0 best.held;
    may = best.may;
    most = λ x held may. best.most x ((same x (lives x may)).1 held) may;
  }
    where
      lives : (x : RowValue) → may_answer_for asked now x ≡ true → is_alive x now ≡ true
      lives x may = (and_parts (is_alive x now) (covers x.mapping.eid asked) may).0

  none_for : (asked : PrefixValue) → NoneAnswersFor one asked now → NoneAnswersFor other asked now
  none_for asked none h held = not_true (may_answer_for asked now h) (λ may. true≢false (sym may ∙ none h ((same h (and_parts (is_alive h now) (covers h.mapping.eid asked) may).0).1 held)))

  best_of_own : (h : RowValue) → IsBestOfOwn one now h → IsBestOfOwn other now h
  best_of_own h best = record {
    held = (same h best.alive).0 best.held;
    alive = best.alive;
    most = λ x held alive own. best.most x ((same x alive).1 held) alive own;
  }

  are_inside : (outer : PrefixValue) (inside : List RowValue) → AreInside one outer now inside → AreInside other outer now inside
  are_inside outer inside are = record {
    rising = are.rising;
    best = λ h there. (let is = are.best h there in (best_of_own h is.0, is.1));
    all = λ h held live. are.all h ((same h (and_parts (is_alive h now) (is_inside outer h.mapping.eid) live).0).1 held) live;
  }

  are_records : (eid : PrefixValue) (best : RowValue) (records : List MapRecordValue) → AreRecords one eid now best records → AreRecords other eid now best records
  are_records eid best records are = record { inside = are.inside; are = are_inside eid are.inside are.are; ttl = are.ttl; least = are.least; is = are.is }

  empty_in : (eid : PrefixValue) → IsEmptyIn one eid now → IsEmptyIn other eid now
  empty_in eid empty h held alive = empty h ((same h alive).1 held) alive

  alike : (sites : List SiteValue) (addr : Addr) (eid : PrefixValue) → IsAlike one sites addr now eid → IsAlike other sites addr now eid
  alike sites addr eid is = record {
    empty = empty_in eid is.empty;
    bare = λ h held alive. is.bare h ((same h alive).1 held) alive;
    keeps = is.keeps;
  }

-- ---- what is said of all records or prefixes of theirs

module _ (one other : List RowValue) (now : ℕ) (same : SameLive one other now) where
  back : SameLive other one now
  back = turned one other now same

  none_fit : (eid : PrefixValue) (best : RowValue) → NoneFitFor one eid now best → NoneFitFor other eid now best
  none_fit eid best none records are = none records (are_records other one now back eid best records are)

  fit_nowhere : (asked : PrefixValue) (best : RowValue) → FitNowhere one asked now best → FitNowhere other asked now best
  fit_nowhere asked best nowhere eid narrowed = none_fit eid best (nowhere eid narrowed)

  replies_with : (asked : PrefixValue) (records : List MapRecordValue) → RepliesWith one asked now records → RepliesWith other asked now records
  replies_with asked records with = record {
    best = with.best;
    is_best = best_for one other now same asked with.best with.is_best;
    proxy = with.proxy;
    eid = with.eid;
    narrowed = with.narrowed;
    are = are_records one other now same with.eid with.best records with.are;
    fit = with.fit;
    widest = λ wider more narrowed less are. with.widest wider more narrowed less (are_records other one now back wider with.best more are);
  }

  is_hole : (sites : List SiteValue) (addr : Addr) (eid : PrefixValue) → IsHole one sites addr now eid → IsHole other sites addr now eid
  is_hole sites addr eid hole = record {
    around = hole.around;
    alike = alike one other now same sites addr eid hole.alike;
    widest = λ wider less is. hole.widest wider less (alike other one now back sites addr (prefix_around addr wider) is);
  }

  module _ (sites : List SiteValue) (starting : Bool) where
    too_large : (asked : PrefixValue) → IsTooLarge one sites asked starting now → IsTooLarge other sites asked starting now
    too_large asked is = record {
      best = is.best;
      is_best = best_for one other now same asked is.best is.is_best;
      proxy = is.proxy;
      free = is.free;
      nowhere = fit_nowhere asked is.best is.nowhere;
    }

    unanswered : (asked : PrefixValue) → IsUnanswered one sites asked starting now → IsUnanswered other sites asked starting now
    unanswered asked (inl none) = inl (none_for one other now same asked none)
    unanswered asked (inr large) = inr (too_large asked large)

    module _ {A : Type 0} where
      replies_for : (asked : PrefixValue) (reply : Reply A) → RepliesFor one sites asked starting now reply → RepliesFor other sites asked starting now reply
      unfolding replies_with
      replies_for asked (Records records) (with, free) = (replies_with asked records with, free)
      replies_for asked (Forward to) (h, best, no_proxy, its) = (h, best_for one other now same asked h best, no_proxy, its)
      replies_for asked Silent (h, best, proxy, held) = (h, best_for one other now same asked h best, proxy, held)
      replies_for asked (Negative hole) never = absurd never

      replies_none : (addr : Addr) (reply : Reply A) → RepliesNone one sites addr starting now reply → RepliesNone other sites addr starting now reply
      replies_none addr (Negative hole) (started, is, ttl) = (started, is_hole sites addr hole.eid is, ttl)
      replies_none addr Silent (starts, none) = (starts, none_for one other now same (alone addr) none)
      replies_none addr _ never = absurd never

      pub reply_alike : (asked : PrefixValue) (reply : Reply A) → IsReply one sites asked starting now reply → IsReply other sites asked starting now reply
      reply_alike asked reply (inl is) = inl (replies_for asked reply is)
      reply_alike asked reply (inr (none, inl is)) = inr (unanswered asked none, inl (replies_for (alone asked.addr) reply is))
      reply_alike asked reply (inr (none, inr is)) = inr (unanswered asked none, inr (replies_none asked.addr reply is))

pub replies_are_alike : (A : Type 0) (one other : List RowValue) (sites : List SiteValue) → ReplyAlike A one other sites
replies_are_alike A one other sites asked starting now reply same is = reply_alike one other now same sites starting asked reply is
