-- Which notices are due: the router of the first in the order of routers; and when each is due.
use Rattle.std.proofs.Common.{◌≡◌, ◌≢◌, ℕ, zero, suc, ◌*◌, ◌+◌, length, true, false, List, [], ◌∷◌, Option, Some, None, refl, sym, ap, ◌∙◌, subst, true≢false, arith}
use Rattle.std.specs.List.{Contains, find, slice_get}
use Rattle.std.specs.Option.{option_map}
use Rattle.std.specs.declared.cmp.Ordering.TheVariants.{Less}
use Rattle.lisp_records.specs.declared.router.RouterId.{RouterId}
use Rattle.lisp_records.specs.Moment.{second}
use Rattle.lisp_records.specs.Router.{router_cmp}
use Rattle.lisp_policy.specs.Order.{KeysRise}
use Rattle.lisp_policy.proofs.Found.{not_true}
use Rattle.lisp_policy.proofs.Halving as halving
use Rattle.lisp_lookup.proofs.Apart.{found}
use Rattle.lisp_lookup.proofs.Orders.{router_total, same_router}
use Rattle.lisp_lookup.proofs.TableLaws.{found_holds, some_inj}
use Rattle.lisp_admission.specs.NoticeTimer.{gaps, elapsed, due_after, IsPrompt, PromptNotices}
use Rattle.lisp_server.specs.Notices.{StandingNoticeValue, NoticesKeepTime, is_due, is_due_at, notice_at, is_notice_of, IsDueRouter}
use Rattle.lisp_server.proofs.StandingLaws.{decides, notice_own, notice_held, one_for_each}

-- of the notices that are due the first one is that of the least router
pub due_found : (ns : List StandingNoticeValue) (now : ℕ) (n : StandingNoticeValue) → KeysRise (λ x. x.router) router_cmp ns → find (is_due now) ns ≡ Some n → IsDueRouter ns now (Some n.router)
due_found ns now n rise first = record {
  notice = n;
  stands = notice_own ns n (one_for_each ns rise) held.0;
  due = held.1;
  least = λ other due. stood other (notice_at ns other) refl due;
}
  where
    held : Contains ns n × (is_due now n ≡ true)
    held = found_holds (is_due now) ns n first

    stood : (other : RouterId) (o : Option StandingNoticeValue) → notice_at ns other ≡ o → is_due_at now o ≡ true → router_cmp other n.router ≢ Less
    stood other None at due = absurd (true≢false (sym due))
    stood other (Some m) at due =
        let its = notice_held ns other m at in
        subst (λ (q : RouterId). router_cmp q n.router ≢ Less) its.1 (halving.first_is_least (λ x. x.router) router_cmp router_total same_router is_notice_of decides (is_due now) ns n m its.0.0 rise first its.0.1 its.0.2 due)

-- where none is found no router's notice is due
pub none_found : (ns : List StandingNoticeValue) (now : ℕ) → find (is_due now) ns ≡ None → IsDueRouter ns now None
none_found ns now never = λ q. stood q (notice_at ns q) refl
  where
    stood : (q : RouterId) (o : Option StandingNoticeValue) → notice_at ns q ≡ o → is_due_at now o ≡ false
    stood q None at = refl
    stood q (Some n) at =
        let held = (notice_held ns q n at).0 in
        not_true (is_due now n) (λ t. found (is_due now) ns held.0 n held.1 (ap (is_due now) held.2 ∙ t) never)

advance : (s0 s gap t first l last : ℕ) → ◌≡◌ {A = Option ℕ} (Some s0) (Some s) → s0 * second + gap ≡ t * second → l ≡ first + s * second → ◌≡◌ {A = Option ℕ} (Some (l + gap)) (Some last) → last ≡ first + t * second
advance s0 s gap t first l last at fits is due = (let seconds = some_inj s0 s at in let moment = some_inj (l + gap) last due in omega (arith, seconds, moment, fits, is))

-- the gap after a sending that follows k others leads to the next moment
next_elapsed : (k s first l last : ℕ) → slice_get elapsed k ≡ Some s → l ≡ first + s * second → option_map (λ gap. l + gap) (slice_get gaps k) ≡ Some last → (t : ℕ) × (slice_get elapsed (suc k) ≡ Some t) × (last ≡ first + t * second)
next_elapsed zero s first l last at is due = (3, refl, advance 0 s 3000 3 first l last at refl is due)
next_elapsed (suc zero) s first l last at is due = (6, refl, advance 3 s 3000 6 first l last at refl is due)
next_elapsed (suc (suc zero)) s first l last at is due = (9, refl, advance 6 s 3000 9 first l last at refl is due)
next_elapsed (suc (suc (suc zero))) s first l last at is due = (15, refl, advance 9 s 6000 15 first l last at refl is due)
next_elapsed (suc (suc (suc (suc zero)))) s first l last at is due = (27, refl, advance 15 s 12000 27 first l last at refl is due)
next_elapsed (suc (suc (suc (suc (suc zero))))) s first l last at is due = (51, refl, advance 27 s 24000 51 first l last at refl is due)
next_elapsed (suc (suc (suc (suc (suc (suc k)))))) s first l last at is due = absurd (let clash : ◌≡◌ {A = Option ℕ} None (Some last) = due in cc)

pub prompt_notices : PromptNotices
unfolding due_after IsPrompt
prompt_notices first last [] prompt = (0, refl, omega (arith, prompt))
prompt_notices first last (l ∷ before) prompt =
    let earlier = prompt_notices first l before prompt.1 in
    next_elapsed (length before) earlier.0 first l last earlier.1 earlier.2 prompt.0

once_more : (k count : ℕ) → k ≡ count → k + 1 ≡ suc count
once_more k count is = omega (arith, is)

pub notices_keep_time : NoticesKeepTime
unfolding due_after
notices_keep_time = record {
  first = λ n none. record { last_is = refl; times = none; due = ap (λ (k : ℕ). option_map (λ gap. n.last + gap) (slice_get gaps k)) none };
  again = λ n last now before keeps. record {
    last_is = refl;
    times = once_more n.resends (length before) keeps.times;
    due = ap (λ (k : ℕ). option_map (λ gap. now + gap) (slice_get gaps k)) (once_more n.resends (length before) keeps.times);
  };
}
