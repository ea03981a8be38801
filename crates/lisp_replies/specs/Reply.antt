-- What a Map-Server does for an EID-Prefix that a Map-Request asks for (RFC 9301 sections 8.3 and 8.4).
use Rattle.std.specs.Prelude.{◌≡◌, ◌⊎◌, ℕ, Bool, true, false, not, ◌&&◌, ◌-◌, nat_lt, List}
use Rattle.std.specs.List.{list_any}
use Rattle.lisp_records.specs.declared.address.Addr.{Addr}
use Rattle.lisp_records.specs.Address.{PrefixValue, covers, prefix_eq}
use Rattle.lisp_records.specs.Row.{RowValue}
use Rattle.lisp_policy.specs.Site.{SiteValue, is_configured}
use Rattle.lisp_lookup.specs.Covering.{IsBestFor, NoneAnswersFor, alone}
use Rattle.lisp_lookup.specs.Hole.{IsHole}
use Rattle.lisp_lookup.specs.Replies.{RepliesWith}
use Rattle.lisp_replies.specs.Narrowing.{FitNowhere}
use Rattle.lisp_replies.specs.declared.reply.Reply.{Reply}
use Rattle.lisp_replies.specs.declared.reply.Reply.TheVariants.{Records, Negative, Forward, Silent}

-- how long an ITR may keep a negative Map-Reply, in minutes: less where a site has the address, whose router may come back
abbrev pub negative_ttl : Bool → ℕ
negative_ttl true = 1
negative_ttl false = 15

-- ---- in the first moments of a life, when rows haven't come back yet

-- a life that began at a moment is in them, where they last for so many ms
abbrev pub is_starting : ℕ → ℕ → ℕ → Bool
is_starting began quiet now = nat_lt (now - began) quiet

-- the prefix is one of a site
abbrev pub is_of_site : List SiteValue → PrefixValue → Bool
is_of_site sites eid = list_any (λ s. list_any (λ p. prefix_eq p.eid eid) s.prefixes) sites

-- a longer one of a site covers the one that is asked for
abbrev pub is_longer_of_site : List SiteValue → PrefixValue → PrefixValue → Bool
is_longer_of_site sites asked eid = list_any (λ s. list_any (λ p. covers p.eid asked && nat_lt eid.mask_len p.eid.mask_len) s.prefixes) sites

-- a row isn't replied with then, unless its prefix is the longest of a site that covers the one that is asked for
abbrev pub is_held_back : Bool → List SiteValue → PrefixValue → RowValue → Bool
is_held_back starting sites asked best = starting && not (is_of_site sites best.mapping.eid && not (is_longer_of_site sites asked best.mapping.eid))

-- ---- for a prefix for which a row answers

-- its records, where its router asked for proxy replies; else the Map-Request goes on to the source of its Map-Register
abbrev pub RepliesFor : {A : Type 0} → List RowValue → List SiteValue → PrefixValue → Bool → ℕ → Reply A → Type 0
RepliesFor rows sites asked starting now (Records records) = (r : RepliesWith rows asked now records) × (is_held_back starting sites asked r.best ≡ false)
RepliesFor rows sites asked starting now (Forward to) = (h : RowValue) × IsBestFor rows asked now h × (h.proxy ≡ false) × (to ≡ h.from)
RepliesFor rows sites asked starting now Silent = (h : RowValue) × IsBestFor rows asked now h × (h.proxy ≡ true) × (is_held_back starting sites asked h ≡ true)
RepliesFor rows sites asked starting now (Negative hole) = ⊥

-- ---- for an address for which none does

-- the widest prefix around it in which nobody is there
abbrev pub RepliesNone : {A : Type 0} → List RowValue → List SiteValue → Addr → Bool → ℕ → Reply A → Type 0
RepliesNone rows sites addr starting now (Negative hole) = (starting ≡ false) × IsHole rows sites addr now hole.eid × (hole.ttl ≡ negative_ttl (is_configured sites addr))
RepliesNone rows sites addr starting now Silent = (starting ≡ true) × NoneAnswersFor rows (alone addr) now
RepliesNone rows sites addr starting now _ = ⊥

-- ---- for any prefix

-- one row answers with records that fit no message, however the prefix is narrowed
pub record IsTooLarge (rows : List RowValue) (sites : List SiteValue) (asked : PrefixValue) (starting : Bool) (now : ℕ) : Type 0 where
  pub best : RowValue
  pub is_best : IsBestFor rows asked now best
  pub proxy : best.proxy ≡ true
  pub free : is_held_back starting sites asked best ≡ false
  pub nowhere : FitNowhere rows asked now best

-- no row answers for the prefix, or one with too much
abbrev pub IsUnanswered : List RowValue → List SiteValue → PrefixValue → Bool → ℕ → Type 0
IsUnanswered rows sites asked starting now = NoneAnswersFor rows asked now ⊎ IsTooLarge rows sites asked starting now

-- then its address alone is answered
abbrev pub IsReply : {A : Type 0} → List RowValue → List SiteValue → PrefixValue → Bool → ℕ → Reply A → Type 0
IsReply rows sites asked starting now reply = RepliesFor rows sites asked starting now reply
    ⊎ (IsUnanswered rows sites asked starting now × (RepliesFor rows sites (alone asked.addr) starting now reply ⊎ RepliesNone rows sites asked.addr starting now reply))
