-- Timers: when a router's Map-Registers and a server's notices are due (RFC 9301 sections 5.7 and 8.2).
use Rattle.std.specs.Prelude.{ℕ, ◌+◌, ◌==◌, ◌&&◌, nat_le, Bool, false, not, List, [], ◌∷◌, map, position, take, Option, Some, None, if◌then◌else◌}
use Rattle.std.specs.List.{find, filter}
use Rattle.lisp_records.specs.declared.router.RouterId.{RouterId}
use Rattle.lisp_records.specs.Moment.{minute}
use Rattle.lisp_records.specs.Parts.{part_count}
use Rattle.lisp_records.specs.Router.{router_eq}
use Rattle.lisp_policy.specs.Configuration.{ConfigValue}
use Rattle.lisp_etr.specs.Timers.{due_after}
use Rattle.lisp_admission.specs.NoticeTimer.{due_after as notice_due_after, has_come}
use Rattle.lisp_model.specs.declared.line.Line.TheVariants as lines
use Rattle.lisp_model.specs.Trace.{Step, Opening, clock, database, router_at, Line}
use Rattle.lisp_model.specs.Numbers.{part_numbers}

-- a round of a router's Map-Registers of one part to one server: when the first is due, and the moments of those that
-- were sent, the last one first
pub record RoundTimes : Type 0 where
  pub begin : ℕ
  pub moments : List ℕ

-- a new round begins at the start and at a change of the database or the key; and a minute after the last send that is counted
abbrev pub with_renewal : RoundTimes → List ℕ → RoundTimes
with_renewal old [] = old
with_renewal old (last ∷ _) = record { begin = last + minute; moments = [] }

abbrev pub round_after : Line → ℕ → ℕ → ℕ → ℕ → RoundTimes → RoundTimes
round_after (lines.Changed router _) now r s p old = if router == r then record { begin = now; moments = [] } else old
round_after (lines.Restarted node) now r s p old = if node == r then record { begin = now; moments = [] } else old
round_after (lines.Rotated node _) now r s p old = if node == r then record { begin = now; moments = [] } else old
round_after (lines.Emptied node _) now r s p old = if node == r then record { begin = now; moments = [] } else old
round_after (lines.Sent router server part _ _ _) now r s p old =
    if router == r && server == s && part == p then record old { moments = now ∷ old.moments } else old
round_after (lines.Counted router server part _ _) now r s p old =
    if router == r && server == s && part == p then with_renewal old old.moments else old
round_after _ now r s p old = old

abbrev pub round : List Step → ℕ → ℕ → ℕ → RoundTimes
round [] r server part = record { begin = 0; moments = [] }
round (s ∷ T) r server part = round_after s.line (clock T) r server part (round T r server part)

-- when the next Map-Register of a part to a server is due
abbrev pub due : List Step → ℕ → ℕ → ℕ → ℕ
due T r server part = due_after (round T r server part).begin (round T r server part).moments

-- the first part of a router's database that is due at a server
abbrev pub due_part : Opening → List Step → ℕ → ℕ → Option ℕ
due_part o T r server =
    position (λ part. nat_le (due T r server part) (clock T)) (take (part_count (database o T r)) part_numbers)

-- a notice that stands: for which router, under which key and nonce; the datagram that carried it first;
-- and the moments of its sendings, the last one first
pub record Notice : Type 0 where
  pub router : RouterId
  pub key : ℕ
  pub nonce : ℕ
  pub datagram : ℕ
  pub moments : List ℕ

-- the notices to other routers
abbrev pub notices_to_others : RouterId → List Notice → List Notice
notices_to_others router notices = filter (λ n. not (router_eq n.router router)) notices

abbrev pub resent_at : RouterId → ℕ → Notice → Notice
resent_at router now n = if router_eq n.router router then record n { moments = now ∷ n.moments } else n

-- a notice stands from its line until it is acknowledged, another one to its router, or a start anew
abbrev pub notices_after : ConfigValue → Line → ℕ → ℕ → List Notice → List Notice
notices_after c (lines.Notice server router key nonce datagram) now k old = if server == k then record { router = (router_at c router).me; key = key; nonce = nonce; datagram = datagram; moments = now ∷ [] } ∷ notices_to_others (router_at c router).me old else old
notices_after c (lines.Resent server router _) now k old =
    if server == k then map (resent_at (router_at c router).me now) old else old
notices_after c (lines.Done server router _) now k old = if server == k then notices_to_others router old else old
notices_after c (lines.Restarted node) now k old = if node == k then [] else old
notices_after c (lines.Renewed server _) now k old = if server == k then [] else old
notices_after c _ now k old = old

abbrev pub notices : Opening → List Step → ℕ → List Notice
notices o [] server = []
notices o (s ∷ T) server = notices_after o.config s.line (clock T) server (notices o T server)

-- the notice that stands for a router
abbrev pub notice_to : Opening → List Step → ℕ → RouterId → Option Notice
notice_to o T server router = find (λ n. router_eq n.router router) (notices o T server)

-- it is due
abbrev pub is_due : Option Notice → ℕ → Bool
is_due None now = false
is_due (Some n) now = has_come now (notice_due_after n.moments)

-- the nonce of a server's last notice since its start
abbrev pub last_notice_after : Line → ℕ → Option ℕ → Option ℕ
last_notice_after (lines.Notice server _ _ nonce _) k old = if server == k then Some nonce else old
last_notice_after (lines.Restarted node) k old = if node == k then None else old
last_notice_after (lines.Renewed server _) k old = if server == k then None else old
last_notice_after _ k old = old

abbrev pub last_notice : List Step → ℕ → Option ℕ
last_notice [] server = None
last_notice (s ∷ T) server = last_notice_after s.line server (last_notice T server)
