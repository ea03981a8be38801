-- From where a Map-Server hears routers: one that moves is told, and at most once a minute.
use Rattle.std.specs.Prelude.{◌≡◌, ◌≢◌, ◌⊎◌, ℕ, ◌-◌, nat_le, Bool, true, not, ◌&&◌, List, Option, Some, None, if◌then◌else◌}
use Rattle.std.specs.BTreeMap.{is_at}
use Rattle.std.specs.Map.{lookup}
use Rattle.std.specs.Option.{is_some, option_and_then}
use Rattle.lisp_records.specs.declared.address.Addr.{Addr}
use Rattle.lisp_records.specs.declared.router.RouterId.{RouterId}
use Rattle.lisp_records.specs.Address.{addr_eq}
use Rattle.lisp_records.specs.Router.{router_cmp}
use Rattle.lisp_model.specs.declared.line.Line.TheVariants as lines
use Rattle.lisp_turns.specs.declared.outside.Printed.{Printed}
use Rattle.lisp_turns.specs.declared.outside.Printed.TheVariants as printed
use Rattle.lisp_log.specs.declared.moves.Whereabouts.{Whereabouts}

-- how long after a move was told the next one of the router may be, in ms
abbrev pub minute : ℕ
minute = 60000

-- which router a line says was heard, and from where: one of which a Map-Register was accepted
abbrev pub heard_in : Printed → Option (RouterId × Addr)
heard_in (printed.Heard (lines.Accepted server router key nonce datagram) from) = Some (router, from)
heard_in _ = None

-- where a router was heard last, if it was
abbrev pub where_is : List (RouterId × Whereabouts) → RouterId → Option Whereabouts
where_is moves router = lookup (is_at (router_cmp router)) moves

-- its move may be told: none was, or a minute ago
abbrev pub may_tell : Option ℕ → ℕ → Bool
may_tell None now = true
may_tell (Some told) now = nat_le minute (now - told)

-- it is heard from an address: the one that it moved from, where that is told
abbrev pub moved_from : Option Whereabouts → Addr → ℕ → Option Addr
moved_from None from now = None
moved_from (Some last) from now = if not (addr_eq last.from from) && may_tell last.told now then Some last.from else None

-- and where it is from then on
abbrev pub told_of : Option Whereabouts → Option ℕ
told_of last = option_and_then (λ w. w.told) last

abbrev pub heard_from : Option Whereabouts → Addr → ℕ → Whereabouts
heard_from last from now = record { from = from; told = if is_some (moved_from last from now) then Some now else told_of last }

-- a router is somewhere, and each other one where it was
pub record Sets (old new : List (RouterId × Whereabouts)) (router : RouterId) (at : Whereabouts) : Type 0 where
  pub here : where_is new router ≡ Some at
  pub others : (other : RouterId) → other ≢ router → where_is new other ≡ where_is old other

-- a router is heard from an address at a moment; where memory is refused for one that is new, all is as it was
abbrev pub Hears : Type 0 → List (RouterId × Whereabouts) → List (RouterId × Whereabouts) → RouterId → Addr → ℕ → Type 0
Hears may_refuse old new router from now = Sets old new router (heard_from (where_is old router) from now)
    ⊎ (may_refuse × (where_is old router ≡ None) × (new ≡ old))
