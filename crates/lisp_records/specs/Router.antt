-- Who a router is, and the order of routers (RFC 9301 section 5.6).
use Rattle.std.specs.Prelude.{◌==◌, Bool, ◌&&◌}
use Rattle.std.specs.Str.{bytes_eq}
use Rattle.std.specs.declared.cmp.Ordering.{Ordering}
use Rattle.std.specs.Ordering.{nat_cmp, ordering_then}
use Rattle.std.specs.Cmp.Lexicographic.{slice_cmp}
use Rattle.lisp_records.specs.declared.router.RouterId.{RouterId}

-- the order of routers: by site, then by the first byte of the xTR-ID that differs
abbrev pub router_cmp : RouterId → RouterId → Ordering
router_cmp a b = ordering_then (nat_cmp a.site b.site) (slice_cmp nat_cmp a.xtr b.xtr)

-- the same router, as a test
abbrev pub router_eq : RouterId → RouterId → Bool
router_eq a b = (a.site == b.site) && bytes_eq a.xtr b.xtr
