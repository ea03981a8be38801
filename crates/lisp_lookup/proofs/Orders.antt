-- The order of rows is total, and only rows of one router and prefix tie.
use Rattle.std.proofs.Common.{◌≡◌, ap}
use Rattle.std.proofs.lemmas.Map.Lookups.{exact_pairs, exact_unsigned, exact_bytes}
use Rattle.std.specs.Cmp.{IsTotalOrder, on_total, then_total, nat_cmp_total}
use Rattle.std.specs.Cmp.Lexicographic.{slice_cmp, nat_list_cmp_total}
use Rattle.std.specs.Ordering.{nat_cmp, ordering_then}
use Rattle.std.specs.declared.cmp.Ordering.{Ordering}
use Rattle.std.specs.declared.cmp.Ordering.TheVariants.{Equal}
use Rattle.lisp_records.specs.declared.address.Addr.{Addr}
use Rattle.lisp_records.specs.declared.address.Addr.TheVariants.{V4, V6}
use Rattle.lisp_records.specs.declared.router.RouterId.{RouterId}
use Rattle.lisp_records.specs.Address.{PrefixValue, addr_cmp, prefix_cmp}
use Rattle.lisp_records.specs.Router.{router_cmp}
pub use Rattle.lisp_records.proofs.RisingLaws.{addr_total, block_total}

same_addr : (a b : Addr) → addr_cmp a b ≡ Equal → a ≡ b
same_addr (V4 a) (V4 b) tie = ap V4 (exact_bytes a b tie)
same_addr (V6 a) (V6 b) tie = ap V6 (exact_bytes a b tie)
same_addr _ _ tie = absurd cc

pub same_block : (a b : PrefixValue) → prefix_cmp a b ≡ Equal → a ≡ b
same_block a b tie =
    let parts = exact_pairs addr_cmp nat_cmp same_addr exact_unsigned (a.addr, a.mask_len) (b.addr, b.mask_len) tie in
    λ i. record { addr = (parts i).0; mask_len = (parts i).1 }

pub router_total : IsTotalOrder router_cmp
router_total = then_total (on_total (λ (r : RouterId). r.site) nat_cmp_total) (on_total (λ (r : RouterId). r.xtr) nat_list_cmp_total)

pub same_router : (a b : RouterId) → router_cmp a b ≡ Equal → a ≡ b
same_router a b tie =
    let parts = exact_pairs nat_cmp (slice_cmp nat_cmp) exact_unsigned exact_bytes (a.site, a.xtr) (b.site, b.xtr) tie in
    λ i. record { site = (parts i).0; xtr = (parts i).1 }

-- the order of what there is one row for
abbrev pub key_cmp : RouterId × PrefixValue → RouterId × PrefixValue → Ordering
key_cmp a b = ordering_then (router_cmp a.0 b.0) (prefix_cmp a.1 b.1)

pub key_total : IsTotalOrder key_cmp
key_total = then_total (on_total (λ (k : RouterId × PrefixValue). k.0) router_total) (on_total (λ (k : RouterId × PrefixValue). k.1) block_total)

pub same_key : (a b : RouterId × PrefixValue) → key_cmp a b ≡ Equal → a ≡ b
same_key a b tie = exact_pairs router_cmp prefix_cmp same_router same_block a b tie
