-- What a site allows, as a fact and as a test.
use Rattle.std.proofs.Common.{◌≡◌, nat_le, true≢false, sym, ◌&&◌, ◌==◌, ap}
use Rattle.std.specs.Bool.{Decides}
use Rattle.std.proofs.lemmas.Bool.Decides.{Decides-and, Decides-or, Decides-eqb}
use Rattle.std.proofs.lemmas.Bool.{leb-true, le-leb}
use Rattle.std.proofs.lemmas.List.Folds.{Any-from_list_any, list_any-from_Any}
use Rattle.std.proofs.lemmas.Slice.Eq.{bytes_eq-Decides}
use Rattle.lisp_records.specs.declared.address.Addr.{Addr}
use Rattle.lisp_records.specs.declared.address.Addr.TheVariants.{V4, V6}
use Rattle.lisp_records.specs.Address.{PrefixValue, Covers, addr_eq, prefix_eq, covers, cleared, octets}
use Rattle.lisp_policy.specs.declared.site.SitePrefix.{SitePrefix}
use Rattle.lisp_policy.specs.Site.{SiteValue, LetsIn, lets_in, Allowed, is_allowed}

addr_decided : (a b : Addr) → Decides (addr_eq a b) (a ≡ b)
addr_decided (V4 a) (V4 b) = (λ t. ap V4 ((bytes_eq-Decides a b).0 t), λ e. (bytes_eq-Decides a b).1 (ap octets e))
addr_decided (V4 a) (V6 b) = (λ t. absurd (true≢false (sym t)), λ e. absurd (let clash : V4 a ≡ V6 b = e in cc))
addr_decided (V6 a) (V4 b) = (λ t. absurd (true≢false (sym t)), λ e. absurd (let clash : V6 a ≡ V4 b = e in cc))
addr_decided (V6 a) (V6 b) = (λ t. ap V6 ((bytes_eq-Decides a b).0 t), λ e. (bytes_eq-Decides a b).1 (ap octets e))

block_decided : (a b : PrefixValue) → Decides (prefix_eq a b) (a ≡ b)
block_decided a b =
    let both = Decides-and (addr_eq a.addr b.addr) (a.mask_len == b.mask_len) (addr_decided a.addr b.addr) (Decides-eqb a.mask_len b.mask_len) in
    (λ t i. record { addr = (both.0 t).0 i; mask_len = (both.0 t).1 i }, λ e. both.1 (ap (λ (x : PrefixValue). x.addr) e, ap (λ (x : PrefixValue). x.mask_len) e))

covers_decided : (b other : PrefixValue) → Decides (covers b other) (Covers b other)
covers_decided b other = Decides-and (nat_le b.mask_len other.mask_len) (addr_eq (cleared other.addr b.mask_len) b.addr) (leb-true b.mask_len other.mask_len, le-leb b.mask_len other.mask_len) (addr_decided (cleared other.addr b.mask_len) b.addr)

lets_in_decided : (p : SitePrefix) (b : PrefixValue) → Decides (lets_in p b) (LetsIn p b)
lets_in_decided p b = Decides-or (prefix_eq p.eid b) (p.more_specifics && covers p.eid b) (block_decided p.eid b) (Decides-and p.more_specifics (covers p.eid b) (λ t. t, λ t. t) (covers_decided p.eid b))

pub decided : (site : SiteValue) (b : PrefixValue) → Decides (is_allowed site b) (Allowed site b)
decided site b = (
  λ t. let (k, p, low, at, test) = Any-from_list_any (λ p. lets_in p b) site.prefixes t in (k, p, low, at, (lets_in_decided p b).0 test),
  λ h. list_any-from_Any (λ p. lets_in p b) site.prefixes (h.0, h.1, h.2, h.3, (lets_in_decided h.1 b).1 h.4),
)
