-- Equality of prefixes, as their type derives it.
use Rattle.std.proofs.Common.{◌≡◌, ℕ, List, refl}
use Rattle.std.specs.List.{list_any}
use Rattle.lisp_records.specs.contracts.prefix.PrefixPartialEq.TheImpl.{ghosts as derived}
use Rattle.lisp_records.specs.declared.address.Addr.{Addr}
use Rattle.lisp_records.specs.declared.address.Addr.TheVariants.{V4, V6}
use Rattle.lisp_records.specs.Address.{PrefixValue, prefix_eq}
use Rattle.lisp_policy.specs.declared.site.SitePrefix.{SitePrefix}
use Rattle.lisp_sites.specs.Table.{has_eid}

same_parts : (a b : Addr) (m n : ℕ) → derived.eq (record { addr = a; mask_len = m }) (record { addr = b; mask_len = n }) ≡ prefix_eq (record { addr = a; mask_len = m }) (record { addr = b; mask_len = n })
same_parts (V4 a) (V4 b) m n = refl
same_parts (V4 a) (V6 b) m n = refl
same_parts (V6 a) (V4 b) m n = refl
same_parts (V6 a) (V6 b) m n = refl

-- a prefix is there by this equality where it is there by its parts
pub has_eid_derived : (prefixes : List SitePrefix) (eid : PrefixValue) → list_any (λ p. derived.eq p.eid eid) prefixes ≡ has_eid prefixes eid
has_eid_derived prefixes eid i = list_any (λ p. same_parts p.eid.addr eid.addr p.eid.mask_len eid.mask_len i) prefixes
