-- The test of addresses decides whether they are equal.
use Rattle.std.proofs.Common.{◌≡◌, ap}
use Rattle.std.specs.Bool.{Decides}
use Rattle.std.proofs.lemmas.Slice.Eq.{bytes_eq-Decides}
use Rattle.lisp_records.specs.declared.address.Addr.{Addr}
use Rattle.lisp_records.specs.declared.address.Addr.TheVariants.{V4, V6}
use Rattle.lisp_records.specs.Address.{addr_eq, octets}

pub addr_eq-Decides : (a b : Addr) → Decides (addr_eq a b) (a ≡ b)
addr_eq-Decides (V4 a) (V4 b) = (λ t. ap V4 ((bytes_eq-Decides a b).0 t), λ e. (bytes_eq-Decides a b).1 (ap octets e))
addr_eq-Decides (V4 a) (V6 b) = (λ t. absurd cc, λ e. absurd (let clash : V4 a ≡ V6 b = e in cc))
addr_eq-Decides (V6 a) (V4 b) = (λ t. absurd cc, λ e. absurd (let clash : V6 a ≡ V4 b = e in cc))
addr_eq-Decides (V6 a) (V6 b) = (λ t. ap V6 ((bytes_eq-Decides a b).0 t), λ e. (bytes_eq-Decides a b).1 (ap octets e))
