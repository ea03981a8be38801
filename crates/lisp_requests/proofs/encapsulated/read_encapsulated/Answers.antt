use Rattle.std.proofs.Common.{◌≡◌, arith}
use Rattle.lisp_records.specs.Address.{family}
use Rattle.lisp_requests.specs.Encapsulated.{SpellsEncapsulated, encapsulated_at}
use Rattle.lisp_requests.specs.Meaning.{encapsulated_value}
use Rattle.lisp_requests.proofs.GivenLaws.{found_plain, only_plain}
use Rattle.lisp_requests.proofs.EncapsulatedLaws.{encapsulated_takes, encapsulated_again, one_family}
use Rattle.lisp_requests.proofs.encapsulated.read_encapsulated.Goals as goal

pub returns-clause-found : goal.returns-clause-found
returns-clause-found c =
    let bytes = c.args.bytes.now in
    found_plain encapsulated_value (SpellsEncapsulated bytes) c.read_whole.result (encapsulated_at bytes) (λ m. encapsulated_takes bytes m (λ i. omega (arith, c.type_inv.bytes i))) c.read_whole.ensures

pub returns-clause-only : goal.returns-clause-only
returns-clause-only c m spells =
    let bytes = c.args.bytes.now in
    only_plain encapsulated_value c.read_whole.result (encapsulated_at bytes) m (encapsulated_again bytes m spells) c.read_whole.ensures

pub returns-clause-family : goal.returns-clause-family
returns-clause-family c =
    let bytes = c.args.bytes.now in
    found_plain encapsulated_value (λ m. family m.source ≡ family m.destination) c.read_whole.result (encapsulated_at bytes) (λ m reads. one_family bytes m (encapsulated_takes bytes m (λ i. omega (arith, c.type_inv.bytes i)) reads)) c.read_whole.ensures
