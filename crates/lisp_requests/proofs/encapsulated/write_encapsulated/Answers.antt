use Rattle.std.proofs.Common.{ℕ, List, refl, sym, subst}
use Rattle.lisp_requests.specs.Encapsulated.{IsEncapsulated, SpellsEncapsulated}
use Rattle.lisp_requests.specs.Meaning.{encapsulated_value}
use Rattle.lisp_requests.proofs.InnerLemmas.{encapsulated_put}
use Rattle.lisp_requests.proofs.SpelledLaws.{encapsulated_spelled}
use Rattle.lisp_requests.proofs.encapsulated.write_encapsulated.Given as given
use Rattle.lisp_requests.proofs.encapsulated.write_encapsulated.Goals as goal

pub returns-clause-written : goal.returns-clause-written
returns-clause-written g c =
    encapsulated_put (encapsulated_value c.args.request.now) c.new-out.result.items c.try_extend_from_slice.new.self.items c.put_ip_head.new.out.items c.put_udp.new.out.items _ c.new-out.ensures.items refl
    c.in_ok-try_extend_from_slice.ensures.items c.in_ok-put_ip_head.ensures.header c.in_ok-put_udp.ensures.datagram

-- what the fields of the message promise
fits : (g : given.Over) (c : goal.In_ok-put_udp g) → IsEncapsulated (encapsulated_value c.args.request.now)
fits g c = record {
  one_family = c.requires.0;
  source = c.in_ok-put_ip_head.ensures.whole.0;
  destination = c.in_ok-put_ip_head.ensures.whole.1;
  port = c.in_ok-put_udp.ensures.port;
  message = c.in_ok-put_udp.ensures.bytes;
  fits = c.requires.1;
}

pub returns-clause-known : goal.returns-clause-known
returns-clause-known g c = fits g c

pub returns-clause-spells : goal.returns-clause-spells
returns-clause-spells g c =
    let m = encapsulated_value c.args.request.now in
    subst (λ (bytes : List ℕ). SpellsEncapsulated bytes m) (sym (returns-clause-written g c)) (encapsulated_spelled m (fits g c))
