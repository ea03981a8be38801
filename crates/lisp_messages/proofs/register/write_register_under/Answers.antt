use Rattle.std.proofs.Common.{◌≡◌, ℕ, List, sym, subst, ◌∙◌, arith}
use Rattle.lisp_hmac.proofs.TagLemmas.{length-tag}
use Rattle.lisp_messages.specs.Authentic.{IsAuthentic, signed}
use Rattle.lisp_messages.specs.Message.{Registers}
use Rattle.lisp_messages.specs.Spelling.{Spells}
use Rattle.lisp_messages.specs.Written.{written_register}
use Rattle.lisp_messages.proofs.AuthenticLaws.{signed_register_is_authentic}
use Rattle.lisp_messages.proofs.WrittenLaws.{written_register_spells}
use Rattle.lisp_messages.proofs.WrittenLemmas.{written_register-put, length-written_register}
use Rattle.lisp_messages.proofs.register.write_register_under.Given as given
use Rattle.lisp_messages.proofs.register.write_register_under.Goals as goal

pub sign_written-requires : goal.sign_written-requires
sign_written-requires g c =
    let long = length-written_register c.args.message.now in
    omega (arith, c.put_register.new.out.ok, rw (← c.in_ok-put_register.ensures.written) at long)

-- what is sent is the written spelling with its tag
sent : (g : given.Over) (c : goal.After-sign_written g) → c.sign_written.new.message.items ≡ signed c.args.key.now (written_register c.args.message.now)
sent g c = c.sign_written.ensures ∙ rw c.in_ok-put_register.ensures.written (written_register-put c.args.message.now _)

pub returns-clause-written : goal.returns-clause-written
returns-clause-written g c = sent g c

pub returns-clause-authentic : goal.returns-clause-authentic
returns-clause-authentic g c =
    subst (λ (bytes : List ℕ). IsAuthentic bytes c.args.key.now) (sym (sent g c)) (signed_register_is_authentic c.args.key.now c.args.message.now)

pub returns-clause-spells : goal.returns-clause-spells
returns-clause-spells g c =
    subst (λ (bytes : List ℕ). Spells bytes (Registers c.args.message.now)) (sym (sent g c)) (written_register_spells c.args.message.now _ c.in_ok-put_register.ensures.known (length-tag c.args.key.now _ 16))
