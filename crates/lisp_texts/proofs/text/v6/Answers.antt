use Rattle.std.proofs.Common.{arith, ◌∙◌, length-set}
use Rattle.lisp_texts.specs.Reading.{groups_at}
use Rattle.lisp_texts.proofs.Groups.{no_colon, no_group, goes_on, no_last, is_done}
use Rattle.lisp_texts.proofs.text.v6.Goals as goal

pub returns-in_err-digits : goal.returns-in_err-digits
returns-in_err-digits c = c.from_residual.ensures ∙ no_colon _ c.loop-at.rest.now c.loop-at.at (groups_at 7 c.args.text.now) (omega arith) c.in_err-digits.ensures c.loop-at.invariant.read

pub returns-in_err-group : goal.returns-in_err-group
returns-in_err-group c = c.from_residual-in_err-group.ensures ∙ no_group _ c.loop-at.rest.now c.in_ok-digits.digits.now c.in_ok-digits.behind.now c.loop-at.at (groups_at 7 c.args.text.now) (omega arith) c.in_ok-digits.ensures c.in_err-group.ensures c.loop-at.invariant.read

pub loop-at-preserved : goal.loop-at-preserved
loop-at-preserved c = record {
  size = simp length-set c.loop-at.invariant.size;
  read = goes_on c.loop-at.octets c.loop-at.rest.now c.in_ok-digits.digits.now c.in_ok-digits.behind.now c.to_be_bytes.result c.loop-at.at c.in_ok-group.field-0 (groups_at 7 c.args.text.now) c.loop-at.invariant.size (omega arith) c.in_ok-digits.ensures c.in_ok-group.ensures c.to_be_bytes.ensures c.loop-at.invariant.read;
}

pub returns-in_err-group-2 : goal.returns-in_err-group-2
returns-in_err-group-2 c = c.from_residual-in_err-group-2.ensures ∙ no_last _ c.loop-at.rest.now c.loop-at.at (groups_at 7 c.args.text.now) (omega arith) c.in_err-group-2.ensures c.loop-at.invariant.read

pub returns : goal.returns
returns c = is_done c.loop-at.octets c.loop-at.rest.now c.to_be_bytes-2.result c.loop-at.at c.in_ok-group-2.field-0 (groups_at 7 c.args.text.now) c.loop-at.invariant.size (omega arith) c.in_ok-group-2.ensures c.to_be_bytes-2.ensures c.loop-at.invariant.read
