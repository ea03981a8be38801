use Rattle.std.proofs.Common.{◌≡◌, [], Some, Bool, sym, subst}
use Rattle.std.specs.Bool.{MatchBool}
use Rattle.std.specs.String.{string_bytes}
use Rattle.lisp_control.specs.Part.{BeginsRouters}
use Rattle.lisp_control.specs.declared.part.Progress.TheVariants as progresses
use Rattle.lisp_control.proofs.Values.{of_value}
use Rattle.lisp_control.proofs.part.counted_part.Goals as goal

-- the counts of all rows are those by which the answer begins
pub returns-clause-told : goal.returns-clause-told
returns-clause-told c = of_value c.first_list_part.result _ _ (λ part begins. record {
  old = c.counted_so_far-rows.result;
  new = c.gather.new.self;
  is_end = c.in_ok-gather.field-0;
  so_far = c.counted_so_far-rows.ensures;
  counts = c.in_ok-gather.ensures.counts;
  exact = c.in_ok-gather.ensures.exact;
  told = subst (λ (is_end : Bool). MatchBool is_end (BeginsRouters c.args.config.now c.args.number c.args.statistics.now c.args.runs.now c.args.now c.gather.new.self (string_bytes part.text) part.rest) ((string_bytes part.text ≡ []) × (part.rest ≡ Some (progresses.Counts c.gather.new.self)))) (sym c.if-not-branch.false) begins;
}) c.first_list_part.ensures.told
