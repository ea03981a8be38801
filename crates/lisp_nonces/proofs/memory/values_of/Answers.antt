use Rattle.std.proofs.Common.{sym, ap, ◌∙◌, arith}
use Rattle.lisp_nonces.specs.Entries.{EntryValue}
use Rattle.lisp_nonces.proofs.Entries.{kept_of_entries, place_within, values_at, nowhere}
use Rattle.lisp_nonces.proofs.memory.values_of.Goals as goal

pub returns-in-Some-clause-values : goal.returns-in-Some-clause-values
returns-in-Some-clause-values g c = c.values.ensures.value ∙ ap (λ (e : EntryValue). e.values) c.index-entries-i.is ∙ sym (values_at c.args.pair.now c.args.entries.now c.in-Some.i c.index-entries-i.result (sym c.in-Some.ensures)) ∙ sym (kept_of_entries c.args.entries.now c.args.pair.now)

pub returns-in-None-clause-values : goal.returns-in-None-clause-values
returns-in-None-clause-values g c = sym (nowhere c.args.pair.now c.args.entries.now (sym c.in-None.ensures)) ∙ sym (kept_of_entries c.args.entries.now c.args.pair.now)

pub bounds-entries-i : goal.bounds-entries-i
bounds-entries-i g c = place_within c.args.pair.now c.args.entries.now c.in-Some.i (sym c.in-Some.ensures)

pub offset_bounds-entries-i : goal.offset_bounds-entries-i
offset_bounds-entries-i g c = omega (arith, place_within c.args.pair.now c.args.entries.now c.in-Some.i (sym c.in-Some.ensures))
