use Rattle.std.proofs.Common.{refl, sym, ap, ◌∙◌, arith}
use Rattle.std.proofs.lemmas.List.{get_or_read}
use Rattle.lisp_lookup.specs.{Table.is_row_of, Index.row_prefix_cmp}
use Rattle.lisp_lookup.proofs.IndexLaws.{number_within}
use Rattle.lisp_lookup.proofs.PutLaws.{found_here}
use Rattle.lisp_lookup.proofs.index.number_at.Goals as goal

pub returns-in-Some-clause-found : goal.returns-in-Some-clause-found
returns-in-Some-clause-found g c =
    let within = number_within row_prefix_cmp c.args.rows.now c.args.by_prefix.now.items c.args.place c.in-Some.number.now c.requires.index.rises (omega (arith, c.in-Some.ensures.variant.0 refl, c.args.by_prefix.now.ok.0)) c.in-Some.ensures.lookup in
    found_here c.args.rows.now c.args.by_prefix.now.items c.args.row.now c.requires.index c.in-Some.number.now within (ap (is_row_of c.args.row.now.router c.args.row.now.mapping.eid) (sym (get_or_read c.args.rows.now c.in-Some.number.now c.index-rows-number.result within c.index-rows-number.is c.args.row.now)) ∙ sym c.if-is_row_of.ensures)
