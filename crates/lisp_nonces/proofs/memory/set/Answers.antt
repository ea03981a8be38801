use Rattle.std.proofs.Common.{sym, ◌∙◌, arith}
use Rattle.std.proofs.lemmas.List.Quantifiers.{position-Some}
use Rattle.lisp_nonces.specs.Entries.{is_of}
use Rattle.lisp_nonces.proofs.Entries.{is_of_itself, set_here, set_there, push_here, push_there, kept_of_entries}
use Rattle.lisp_nonces.proofs.memory.set.Goals as goal

pub index_mut-requires : goal.index_mut-requires
index_mut-requires g c =
    let at = sym (rw c.deref.ensures.value at c.in-Some.ensures) in
    let place = (position-Some (is_of c.args.pair) c.args.entries.now.items c.in-Some.i (record { pair = c.args.pair; values = c.args.values.items }) at).0 in
    omega (arith, place, c.args.entries.now.ok.0)

pub returns-in-Some-clause-here : goal.returns-in-Some-clause-here
returns-in-Some-clause-here g c =
    let at = sym (rw c.deref.ensures.value at c.in-Some.ensures) in
    kept_of_entries _ c.args.pair ∙ set_here c.args.pair c.args.entries.now.items c.in-Some.i (record { pair = c.args.pair; values = c.args.values.items }) at (is_of_itself c.args.pair c.args.values.items)

pub returns-in-Some-clause-others : goal.returns-in-Some-clause-others
returns-in-Some-clause-others g c q differ =
    let at = sym (rw c.deref.ensures.value at c.in-Some.ensures) in
    kept_of_entries _ q ∙ set_there q c.args.pair c.args.entries.now.items c.in-Some.i (record { pair = c.args.pair; values = c.args.values.items }) differ at differ ∙ sym (kept_of_entries c.args.entries.now.items q)

pub returns-in_ok-try_push-in-None-clause-here : goal.returns-in_ok-try_push-in-None-clause-here
returns-in_ok-try_push-in-None-clause-here g c =
    let at = sym (rw c.deref.ensures.value at c.in-None.ensures) in
    rw c.in_ok-try_push-in-None.ensures.items (kept_of_entries _ c.args.pair ∙ push_here c.args.pair c.args.entries.now.items (record { pair = c.args.pair; values = c.args.values.items }) at (is_of_itself c.args.pair c.args.values.items))

pub returns-in_ok-try_push-in-None-clause-others : goal.returns-in_ok-try_push-in-None-clause-others
returns-in_ok-try_push-in-None-clause-others g c q differ = rw c.in_ok-try_push-in-None.ensures.items (kept_of_entries _ q ∙ push_there q c.args.entries.now.items (record { pair = c.args.pair; values = c.args.values.items }) differ ∙ sym (kept_of_entries c.args.entries.now.items q))
