use Rattle.std.proofs.Common.{List, ◌++◌, map, ap, ◌∙◌}
use Rattle.std.specs.List.{flat_map}
use Rattle.std.proofs.lemmas.List.{take_all}
use Rattle.lisp_json.specs.Object.{member_text}
use Rattle.lisp_json.specs.Views.{member_view}
use Rattle.lisp_json.specs.declared.told.Member.{Member}
use Rattle.lisp_json.proofs.Taking.{write_more}
use Rattle.lisp_json.proofs.object.put_members.Goals as goal

pub loop-member-preserved : goal.loop-member-preserved
loop-member-preserved g c = write_more member_text member_view c.args.members.now c.loop-member.member-index _ _ _ _ c.loop-member-test.true c.loop-member.invariant c.in_ok-put_member.ensures.text

pub returns-clause-text : goal.returns-clause-text
returns-clause-text g c = c.loop-member.invariant ∙ ap (λ (ms : List Member). c.args.out.now.items ++ flat_map member_text (map member_view ms)) (take_all c.loop-member.member-index c.args.members.now c.loop-member-test.false)
