use Rattle.std.proofs.Common.{◌≡◌, ◌++◌, map, take}
use Rattle.std.specs.List.{flat_map}
use Rattle.lisp_json.specs.Object.{member_text}
use Rattle.lisp_json.specs.Views.{member_view}
use Rattle.lisp_json.proofs.object.put_members.Given as goal

abbrev pub invariant-loop-member : goal.invariant-loop-member
invariant-loop-member g l = l.out.items ≡ l.fn.out.items ++ flat_map member_text (map member_view (take l.member-index l.members))
