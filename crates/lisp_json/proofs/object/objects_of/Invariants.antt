use Rattle.std.proofs.Common.{◌≡◌}
use Rattle.lisp_json.specs.Object.{AreObjects}
use Rattle.lisp_json.specs.Words.{texts}
use Rattle.lisp_json.proofs.object.objects_of.Given as goal

-- the objects of the lines so far
abbrev pub invariant-loop-line : goal.invariant-loop-line
invariant-loop-line g l = AreObjects (texts l.yielded) l.objects.items
