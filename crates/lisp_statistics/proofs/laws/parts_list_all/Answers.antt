use Rattle.std.specs.Global.{Global}
use Rattle.lisp_statistics.proofs.WholeList.{parts_list_all}
use Rattle.lisp_statistics.proofs.laws.parts_list_all.Goals as goal

pub returns : goal.returns
returns c = parts_list_all Global
