use Rattle.std.proofs.Common.{length}
use Rattle.std.proofs.lemmas.Result.{on_ok_weaker}
use Rattle.std.specs.Vec.{vec_len, vec_capacity}
use Rattle.std.specs.VecDeque.{deque_len, deque_capacity}
use Rattle.lisp_lookup.proofs.PutLaws.{room_all}
use Rattle.lisp_lookup.proofs.table.Table.prepare.Goals as goal

pub returns-clause-room : goal.returns-clause-room
returns-clause-room g c = on_ok_weaker c.make_room_for-3.result (room_all (length c.args.rows.now) (vec_capacity c.make_room_for.new.self) (vec_len c.make_room_for.new.self) (deque_capacity c.make_room_for-2.new.self) (deque_len c.make_room_for-2.new.self) (deque_capacity c.make_room_for-3.new.self) (deque_len c.make_room_for-3.new.self) c.in_ok-make_room_for.ensures.ok c.in_ok-make_room_for-2.ensures.ok) c.make_room_for-3.ensures.ok
