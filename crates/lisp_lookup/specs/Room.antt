-- Room: how much more there is room for.
use Rattle.std.specs.Prelude.{ℕ, ◌-◌, min}
use Rattle.std.specs.Vec.{vec_len, vec_capacity}
use Rattle.std.specs.VecDeque.{deque_len, deque_capacity}
use Rattle.std.specs.declared.vec.Vec.{Vec}
use Rattle.std.specs.declared.collections.VecDeque.{VecDeque}

-- how many elements more, in a list
abbrev pub vec_room : {X Z : Type 0} → Vec X Z → ℕ
vec_room v = vec_capacity v - vec_len v

-- how many numbers more, in an order
abbrev pub deque_room : {X Z : Type 0} → VecDeque X Z → ℕ
deque_room q = deque_capacity q - deque_len q

-- how many rows more, in rows with two orders of them
abbrev pub spare_of : {X Y Z : Type 0} → Vec X Z → VecDeque Y Z → VecDeque Y Z → ℕ
spare_of rows prefixes deadlines = min (vec_room rows) (min (deque_room prefixes) (deque_room deadlines))
