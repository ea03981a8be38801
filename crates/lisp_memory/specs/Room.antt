-- How much room is asked for at once, and whether there is room without asking.
use Rattle.std.specs.Prelude.{ℕ, ◌+◌, ◌^◌, ◌≤◌, List, length, Vec, vec_len, vec_capacity, String, string_len, string_capacity}
use Rattle.std.specs.VecDeque.{deque_len, deque_capacity}
use Rattle.std.specs.declared.collections.VecDeque.{VecDeque}

-- the most elements that one call may ask room for, unless there are as many items already: what is beyond it every
-- memory refuses, so that a call which asked for it could give up at will
abbrev pub most_room : ℕ
most_room = 2 ^ 32

-- a vector has room for one element more for each of these items
abbrev pub VecHasRoom : {X Y Z : Type 0} → Vec X Z → List Y → Type 0
VecHasRoom v items = vec_len v + length items ≤ vec_capacity v

-- so has a deque
abbrev pub DequeHasRoom : {X Y Z : Type 0} → VecDeque X Z → List Y → Type 0
DequeHasRoom d items = deque_len d + length items ≤ deque_capacity d

-- a text has room for so many bytes more
abbrev pub StringHasRoom : {Z : Type 0} → String Z → List ℕ → Type 0
StringHasRoom text bytes = string_len text + length bytes ≤ string_capacity text
