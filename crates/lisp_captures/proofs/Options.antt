-- Options one after the other, as a loop passes over them.
use Rattle.std.proofs.Common.{◌≡◌, ℕ, suc, ◌-◌, ◌+◌, ◌≤◌, ◌<◌, true, false, List, drop, refl, sym, ◌∙◌, arith}
use Rattle.std.specs.Prelude.{slice_index}
use Rattle.lisp_captures.specs.declared.numbers.ByteOrder.{ByteOrder}
use Rattle.lisp_captures.specs.Interface.{default_resolution, is_past_options, option_len, resolution_in, says_resolution}

-- one more option is passed over
pub goes_on : (order : ByteOrder) (count i : ℕ) (bytes : List ℕ) (total : ℕ) → i < count → is_past_options order bytes ≡ false → says_resolution order bytes ≡ false → resolution_in (count - i) order bytes ≡ total
    → resolution_in (count - (i + 1)) order (drop (option_len order bytes) bytes) ≡ total
unfolding resolution_in
goes_on order count i bytes total lt more other so_far =
    let k : count - i ≡ suc (count - (i + 1)) = omega arith in
    let one : resolution_in (count - i) order bytes ≡ resolution_in (count - (i + 1)) order (drop (option_len order bytes) bytes) = rw (k, more, other) refl in
    sym one ∙ so_far

-- the next option says it
pub is_said : (order : ByteOrder) (count i : ℕ) (bytes : List ℕ) (total : ℕ) → i < count → is_past_options order bytes ≡ false → says_resolution order bytes ≡ true → resolution_in (count - i) order bytes ≡ total → slice_index bytes 4 ≡ total
unfolding resolution_in
is_said order count i bytes total lt more says so_far =
    let k : count - i ≡ suc (count - (i + 1)) = omega arith in
    let one : resolution_in (count - i) order bytes ≡ slice_index bytes 4 = rw (k, more, says) refl in
    sym one ∙ so_far

-- no option follows
pub is_done : (order : ByteOrder) (count i : ℕ) (bytes : List ℕ) (total : ℕ) → i < count → is_past_options order bytes ≡ true → resolution_in (count - i) order bytes ≡ total → default_resolution ≡ total
unfolding resolution_in
is_done order count i bytes total lt past so_far =
    let k : count - i ≡ suc (count - (i + 1)) = omega arith in
    let one : resolution_in (count - i) order bytes ≡ default_resolution = rw (k, past) refl in
    sym one ∙ so_far

-- there is room for no more
pub is_full : (order : ByteOrder) (count i : ℕ) (bytes : List ℕ) (total : ℕ) → count ≤ i → resolution_in (count - i) order bytes ≡ total → default_resolution ≡ total
unfolding resolution_in
is_full order count i bytes total le so_far =
    let k : count - i ≡ 0 = omega arith in
    let one : resolution_in (count - i) order bytes ≡ default_resolution = rw k refl in
    sym one ∙ so_far
