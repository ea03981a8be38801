-- The interfaces of a capture: the Interface Description Block of pcapng (draft-ietf-opsawg-pcapng section 4.2).
use Rattle.std.specs.Prelude.{ℕ, zero, suc, ◌+◌, ◌*◌, ◌/◌, ◌==◌, nat_lt, Bool, ◌&&◌, ◌||◌, List, length, drop, Result, Ok, slice_index, if◌then◌else◌}
use Rattle.lisp_records.specs.Result.{◌>>=◌}
use Rattle.lisp_captures.specs.declared.datagram.Unread.{Unread}
use Rattle.lisp_captures.specs.declared.datagram.Unread.TheVariants as unread
use Rattle.lisp_captures.specs.declared.interface.Interface.{Interface}
use Rattle.lisp_captures.specs.declared.numbers.ByteOrder.{ByteOrder}
use Rattle.lisp_captures.specs.Numbers.{u16_at, u32_at}
use Rattle.lisp_captures.specs.Reading.{after}

-- microseconds: the resolution where no option says it
abbrev pub default_resolution : ℕ
default_resolution = 6

-- the bytes of the option that begins there: code, length, and a value that is filled up to a multiple of 4
abbrev pub option_len : ByteOrder → List ℕ → ℕ
option_len order bytes = 4 + (u16_at order bytes 2 + 3) / 4 * 4

-- no option begins there: too few bytes, or opt_endofopt
abbrev pub is_past_options : ByteOrder → List ℕ → Bool
is_past_options order bytes = nat_lt (length bytes) 4 || (nat_lt (length bytes) (option_len order bytes) || (u16_at order bytes 0 == 0))

-- it is if_tsresol, of one byte
abbrev pub says_resolution : ByteOrder → List ℕ → Bool
says_resolution order bytes = (u16_at order bytes 0 == 9) && (u16_at order bytes 2 == 1)

-- the resolution that the first of at most so many options says
unfoldable pub resolution_in : ℕ → ByteOrder → List ℕ → ℕ
resolution_in zero order options = default_resolution
resolution_in (suc n) order options =
    if is_past_options order options then default_resolution
    else (if says_resolution order options then slice_index options 4
    else resolution_in n order (drop (option_len order options) options))

abbrev pub resolution_of : ByteOrder → List ℕ → ℕ
resolution_of order options = resolution_in (length options) order options

-- what the body of the block says: link type, two reserved bytes, snapshot length, options
unfoldable pub described_at : ByteOrder → List ℕ → Result Interface Unread
described_at order body = do
  options ← after unread.Lost 8 body
  Ok (record { link = u16_at order body 0; snap_len = u32_at order body 4; resolution = resolution_of order options })
