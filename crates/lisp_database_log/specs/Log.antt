-- What no crash leaves of a write-ahead log (the SQLite file format, section 4). A log is a header and frames, each a page behind a
-- header of its own; a frame passes if it has the salt of the log's header, and the checksum that goes on from the frame before.
use Rattle.std.specs.Prelude.{◌≡◌, ◌≢◌, ◌⊎◌, ℕ, ◌+◌, ◌<◌, ◌≤◌, List, length, slice_index}
use Rattle.sqlite_wal.specs.Format.{part, commit_size, IsSigned}
use Rattle.sqlite_wal.specs.Recovery.{header, frame, frame_at, Passes}

-- the bytes of a page
abbrev pub page_bytes : ℕ
page_bytes = 4096

-- a frame that passes behind the one before
abbrev pub GoesOn : List ℕ → ℕ → Type 0
GoesOn log i = Passes page_bytes log i

-- a frame of this log that ends a transaction: it has the size of the database after it
pub record Commits (log : List ℕ) (i : ℕ) : Type 0 where
  pub whole : frame_at page_bytes i + (24 + page_bytes) ≤ length log
  pub salt : part (frame page_bytes log i) 8 8 ≡ part (header log) 16 8
  pub size : commit_size (frame page_bytes log i) ≢ 0

-- how many frames SQLite may read: those before the first that doesn't pass, and none behind a header without its checksum
abbrev pub IsFront : List ℕ → ℕ → Type 0
IsFront log front = ((IsSigned (header log) → ⊥) × (front ≡ 0))
    ⊎ (IsSigned (header log) × ((i : ℕ) → i < front → GoesOn log i) × (GoesOn log front → ⊥))

-- the ends of two transactions, in frames that go on from each other
pub record AreTwoEnds (log : List ℕ) (first second : ℕ) : Type 0 where
  pub later : first < second
  pub ends : Commits log first
  pub ends_again : Commits log second
  pub goes_on : (i : ℕ) → first < i → i ≤ second → GoesOn log i

-- Two transactions are behind the front. A crash leaves a part of one alone, the last.
abbrev pub LosesTwo : List ℕ → ℕ → Type 0
LosesTwo log front = (first : ℕ) × (second : ℕ) × (front ≤ first) × AreTwoEnds log first second

-- The header says that it is whole, and isn't. Its first byte is written last, once the others are on the disk.
pub record IsBroken (log : List ℕ) : Type 0 where
  pub whole : 32 ≤ length log
  pub says : slice_index log 0 ≡ 0x37
  pub unsigned : IsSigned (header log) → ⊥

abbrev pub IsDamaged : List ℕ → Type 0
IsDamaged log = IsBroken log ⊎ ((front : ℕ) × IsFront log front × LosesTwo log front)
