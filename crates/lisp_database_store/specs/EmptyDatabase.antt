-- The file of an empty database as it is made for nonces: one page, without a table (the SQLite file format, sections 1.3 and 1.6).
use Rattle.std.specs.Prelude.{◌≡◌, ◌==◌, ℕ, List, [], ◌∷◌, length, take, drop, IsTrue}
use Rattle.std.specs.List.{list_all}

-- how the page begins: the header of the file, which has 100 bytes, and the header of its schema, which has no row
abbrev pub front : List ℕ
front =
    -- "SQLite format 3" and 0
    0x53 ∷ 0x51 ∷ 0x4c ∷ 0x69 ∷ 0x74 ∷ 0x65 ∷ 0x20 ∷ 0x66 ∷ 0x6f ∷ 0x72 ∷ 0x6d ∷ 0x61 ∷ 0x74 ∷ 0x20 ∷ 0x33 ∷ 0 ∷
    -- pages of 4,096 bytes, and a log beside the file
    16 ∷ 0 ∷ 2 ∷ 2 ∷ 0 ∷ 64 ∷ 32 ∷ 32 ∷
    -- one change, and one page; no free pages
    0 ∷ 0 ∷ 0 ∷ 1 ∷ 0 ∷ 0 ∷ 0 ∷ 1 ∷ 0 ∷ 0 ∷ 0 ∷ 0 ∷ 0 ∷ 0 ∷ 0 ∷ 0 ∷ 0 ∷ 0 ∷ 0 ∷ 0 ∷
    -- schemas of the fourth format, and texts in UTF-8
    0 ∷ 0 ∷ 0 ∷ 4 ∷ 0 ∷ 0 ∷ 0 ∷ 0 ∷ 0 ∷ 0 ∷ 0 ∷ 0 ∷ 0 ∷ 0 ∷ 0 ∷ 1 ∷
    -- `user_version` 1, and `application_id` "LISP"
    0 ∷ 0 ∷ 0 ∷ 1 ∷ 0 ∷ 0 ∷ 0 ∷ 0 ∷ 0x4c ∷ 0x49 ∷ 0x53 ∷ 0x50 ∷
    0 ∷ 0 ∷ 0 ∷ 0 ∷ 0 ∷ 0 ∷ 0 ∷ 0 ∷ 0 ∷ 0 ∷ 0 ∷ 0 ∷ 0 ∷ 0 ∷ 0 ∷ 0 ∷ 0 ∷ 0 ∷ 0 ∷ 0 ∷
    -- after the first change, as SQLite 3.40.1 writes
    0 ∷ 0 ∷ 0 ∷ 1 ∷ 0 ∷ 0x2e ∷ 0x63 ∷ 1 ∷
    -- a page of a table without rows
    13 ∷ 0 ∷ 0 ∷ 0 ∷ 0 ∷ 0x10 ∷ 0 ∷ 0 ∷ []

-- one page that begins so, and whose other bytes are 0
pub record IsEmptyDatabase (bytes : List ℕ) : Type 0 where
  pub page : length bytes ≡ 4096
  pub begins : take 108 bytes ≡ front
  pub rest : IsTrue (list_all (λ b. b == 0) (drop 108 bytes))
