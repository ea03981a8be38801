-- The schema of a database of nonces: the table of nonces, the index of its primary key, and the table of who wrote last.
use Rattle.std.specs.Prelude.{◌≡◌, true, false, ℕ, List, [], ◌∷◌, None, codes}
use Rattle.sqlite.specs.Collation.TheVariants.{Binary}
use Rattle.sqlite.specs.declared.types.Value.TheVariants.{Null}
use Rattle.sqlite.specs.Kind.{Kind}
use Rattle.sqlite.specs.Kind.TheVariants.{Integer, Text}
use Rattle.sqlite.specs.Table.{Table}
use Rattle.sqlite.specs.Schema.{Schema}
use Rattle.sqlite_schema.specs.declared.schema.Stamps.{Stamps}
use Rattle.sqlite_schema.specs.declared.schema.Index.{Index}
use Rattle.sqlite_schema.specs.declared.schema.Column.{Column}
use Rattle.sqlite_value.specs.Keys.{plain}

-- a column of a STRICT table that is never NULL
abbrev pub column_of : List ℕ → Kind → Column
column_of name kind = record { name = name; kind = kind; is_strict = true; not_null = true; default = Null; collation = Binary }

-- the places of the columns that a pair gives: xTR-ID, Site-ID, Key ID and kind
abbrev pub key_places : List ℕ
key_places = 3 ∷ 2 ∷ 4 ∷ 1 ∷ []

-- no column's default reads the time
abbrev pub no_stamps : Stamps
no_stamps = record { places = []; terms = []; formats = [] }

-- a table that checks nothing, refers to nothing and computes nothing
abbrev pub table_of : List ℕ → ℕ → List Column → Table
table_of name tree columns = record {
  name = name;
  tree = tree;
  columns = columns;
  key = None;
  primary = [];
  uniques = [];
  orders = [];
  checks = [];
  references = [];
  computed = [];
  stamps = no_stamps;
  is_counted = false;
}

-- all of a table but its name, its tree, its columns and its primary key is as in that one
abbrev pub IsPlain : Table → Type 0
IsPlain table = table ≡ record (table_of table.name table.tree table.columns) { primary = table.primary; uniques = table.uniques; orders = table.orders }

-- one row for each pair
abbrev pub nonces : Table
nonces = record (table_of (codes "nonces") 0 (column_of (codes "kind") Text ∷ column_of (codes "site_id") Text ∷ column_of (codes "xtr_id") Text
    ∷ column_of (codes "key_id") Integer ∷ column_of (codes "nonce") Text ∷ [])) {
      primary = key_places;
      uniques = key_places ∷ [];
      orders = plain ∷ [];
    }

-- one row at most
abbrev pub writer : Table
writer = table_of (codes "writer") 2 (column_of (codes "machine_id") Text ∷ column_of (codes "boot_id") Text ∷ [])

-- the index that SQLite makes for the primary key
abbrev pub nonces_index : Index
nonces_index = record { name = codes "sqlite_autoindex_nonces_1"; tree = 1; table = 0; columns = key_places; order = plain; is_unique = true }

abbrev pub nonces_schema : Schema
nonces_schema = record { tables = nonces ∷ writer ∷ []; indexes = nonces_index ∷ []; views = [] }

-- that of a database with nothing in it
abbrev pub no_schema : Schema
no_schema = record { tables = []; indexes = []; views = [] }
