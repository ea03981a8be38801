-- What the statements are.
use Rattle.std.proofs.Common.{◌≡◌, pos, negsuc, List, [], ◌∷◌, false, Some, None, Ok, refl}
use Rattle.sqlite.specs.declared.types.Value.TheVariants.{Null, Int}
use Rattle.sqlite.specs.Term.{Term, lit, col, op2}
use Rattle.sqlite_sql.specs.declared.ops.BinaryOp.TheVariants.{Compare}
use Rattle.sqlite_sql.specs.declared.ops.CompareOp.TheVariants.{Eq}
use Rattle.sqlite.specs.Collation.TheVariants.{Binary}
use Rattle.sqlite.specs.Query.{Query, inner, end}
use Rattle.sqlite.specs.Command.TheVariants.{InsertOr, CreateTable}
use Rattle.sqlite.specs.Source.TheVariants.{Values}
use Rattle.sqlite_schema.specs.declared.command.Conflict.TheVariants.{Abort}
use Rattle.sqlite_schema.specs.declared.command.Upsert.{Upsert}
use Rattle.sqlite.specs.Schema.{Schema}
use Rattle.sqlite.specs.Compile.{table_defined_by}
use Rattle.sqlite_tied.specs.Compute.{everything}
use Rattle.sqlite.specs.Listing.{understood}
use Rattle.sqlite.proofs.Callers.{IsPlain, command_of, statement_of}
use Rattle.lisp_database.specs.Schema.{nonces, nonces_index, writer, nonces_schema, no_schema}
use Rattle.lisp_database.specs.Table.{create_text, create_writer_text, load_text, save_text}

abbrev pub terms : List Term
terms = lit Null ∷ col 0 0 ∷ col 0 1 ∷ col 0 2 ∷ col 0 3 ∷ col 0 4 ∷ []

-- of the row whose rowid stands behind the parameters of a save, twice its rowid, and the parameters as its new columns
abbrev pub change : Query
change = record {
  from = inner 0 end;
  filter = op2 (Compare Eq Binary) (col 1 0) (col 0 5) ∷ [];
  group = None;
  project = col 1 0 ∷ col 1 0 ∷ col 0 0 ∷ col 0 1 ∷ col 0 2 ∷ col 0 3 ∷ col 0 4 ∷ [];
  distinct = false;
  collations = [];
  order = [];
  limit = lit (Int (negsuc 0));
  offset = lit (Int (pos 0));
}

-- what a save does where a row is in the way, whichever key they share
abbrev pub upsert : Upsert
upsert = record { target = None; update = Some (record { lets = []; body = change }) }

-- the schema between the two CREATEs
abbrev pub one_schema : Schema
one_schema = record { tables = nonces ∷ []; indexes = nonces_index ∷ []; views = [] }

pub create_is : (command_of (understood no_schema create_text) ≡ CreateTable) × (statement_of create_text (understood no_schema create_text) ≡ create_text) × (table_defined_by create_text ≡ Ok nonces)
unfolding understood everything
create_is = (refl, refl, refl)

pub create_plain : IsPlain (understood no_schema create_text)
unfolding understood everything
create_plain = (refl, refl)

pub create_writer_is : (command_of (understood one_schema create_writer_text) ≡ CreateTable) × (statement_of create_writer_text (understood one_schema create_writer_text) ≡ create_writer_text)
    × (table_defined_by create_writer_text ≡ Ok (record writer { tree = 0 }))
unfolding understood everything
create_writer_is = (refl, refl, refl)

pub create_writer_plain : IsPlain (understood one_schema create_writer_text)
unfolding understood everything
create_writer_plain = (refl, refl)

pub save_is : command_of (understood nonces_schema save_text) ≡ InsertOr 0 Abort (Values terms 6) (upsert ∷ [])
unfolding understood everything
save_is = refl

pub save_plain : IsPlain (understood nonces_schema save_text)
unfolding understood everything
save_plain = (refl, refl)

pub load_plain : IsPlain (understood nonces_schema load_text)
unfolding understood everything
load_plain = (refl, refl)
