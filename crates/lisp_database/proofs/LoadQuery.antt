-- What the query of a load is.
use Rattle.std.proofs.Common.{◌≡◌, ℕ, pos, negsuc, [], ◌∷◌, codes, false, None, refl}
use Rattle.sqlite.specs.declared.types.Value.TheVariants.{Int}
use Rattle.sqlite.specs.Term.{Term, lit, col, op2}
use Rattle.sqlite_sql.specs.declared.ops.BinaryOp.TheVariants.{Compare}
use Rattle.sqlite_sql.specs.declared.ops.CompareOp.TheVariants.{Eq}
use Rattle.sqlite.specs.Collation.TheVariants.{Binary}
use Rattle.sqlite.specs.Query.{Query, inner, end}
use Rattle.sqlite.specs.Command.TheVariants.{Select}
use Rattle.sqlite_tied.specs.Compute.{everything}
use Rattle.sqlite.specs.Listing.{understood, reads_listing}
use Rattle.sqlite.proofs.Callers.{command_of}
use Rattle.lisp_database.specs.Schema.{nonces_schema}
use Rattle.lisp_database.specs.Table.{load_text}

-- a column is the parameter
abbrev pub is : ℕ → ℕ → Term
is place parameter = op2 (Compare Eq Binary) (col 1 place) (col 0 parameter)

abbrev pub query : Query
query = record {
  from = inner 0 end;
  filter = is 3 2 ∷ is 2 1 ∷ is 4 3 ∷ is 1 0 ∷ [];
  group = None;
  project = col 1 5 ∷ [];
  distinct = false;
  collations = [];
  order = [];
  limit = lit (Int (negsuc 0));
  offset = lit (Int (pos 0));
}

pub load_unlisted : reads_listing nonces_schema load_text ≡ false
unfolding understood everything
load_unlisted = refl

pub load_is : command_of (understood nonces_schema load_text) ≡ Select (record { lets = []; body = query }) (codes "nonce" ∷ [])
unfolding understood everything
load_is = refl
