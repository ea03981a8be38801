-- The records of a router: a database.
use Rattle.std.proofs.Common.{◌≡◌, List, [], codes, Result, Ok, Err, refl, sym, ap, ◌∙◌}
use Rattle.toml.specs.Data.{Data}
use Rattle.lisp_records.specs.Record.{MapRecordValue}
use Rattle.lisp_records.specs.Result.{◌>>=◌}
use Rattle.lisp_sites.specs.declared.field.Field.TheVariants as fields
use Rattle.lisp_sites.specs.declared.fault.ConfigFault.{ConfigFault}
use Rattle.lisp_sites.specs.declared.place.Place.{Place}
use Rattle.lisp_sites.specs.declared.place.PlacedFault.{PlacedFault}
use Rattle.lisp_sites.specs.Table.{FailsAt, placed_nowhere, items, each, each_item, flat, record_at, as_database, database_at}
use Rattle.lisp_sites.proofs.Told.{FailsAt-passed}

-- two steps after a first one
in_turn : {A B C : Type 0} (read : Result A PlacedFault) (f : A → Result B PlacedFault) (g : B → Result C PlacedFault) → ((read >>= f) >>= g) ≡ (read >>= λ x. f x >>= g)
in_turn (Ok x) f g = refl
in_turn (Err e) f g = refl

-- a database is what is made of its records
made : (d : Data) → (each_item fields.RouterRecords (codes "records") (flat record_at) [] d >>= λ ms. placed_nowhere (as_database ms)) ≡ database_at d
unfolding database_at
made d = in_turn (placed_nowhere (items fields.RouterRecords (codes "records") d)) (each fields.RouterRecords (flat record_at) [] 1) (λ ms. placed_nowhere (as_database ms))

pub of_records : (d : Data) (before records : List MapRecordValue) → before ≡ [] → each_item fields.RouterRecords (codes "records") (flat record_at) before d ≡ Ok records → database_at d ≡ placed_nowhere (as_database records)
of_records d before records none read = sym (made d) ∙ ap (λ (r : Result (List MapRecordValue) PlacedFault). r >>= λ ms. placed_nowhere (as_database ms)) (rw none at read)

pub of_none : (d : Data) (before : List MapRecordValue) (e : ConfigFault) (p : Place) → before ≡ [] → FailsAt e p (each_item fields.RouterRecords (codes "records") (flat record_at) before d) → FailsAt e p (database_at d)
of_none d before e p none fails =
    FailsAt-passed e p p (each_item fields.RouterRecords (codes "records") (flat record_at) [] d) (database_at d) (λ f stops. sym (made d) ∙ ap (λ (r : Result (List MapRecordValue) PlacedFault). r >>= λ ms. placed_nowhere (as_database ms)) stops) (rw none at fails)
