-- Faults with their places.
use Rattle.std.proofs.Common.{◌≡◌, Result, Ok, Err, ap}
use Rattle.lisp_sites.specs.declared.fault.ConfigFault.{ConfigFault}
use Rattle.lisp_sites.specs.declared.fault.ConfigFault.TheVariants.{Toml, Missing, BadValue, Repeated, OutOfMemory}
use Rattle.lisp_sites.specs.declared.place.Place.{Place}
use Rattle.lisp_sites.specs.declared.place.PlacedFault.{PlacedFault}
use Rattle.lisp_records.specs.Result.{◌>>=◌}
use Rattle.lisp_sites.specs.Table.{Fails, FailsAt, Gives, GivesAt, placed_nowhere, nowhere, unplaced}

-- a fault of a part is the fault of the whole, where each is passed on, with its place
pub FailsAt-passed : {X Y : Type 0} (e : ConfigFault) (p q : Place) (part : Result X PlacedFault) (whole : Result Y PlacedFault) → ((f : ConfigFault) → part ≡ Err (record { fault = f; place = p }) → whole ≡ Err (record { fault = f; place = q })) → FailsAt e p part → FailsAt e q whole
FailsAt-passed Toml p q part whole pass fails = pass Toml fails
FailsAt-passed (Missing name) p q part whole pass fails = pass (Missing name) fails
FailsAt-passed (BadValue name) p q part whole pass fails = pass (BadValue name) fails
FailsAt-passed (Repeated name) p q part whole pass fails = pass (Repeated name) fails
FailsAt-passed OutOfMemory p q part whole pass fails = tt

Fails-unplaced : {X : Type 0} (e : ConfigFault) (p : Place) (read : Result X PlacedFault) → FailsAt e p read → Fails e (unplaced read)
Fails-unplaced Toml p read fails = ap unplaced fails
Fails-unplaced (Missing name) p read fails = ap unplaced fails
Fails-unplaced (BadValue name) p read fails = ap unplaced fails
Fails-unplaced (Repeated name) p read fails = ap unplaced fails
Fails-unplaced OutOfMemory p read fails = tt

-- what is given with places is given without them
pub without_place : {X Y : Type 0} (view : X → Y) (result : Result X PlacedFault) (read : Result Y PlacedFault) → GivesAt view result read → Gives view (unplaced result) (unplaced read)
without_place view (Ok x) read gives = ap unplaced gives
without_place view (Err f) read gives = Fails-unplaced f.fault f.place read gives

-- a fault that is in no entry yet is that of what goes on from there
pub told_fails : {X Y : Type 0} (e : ConfigFault) (read : Result X ConfigFault) (f : X → Result Y PlacedFault) → Fails e read → FailsAt e nowhere (placed_nowhere read >>= f)
told_fails Toml read f fails = ap (λ r. placed_nowhere r >>= f) fails
told_fails (Missing name) read f fails = ap (λ r. placed_nowhere r >>= f) fails
told_fails (BadValue name) read f fails = ap (λ r. placed_nowhere r >>= f) fails
told_fails (Repeated name) read f fails = ap (λ r. placed_nowhere r >>= f) fails
told_fails OutOfMemory read f fails = tt

-- the same of a fault that is in an entry
pub then_fails : {X Y : Type 0} (e : ConfigFault) (p : Place) (read : Result X PlacedFault) (f : X → Result Y PlacedFault) → FailsAt e p read → FailsAt e p (read >>= f)
then_fails Toml p read f fails = ap (λ r. r >>= f) fails
then_fails (Missing name) p read f fails = ap (λ r. r >>= f) fails
then_fails (BadValue name) p read f fails = ap (λ r. r >>= f) fails
then_fails (Repeated name) p read f fails = ap (λ r. r >>= f) fails
then_fails OutOfMemory p read f fails = tt
