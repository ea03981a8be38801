use Rattle.std.proofs.Common.{[], ◌≡◌, map, take}
use Rattle.std.specs.Prelude.{slice_index_or}
use Rattle.lisp_records.specs.declared.address.Addr.TheVariants.{V4}
use Rattle.lisp_world.proofs.new.each_address.Given as goal

-- the addresses at the places so far
abbrev pub invariant-loop-place : goal.invariant-loop-place
invariant-loop-place g l = l.found.items ≡ map (λ place. slice_index_or l.addresses place (V4 [])) (take l.place-index l.places)
