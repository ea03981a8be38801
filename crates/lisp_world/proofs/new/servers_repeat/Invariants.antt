use Rattle.std.proofs.Common.{◌≡◌, ◌++◌, map, drop}
use Rattle.lisp_records.specs.Address.{addr_eq}
use Rattle.lisp_world.specs.Openings.{has_twice}
use Rattle.lisp_world.proofs.new.servers_repeat.Given as goal

-- the addresses from here on repeat where all do
abbrev pub invariant-loop-i : goal.invariant-loop-i
invariant-loop-i g l = has_twice addr_eq (map (λ s. s.address) (drop l.i l.servers) ++ map (λ r. r.address) l.routers) ≡ has_twice addr_eq (map (λ s. s.address) l.servers ++ map (λ r. r.address) l.routers)
