use Rattle.std.proofs.Common.{◌≡◌, ◌++◌, map, take}
use Rattle.lisp_sites.proofs.config.Config.addresses.Given as goal

-- the addresses of the Map-Servers so far
abbrev pub invariant-loop-server : goal.invariant-loop-server
invariant-loop-server g l = l.addresses.items ≡ map (λ s. s.address) (take l.server-index l.self.servers)

-- those of all Map-Servers, and of the routers so far
abbrev pub invariant-loop-router : goal.invariant-loop-router
invariant-loop-router g l = l.addresses.items ≡ map (λ s. s.address) l.self.servers ++ map (λ r. r.address) (take l.router-index l.self.routers)
