-- Which configurations are a network's.
use Rattle.std.specs.Prelude.{◌≢◌}
use Rattle.std.specs.List.{AllByRecursion, AllPairs}
use Rattle.lisp_policy.specs.Configuration.{ConfigValue, HasServers}
use Rattle.lisp_model.specs.Trace.{addresses}

-- each router's list names servers, none twice
abbrev pub NamesServers : ConfigValue → Type 0
NamesServers c = AllByRecursion (HasServers c.servers) c.routers

-- no two nodes have one address, and no two routers one identity
pub record IsNetwork (c : ConfigValue) : Type 0 where
  pub addresses : AllPairs (λ a b. a ≢ b) (addresses c)
  pub routers : AllPairs (λ a b. a.me ≢ b.me) c.routers
  pub servers : NamesServers c
