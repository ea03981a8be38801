-- A Map-Server that was just started, a store in memory that keeps nothing, and where its datagrams come from.
use Rattle.std.specs.Prelude.{List, [], ◌∷◌}
use Rattle.std.specs.FinMap.{empty}
use Rattle.lisp_records.specs.declared.address.Addr.{Addr}
use Rattle.lisp_records.specs.declared.address.Addr.TheVariants.{V4}
use Rattle.lisp_policy.specs.Site.{SiteValue}
use Rattle.lisp_nonces.specs.declared.fate.Fate.TheVariants.{Done}
use Rattle.lisp_nonces.specs.Memory.{MemoryStoreState}
use Rattle.lisp_server.specs.Server.{ServerState}

abbrev pub fresh_server : List SiteValue → ServerState
fresh_server sites = record { sites = sites; rows = []; nonces = empty; contacts = []; notices = [] }

abbrev pub fresh_memory : MemoryStoreState
fresh_memory = record { kept = empty; faults = 0; fate = Done }

-- 127.0.0.1
abbrev pub source : Addr
source = V4 (127 ∷ 0 ∷ 0 ∷ 1 ∷ [])
