-- The names of a configuration's fields, as an operator reads them in a fault; and the faults.
use Rattle.std.specs.Prelude.{ℕ, List, codes}
use Rattle.lisp_sites.specs.declared.field.Field.{Field}
use Rattle.lisp_sites.specs.declared.field.Field.TheVariants as fields
use Rattle.lisp_sites.specs.declared.fault.ConfigFault.{ConfigFault}
use Rattle.lisp_sites.specs.declared.fault.ConfigFault.TheVariants.{Toml, Missing, BadValue, Repeated, OutOfMemory}

abbrev pub field_name : Field → List ℕ
field_name fields.Site = codes "site"
field_name fields.SiteId = codes "site.id"
field_name fields.SiteKey = codes "site.key"
field_name fields.SiteKeyId = codes "site.key.id"
field_name fields.SiteKeySecret = codes "site.key.secret"
field_name fields.SitePrefix = codes "site.prefix"
field_name fields.SitePrefixEid = codes "site.prefix.eid"
field_name fields.SitePrefixMoreSpecifics = codes "site.prefix.more_specifics"
field_name fields.SiteRouters = codes "site.routers"
field_name fields.SiteFrom = codes "site.from"
field_name fields.SiteLeastTtl = codes "site.least_ttl"
field_name fields.SiteMostTtl = codes "site.most_ttl"
field_name fields.SiteMostJump = codes "site.most_jump"
field_name fields.SiteMostRouters = codes "site.most_routers"
field_name fields.SiteMostRows = codes "site.most_rows"
field_name fields.Server = codes "server"
field_name fields.ServerName = codes "server.name"
field_name fields.ServerAddress = codes "server.address"
field_name fields.ServerResolve = codes "server.resolve"
field_name fields.Router = codes "router"
field_name fields.RouterName = codes "router.name"
field_name fields.RouterAddress = codes "router.address"
field_name fields.RouterSite = codes "router.site"
field_name fields.RouterXtr = codes "router.xtr"
field_name fields.RouterKey = codes "router.key"
field_name fields.RouterServers = codes "router.servers"
field_name fields.RouterProxy = codes "router.proxy"
field_name fields.RouterUseTtl = codes "router.use_ttl"
field_name fields.RouterNonceBlock = codes "router.nonce_block"
field_name fields.RouterRecords = codes "router.records"
field_name fields.RouterResolve = codes "router.resolve"

abbrev pub fault_number : ConfigFault → ℕ
fault_number Toml = 20
fault_number (Missing _) = 21
fault_number (BadValue _) = 22
fault_number (Repeated _) = 23
fault_number OutOfMemory = 24
