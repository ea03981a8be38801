-- A configuration that was read is one.
use Rattle.std.proofs.Common.{◌≡◌, List, [], map, Ok}
use Rattle.std.specs.Prelude.{codes}
use Rattle.toml.specs.Data.{Data}
use Rattle.lisp_sites.specs.declared.field.Field.TheVariants as fields
use Rattle.lisp_policy.specs.Site.{SiteValue}
use Rattle.lisp_policy.specs.Configuration.{ServerEntryValue, RouterEntryValue, ConfigValue, IsRouterEntry, IsConfig}
use Rattle.lisp_sites.specs.Table.{items, each, sites_of, servers_of, router_at, routers_of}
use Rattle.lisp_sites.proofs.Readings.{bind_told}
use Rattle.lisp_sites.proofs.SiteLaws.{sites_apart}
use Rattle.lisp_sites.proofs.NodeLaws.{servers_named, one_router}
use Rattle.lisp_sites.proofs.Names.{each_named}

pub is_configuration : (d : Data) (sites : List SiteValue) (servers : List ServerEntryValue) (routers : List RouterEntryValue) → sites_of d ≡ Ok sites → servers_of d ≡ Ok servers → routers_of sites servers d ≡ Ok routers → IsConfig (record { sites = sites; servers = servers; routers = routers })
is_configuration d sites servers routers at_sites at_servers at_routers =
    let c : ConfigValue = record { sites = sites; servers = servers; routers = routers } in
    let each_site = sites_apart d sites at_sites in
    let each_server = servers_named d servers at_servers in
    let entries = bind_told (items fields.Router (codes "router") d) (each fields.Router (router_at sites servers) [] 1) routers at_routers in
    let each_router = each_named (IsRouterEntry c) (λ r. r.name) (map (λ s. s.name) servers) fields.Router (router_at sites servers) (one_router c) each_server.names entries.0 routers entries.2 in
    record { sites = each_site.kind; site_ids = each_site.apart; servers = each_server.kind; routers = each_router.kind; names = each_router.names }
