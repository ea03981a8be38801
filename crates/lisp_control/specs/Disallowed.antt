-- Which records a router's site doesn't allow, by the configuration: a Map-Server refuses them.
use Rattle.std.specs.Prelude.{ℕ, Bool, false, not, List, [], ◌∷◌, ◌++◌, length, map, codes, Option, Some, None}
use Rattle.std.specs.Fmt.{decimal}
use Rattle.std.specs.List.{filter, flat_map}
use Rattle.std.specs.Option.{option_and_then}
use Rattle.lisp_records.specs.Address.{PrefixValue}
use Rattle.lisp_records.specs.Record.{MapRecordValue}
use Rattle.lisp_policy.specs.Configuration.{ConfigValue}
use Rattle.lisp_policy.specs.Site.{SiteValue, is_allowed}
use Rattle.lisp_policy.specs.Site.{site_of as site_with_id}
use Rattle.lisp_texts.specs.Written.{prefix_text}
use Rattle.lisp_sites.specs.Numbers.{router_at}
use Rattle.lisp_lines.specs.Name.{node_name}

-- the site of the router with a number; Map-Servers have none
abbrev pub site_of : ConfigValue → ℕ → Option SiteValue
site_of c number = option_and_then (λ r. site_with_id c.sites r.me.site) (router_at c number)

-- no site allows nothing
abbrev pub is_allowed_by : Option SiteValue → PrefixValue → Bool
is_allowed_by None eid = false
is_allowed_by (Some site) eid = is_allowed site eid

-- the EID-Prefixes of those records that it doesn't allow, in their order
abbrev pub disallowed_of : Option SiteValue → List MapRecordValue → List PrefixValue
disallowed_of site records = filter (λ eid. not (is_allowed_by site eid)) (map (λ r. r.eid) records)

-- how many, then each
abbrev pub disallowed_head : List ℕ → ℕ → List ℕ
disallowed_head router eids = codes "disallowed " ++ router ++ codes " " ++ decimal eids ++ 10 ∷ []

abbrev pub eid_line : PrefixValue → List ℕ
eid_line eid = codes "record " ++ prefix_text eid ++ 10 ∷ []

abbrev pub listed : List ℕ → List PrefixValue → List ℕ
listed router eids = disallowed_head router (length eids) ++ flat_map eid_line eids

abbrev pub disallowed_text : ConfigValue → ℕ → List MapRecordValue → List ℕ
disallowed_text c number records = listed (node_name c number) (disallowed_of (site_of c number) records)
