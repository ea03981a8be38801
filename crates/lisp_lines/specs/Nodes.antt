-- The nodes of a configuration, a line for each.
use Rattle.std.specs.Prelude.{ℕ, List, [], ◌∷◌, ◌++◌, codes}
use Rattle.std.specs.Fmt.{decimal}
use Rattle.std.specs.Int.{w128, from_be_bytes}
use Rattle.std.specs.List.{flat_map}
use Rattle.lisp_records.specs.Address.{PrefixValue}
use Rattle.lisp_policy.specs.Configuration.{ServerEntryValue, RouterEntryValue, ConfigValue}
use Rattle.lisp_texts.specs.Written.{addr_text, prefix_text}

-- a prefix of ITR-RLOCs that a Map-Server replies to
abbrev pub resolve_words : PrefixValue → List ℕ
resolve_words p = codes " resolve " ++ prefix_text p

-- a Map-Server: its name, its address, and the prefixes that it replies to
abbrev pub server_words : ServerEntryValue → List ℕ
server_words s = (codes "server " ++ s.name ++ codes " " ++ addr_text s.address) ++ flat_map resolve_words s.resolve ++ 10 ∷ []

-- a router: its name, its address, and who it is: Site-ID and xTR-ID as numbers
abbrev pub router_line : (name address : List ℕ) → (site xtr : ℕ) → List ℕ
router_line name address site xtr = codes "router " ++ name ++ codes " " ++ address ++ codes " site " ++ decimal site
    ++ codes " xtr " ++ decimal xtr ++ 10 ∷ []

abbrev pub router_words : RouterEntryValue → List ℕ
router_words r = router_line r.name (addr_text r.address) r.me.site (from_be_bytes w128 r.me.xtr)

-- Map-Servers first, each in the order of the file
abbrev pub nodes_text : ConfigValue → List ℕ
nodes_text c = flat_map server_words c.servers ++ flat_map router_words c.routers
