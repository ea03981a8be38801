-- What nodes are called in lines.
use Rattle.std.specs.Prelude.{ℕ, List, ◌++◌, codes, slice_index_or, Option, Some, None}
use Rattle.std.specs.Int.{w64, to_be_bytes}
use Rattle.std.specs.List.{find}
use Rattle.hex.specs.Hex.{encode_lower}
use Rattle.lisp_records.specs.declared.router.RouterId.{RouterId}
use Rattle.lisp_records.specs.Router.{router_eq}
use Rattle.lisp_policy.specs.Configuration.{ConfigValue, RouterEntryValue, names}
use Rattle.lisp_lines.specs.declared.wording.Wording.{Wording}
use Rattle.lisp_lines.specs.declared.wording.Wording.TheVariants.{Schedule, Node}

-- a node by its number; one that the configuration doesn't have is 'other'
abbrev pub node_name : ConfigValue → ℕ → List ℕ
node_name c node = slice_index_or (names c) node (codes "other")

-- a router by its identity, likewise
abbrev pub router_of : List RouterEntryValue → RouterId → Option RouterEntryValue
router_of routers me = find (λ r. router_eq r.me me) routers

abbrev pub name_of : List ℕ → Option RouterEntryValue → List ℕ
name_of other (Some r) = r.name
name_of other None = other

abbrev pub router_name : ConfigValue → RouterId → List ℕ
router_name c me = name_of (codes "other") (router_of c.routers me)

-- who a router is: `SITE/XTR`, Site-ID and xTR-ID in lower case hexadecimal digits
abbrev pub identity_word : RouterId → List ℕ
identity_word me = encode_lower (to_be_bytes w64 me.site) ++ codes "/" ++ encode_lower me.xtr

-- a router in lines of a wording: of one that the configuration doesn't have a node says who it is
abbrev pub unknown_word : Wording → RouterId → List ℕ
unknown_word (Schedule place) me = codes "other"
unknown_word Node me = identity_word me

abbrev pub router_word : ConfigValue → Wording → RouterId → List ℕ
router_word c wording me = name_of (unknown_word wording me) (router_of c.routers me)
