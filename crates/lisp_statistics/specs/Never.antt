-- The configured routers that register with a Map-Server, and that it never heard.
use Rattle.std.specs.Prelude.{ℕ, ◌==◌, ◌&&◌, not, Bool, List, [], ◌++◌, codes, if◌then◌else◌}
use Rattle.std.specs.List.{count_by, flat_map, list_any}
use Rattle.std.specs.Ordering.{eq_by_cmp}
use Rattle.lisp_records.specs.declared.router.RouterId.{RouterId}
use Rattle.lisp_records.specs.Router.{router_cmp}
use Rattle.lisp_policy.specs.Configuration.{ConfigValue, RouterEntryValue}

-- by the configuration a router registers with the Map-Server with a number
abbrev pub registers_with : ℕ → RouterEntryValue → Bool
registers_with number r = list_any (λ server. server == number) r.servers

-- a router is one of those that were heard
abbrev pub is_among : List RouterId → RouterId → Bool
is_among heard me = list_any (eq_by_cmp router_cmp me) heard

-- it registers, and wasn't heard
abbrev pub is_never : ℕ → List RouterId → RouterEntryValue → Bool
is_never number heard r = registers_with number r && not (is_among heard r.me)

-- its line; of any other router there is none
abbrev pub never_words : ℕ → List RouterId → RouterEntryValue → List ℕ
never_words number heard r = if is_never number heard r then codes "router " ++ r.name ++ codes " never\n" else []

-- the lines of all of them, in the order of the configuration, and how many they are
abbrev pub never_text : ConfigValue → ℕ → List RouterId → List ℕ
never_text c number heard = flat_map (never_words number heard) c.routers

abbrev pub never_count : ConfigValue → ℕ → List RouterId → ℕ
never_count c number heard = count_by (is_never number heard) c.routers
