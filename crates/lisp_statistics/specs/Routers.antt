-- The text of the routers that a Map-Server heard, never heard, or refuses as replaying.
use Rattle.std.specs.Prelude.{◌≡◌, ℕ, ◌+◌, ◌-◌, ◌^◌, min, List, [], ◌∷◌, ◌++◌, length, codes, Some, unwrap_or}
use Rattle.std.specs.BTreeMap.{BTreeMap, get, Updates}
use Rattle.std.specs.Fmt.{decimal}
use Rattle.std.specs.List.{flat_map, count_by}
use Rattle.std.specs.Map.{keys_of}
use Rattle.std.specs.Ordering.{eq_by_cmp}
use Rattle.lisp_records.specs.declared.router.RouterId.{RouterId}
use Rattle.lisp_records.specs.Router.{router_cmp}
use Rattle.lisp_records.specs.Row.{RowValue}
use Rattle.lisp_policy.specs.Configuration.{ConfigValue}
use Rattle.lisp_texts.specs.Written.{addr_text}
use Rattle.lisp_lines.specs.Line.{keyed_text}
use Rattle.lisp_lines.specs.Name.{node_name, router_word}
use Rattle.lisp_lines.specs.Walk.{up_to_most}
use Rattle.lisp_lines.specs.declared.wording.Wording.TheVariants.{Node}
use Rattle.lisp_log.specs.declared.replays.Replay.{Replay}
use Rattle.lisp_statistics.specs.Never.{never_count, never_text}
use Rattle.lisp_statistics.specs.Replays.{run_text}
use Rattle.lisp_statistics.specs.declared.hearing.Hearing.{Hearing}

-- how many rows are a router's
abbrev pub rows_of : RouterId → List RowValue → ℕ
rows_of router rows = count_by (λ h. eq_by_cmp router_cmp h.router router) rows

-- how many it has by some counts
abbrev pub rows_in : BTreeMap RouterId ℕ → RouterId → ℕ
rows_in counts router = unwrap_or (get router_cmp counts router) 0

-- the counts are those of the rows
abbrev pub CountsRows : BTreeMap RouterId ℕ → List RowValue → Type 0
CountsRows counts rows = (router : RouterId) → rows_in counts router ≡ rows_of router rows

-- there is one more of a router, up to 2^64 - 1
abbrev pub AddsRow : BTreeMap RouterId ℕ → BTreeMap RouterId ℕ → RouterId → Type 0
AddsRow old new router = Updates router_cmp old new router (Some (min (rows_in old router + 1) (2 ^ 64 - 1)))

-- how many lines follow; then each router that was heard: where its last accepted Map-Register came from, its key and nonce, how many ms ago, and
-- how many rows; each that was never heard; and each run of replays
abbrev pub routers_head : List ℕ → ℕ → List ℕ
routers_head server following = codes "routers " ++ server ++ codes " " ++ decimal following ++ 10 ∷ []

abbrev pub hearing_words : ℕ → Hearing → List ℕ
hearing_words now h = keyed_text h.key h.nonce ++ codes " age " ++ decimal (now - h.at)

abbrev pub router_text : ConfigValue → ℕ → RouterId → Hearing → ℕ → List ℕ
router_text c now router h rows = codes "router " ++ router_word c Node router ++ codes " from " ++ addr_text h.from ++ hearing_words now h ++ codes " rows " ++ decimal rows ++ 10 ∷ []

-- with its rows by some counts; and with those that are its
abbrev pub counted_text : ConfigValue → ℕ → BTreeMap RouterId ℕ → RouterId × Hearing → List ℕ
counted_text c now counts heard = router_text c now heard.0 heard.1 (rows_in counts heard.0)

abbrev pub heard_text : ConfigValue → ℕ → List RowValue → RouterId × Hearing → List ℕ
heard_text c now rows heard = router_text c now heard.0 heard.1 (rows_of heard.0 rows)

-- how many lines these are, up to 2^64 - 1
abbrev pub routers_lines : ConfigValue → ℕ → List (RouterId × Hearing) → List Replay → ℕ
routers_lines c number heard runs = up_to_most (length heard + never_count c number (keys_of heard) + length runs)

-- those of the routers that were never heard, and of the runs
abbrev pub unheard_text : ConfigValue → ℕ → ℕ → List RouterId → List Replay → List ℕ
unheard_text c number now heard runs = never_text c number heard ++ flat_map (run_text (node_name c number) now) runs

abbrev pub routers_counted_text : ConfigValue → ℕ → ℕ → BTreeMap RouterId ℕ → List (RouterId × Hearing) → List Replay → List ℕ
routers_counted_text c number now counts heard runs = routers_head (node_name c number) (routers_lines c number heard runs)
    ++ flat_map (counted_text c now counts) heard ++ unheard_text c number now (keys_of heard) runs

abbrev pub routers_text : ConfigValue → ℕ → ℕ → List RowValue → List (RouterId × Hearing) → List Replay → List ℕ
routers_text c number now rows heard runs = routers_head (node_name c number) (routers_lines c number heard runs)
    ++ flat_map (heard_text c now rows) heard ++ unheard_text c number now (keys_of heard) runs
