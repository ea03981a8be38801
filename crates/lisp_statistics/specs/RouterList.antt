-- The routers that a Map-Server heard, where they come by parts.
use Rattle.std.specs.Prelude.{◌≡◌, ℕ, Bool, true, false, IsTrue, ◌+◌, ◌≤◌, nat_lt, List, [], ◌∷◌, ◌++◌, length, codes, Option, Some, None, if◌then◌else◌}
use Rattle.std.specs.Bool.{MatchBool}
use Rattle.std.specs.BTreeMap.Range.{entries_between}
use Rattle.std.specs.Fmt.{decimal}
use Rattle.std.specs.List.{flat_map}
use Rattle.std.specs.Map.{keys_of}
use Rattle.std.specs.declared.ops.Bound.TheVariants.{Unbounded}
use Rattle.lisp_records.specs.declared.router.RouterId.{RouterId}
use Rattle.lisp_records.specs.Router.{router_cmp}
use Rattle.lisp_policy.specs.Configuration.{ConfigValue}
use Rattle.lisp_lines.specs.Name.{node_name}
use Rattle.lisp_lines.specs.Walk.{up_to_most}
use Rattle.lisp_log.specs.declared.replays.Replay.{Replay}
use Rattle.lisp_statistics.specs.Never.{never_count}
use Rattle.lisp_statistics.specs.Routers.{counted_text, unheard_text}
use Rattle.lisp_statistics.specs.declared.gathering.Gathering.{Gathering}
use Rattle.lisp_statistics.specs.declared.hearing.Hearing.{Hearing}
use Rattle.lisp_statistics.specs.declared.router_list.RouterList.{RouterList}

-- the most routers of a part
abbrev pub most_routers : ℕ
most_routers = 256

-- the routers that were heard and the runs of replays have more lines than a part
abbrev pub is_long_list : List (RouterId × Hearing) → List Replay → Bool
is_long_list heard runs = nat_lt most_routers (length heard + length runs)

-- the line before them; and the one after them, which says how many lines came
abbrev pub routers_by_parts : List ℕ → List ℕ
routers_by_parts server = codes "routers " ++ server ++ codes " by parts\n"

abbrev pub listed_line : List ℕ → ℕ → List ℕ
listed_line server lines = codes "listed " ++ server ++ codes " " ++ decimal lines ++ 10 ∷ []

-- the line of a router, by what was counted of the rows
abbrev pub listed_text : {A : Type 0} → ConfigValue → Gathering A → RouterId × Hearing → List ℕ
listed_text c rows = counted_text c rows.walk.moment rows.routers

-- ---- which routers come next

-- none was listed
abbrev pub list_start : {A : Type 0} → Gathering A → RouterList A
list_start rows = record { rows = rows; left = Unbounded; lines = 0 }

-- those after the last one that was listed, in their order
abbrev pub routers_left : {A : Type 0} → RouterList A → List (RouterId × Hearing) → List (RouterId × Hearing)
routers_left list heard = entries_between router_cmp list.left Unbounded heard

-- so many more were listed, by the same rows
abbrev pub MoreListed : {A : Type 0} → RouterList A → RouterList A → ℕ → Type 0
MoreListed old new more = new ≡ record old { left = new.left; lines = up_to_most (old.lines + more) }

-- the next router was listed; or there is none
abbrev pub ListsOne : {A : Type 0} → List (RouterId × Hearing) → RouterList A → RouterList A → Option (RouterId × Hearing) → Type 0
ListsOne heard old new (Some h) = MoreListed old new 1 × (routers_left old heard ≡ h ∷ routers_left new heard)
ListsOne heard old new None = (new ≡ old) × (routers_left old heard ≡ [])

-- these are the next routers, as many as a part has; or fewer, and then none is left
pub record ListsNext {A : Type 0} (heard : List (RouterId × Hearing)) (old new : RouterList A) (is_end : Bool) (taken : List (RouterId × Hearing)) : Type 0 where
  pub left : routers_left old heard ≡ taken ++ routers_left new heard
  pub goes_on : MoreListed old new (length taken)
  pub few : length taken ≤ most_routers
  pub fewer : is_end ≡ nat_lt (length taken) most_routers
  pub end : IsTrue is_end → routers_left new heard ≡ []

-- ---- their lines

-- a text gains the line of the next router, if there is one
abbrev pub PutsRouter : {A : Type 0} → (RouterId × Hearing → List ℕ) → List (RouterId × Hearing) → RouterList A → RouterList A → List ℕ → List ℕ → Bool → Type 0
PutsRouter shown heard old new before after true = (h : RouterId × Hearing) × ListsOne heard old new (Some h) × (after ≡ before ++ shown h)
PutsRouter shown heard old new before after false = ListsOne heard old new None × (after ≡ before)

-- it gains the lines of the next ones
abbrev pub PutsRouters : {A : Type 0} → (RouterId × Hearing → List ℕ) → List (RouterId × Hearing) → RouterList A → RouterList A → List ℕ → List ℕ → Bool → Type 0
PutsRouters shown heard old new before after is_end = (taken : List (RouterId × Hearing)) × ListsNext heard old new is_end taken × (after ≡ before ++ flat_map shown taken)

-- the lines of the routers that were never heard, and of the runs of replays, and how many lines came
abbrev pub list_end : {A : Type 0} → ConfigValue → ℕ → List RouterId → RouterList A → List Replay → List ℕ
list_end c number heard list runs = unheard_text c number list.rows.walk.moment heard runs
    ++ listed_line (node_name c number) (up_to_most (list.lines + never_count c number heard + length runs))

-- a part: the lines of the next routers, and the end after the last one
abbrev pub ListsRouters : {A : Type 0} → ConfigValue → ℕ → (RouterId × Hearing → List ℕ) → List (RouterId × Hearing) → List Replay → RouterList A → RouterList A → List ℕ → Bool → Type 0
ListsRouters c number shown heard runs old new text is_end = (taken : List (RouterId × Hearing)) × ListsNext heard old new is_end taken
    × (text ≡ flat_map shown taken ++ (if is_end then list_end c number (keys_of heard) new runs else []))

-- ---- all parts, where no router is heard for the first time meanwhile

-- a part, with what was heard by then
pub record ListPart : Type 0 where
  pub heard : List (RouterId × Hearing)
  pub text : List ℕ

-- these parts are left, up to the last one, which has these runs
abbrev pub ArePartsOf : {A : Type 0} → ConfigValue → ℕ → (RouterId × Hearing → List ℕ) → List RouterId → List Replay → RouterList A → List ListPart → Type 0
ArePartsOf c number shown routers runs old [] = ⊥
ArePartsOf {A} c number shown routers runs old (part ∷ parts) = (keys_of part.heard ≡ routers) × (new : RouterList A) × (is_end : Bool) × ListsRouters c number shown part.heard runs old new part.text is_end
    × MatchBool is_end (parts ≡ []) (ArePartsOf c number shown routers runs new parts)

-- together they have a line of each of these routers, in their order, those of the routers that were never heard and of the runs, and how many
-- these are
pub record ListsAll (c : ConfigValue) (number now : ℕ) (shown : RouterId × Hearing → List ℕ) (routers : List RouterId) (runs : List Replay) (parts : List ListPart) : Type 0 where
  pub heard : List (RouterId × Hearing)
  pub each : keys_of heard ≡ routers
  pub text : flat_map (λ (part : ListPart). part.text) parts ≡ flat_map shown heard ++ unheard_text c number now routers runs
      ++ listed_line (node_name c number) (up_to_most (length routers + never_count c number routers + length runs))

abbrev pub PartsListAll : Type 0 → Type 0
PartsListAll A = (c : ConfigValue) (number : ℕ) (shown : RouterId × Hearing → List ℕ) (routers : List RouterId) (runs : List Replay) (rows : Gathering A) (parts : List ListPart)
    → ArePartsOf c number shown routers runs (list_start rows) parts → ListsAll c number rows.walk.moment shown routers runs parts
