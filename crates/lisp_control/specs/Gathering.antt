-- The sites that a connection gathers, and what taking them would do.
use Rattle.std.specs.Prelude.{◌≡◌, ◌⊎◌, ℕ, Bool, true, false, IsTrue, List, [], ◌∷◌, ◌++◌, length, codes, Option, Some, None, Result, Ok, Err, if◌then◌else◌}
use Rattle.std.specs.Fmt.{decimal}
use Rattle.std.specs.List.{flat_map, list_any}
use Rattle.std.specs.Option.{is_some}
use Rattle.std.specs.Result.{result_ok}
use Rattle.std.specs.Str.{is_utf8}
use Rattle.toml.specs.Parse.{parse_document}
use Rattle.lisp_policy.specs.Configuration.{ConfigValue}
use Rattle.lisp_policy.specs.Extends.{extends}
use Rattle.lisp_policy.specs.Site.{SiteValue, site_of}
use Rattle.lisp_sites.specs.Table.{sites_in}
use Rattle.lisp_lines.specs.Name.{node_name}
use Rattle.lisp_statistics.specs.Sample.{site_id_text}
use Rattle.lisp_control.specs.declared.gathering.Ungathered.{Ungathered}
use Rattle.lisp_control.specs.declared.gathering.Ungathered.TheVariants as ungathered

-- one of the sites has the Site-ID
abbrev pub has_site : List SiteValue → ℕ → Bool
has_site sites id = is_some (site_of sites id)

-- ---- gathering

-- the sites that bytes say, a text of TOML; none where they are no such text, or where its sites have a fault
abbrev pub sites_of_bytes : List ℕ → Option (List SiteValue)
sites_of_bytes bytes = if is_utf8 bytes then result_ok (sites_in (parse_document bytes)) else None

-- what is read is what a definition gives; memory may run out at any time, since `toml` asks for it
abbrev pub GivesSites : Result (List SiteValue) Ungathered → Option (List SiteValue) → Type 0
GivesSites (Ok sites) read = read ≡ Some sites
GivesSites (Err ungathered.Sites) read = read ≡ None
GivesSites (Err ungathered.OutOfMemory) read = Unit {0}

-- one of the sites has the Site-ID of one gathered before
abbrev pub shares_site : List SiteValue → List SiteValue → Bool
shares_site before sites = list_any (λ s. has_site before s.id) sites

abbrev pub shares_with : Option (List SiteValue) → List SiteValue → Bool
shares_with None sites = false
shares_with (Some before) sites = shares_site before sites

-- the sites behind those gathered before
abbrev pub all_of : Option (List SiteValue) → List SiteValue → List SiteValue
all_of None sites = sites
all_of (Some before) sites = before ++ sites

abbrev pub gathered_behind : Option (List SiteValue) → List SiteValue → Option (List SiteValue)
gathered_behind old sites = if shares_with old sites then None else Some (all_of old sites)

-- those that bytes say, behind those gathered before; none where there are none to gather
abbrev pub gathered_read : Option (List SiteValue) → Option (List SiteValue) → Option (List SiteValue)
gathered_read old None = None
gathered_read old (Some sites) = gathered_behind old sites

abbrev pub gathered_with : Option (List SiteValue) → List ℕ → Option (List SiteValue)
gathered_with old bytes = gathered_read old (sites_of_bytes bytes)

-- how many are gathered
abbrev pub gathered_count : Option (List SiteValue) → ℕ
gathered_count None = 0
gathered_count (Some sites) = length sites

-- what becomes of the gathered sites with them: all are gathered, or none of them. Out of memory, none are gathered any more, or nothing changes
abbrev pub Gathers : Option (List SiteValue) → Option (List SiteValue) → List ℕ → Result ℕ Ungathered → Type 0
Gathers old new bytes (Ok count) = IsTrue (is_some new) × (new ≡ gathered_with old bytes) × (count ≡ gathered_count new)
Gathers old new bytes (Err ungathered.Sites) = (gathered_with old bytes ≡ None) × (new ≡ old)
Gathers old new bytes (Err ungathered.OutOfMemory) = (new ≡ old) ⊎ (new ≡ None)

-- the line that answers them: how many sites a node has gathered
abbrev pub gathered_text : ConfigValue → ℕ → ℕ → List ℕ
gathered_text c number count = codes "gathered " ++ node_name c number ++ codes " " ++ decimal count ++ 10 ∷ []

-- ---- what taking the gathered sites would do

-- the rows are kept, or the Map-Server begins again without any
abbrev pub kept_word : Bool → List ℕ
kept_word true = codes "kept"
kept_word false = codes "restarted"

abbrev pub compared_head : List ℕ → ℕ → Bool → List ℕ
compared_head name sites kept = codes "compared " ++ name ++ codes " sites " ++ decimal sites ++ codes " " ++ kept_word kept ++ 10 ∷ []

-- a site behind a word, by its Site-ID
abbrev pub site_line : List ℕ → ℕ → List ℕ
site_line word id = word ++ codes " " ++ site_id_text id ++ 10 ∷ []

-- the same of a site whose Site-ID none of the others has
abbrev pub site_unless_in : List ℕ → List SiteValue → SiteValue → List ℕ
site_unless_in word others site = if has_site others site.id then [] else site_line word site.id

-- the line of what taking them would do; the sites that come, in their order; the sites of its own that go, in theirs
abbrev pub compared_text : List ℕ → List SiteValue → List SiteValue → List ℕ
compared_text name own sites = compared_head name (length sites) (extends own sites)
    ++ flat_map (site_unless_in (codes "comes") own) sites ++ flat_map (site_unless_in (codes "goes") sites) own
