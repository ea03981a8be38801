-- What a Map-Server is told of a configuration's sites, and what is made of its answers.
use Rattle.std.specs.Prelude.{◌≡◌, ◌⊎◌, ℕ, ◌==◌, ◌&&◌, Bool, IsTrue, List, [], ◌∷◌, ◌++◌, length, codes, Option, Some, None, Result, Ok, Err, if◌then◌else◌}
use Rattle.std.specs.Fmt.{decimal}
use Rattle.std.specs.List.{flat_map}
use Rattle.toml.specs.Parse.{parse_document}
use Rattle.lisp_policy.specs.Extends.{extends}
use Rattle.lisp_policy.specs.Site.{SiteValue}
use Rattle.lisp_sites.specs.Table.{sites_in}
use Rattle.lisp_sites.specs.declared.fault.ConfigFault.{ConfigFault}
use Rattle.lisp_files.specs.Closing.{whole}
use Rattle.lisp_script.specs.Words.{is_word}
use Rattle.lispd_cli.specs.Asking.{bad_line, behind_word, fault_in, first_line, first_word, third_word}
use Rattle.lispd_cli.specs.declared.fault.ProgramFault.{ProgramFault}
use Rattle.lispd_cli.specs.declared.fault.ProgramFault.TheVariants.{Refused, Unanswered}

-- the file behind the word `reload`: one word, no more
abbrev pub config_in : List (List ℕ) → Option (List ℕ)
config_in (_ ∷ config ∷ []) = Some config
config_in _ = None

-- what an answer with the node's nodes keeps from being told: it is cut off, or the fault of the line; or these are no nodes of the
-- configuration, whose answer would be another (142)
abbrev pub unless_fault : Option ℕ → Result (Unit {0}) ProgramFault → Result (Unit {0}) ProgramFault
unless_fault None otherwise = otherwise
unless_fault (Some number) otherwise = Err (bad_line number)

abbrev pub same_nodes : List ℕ → List ℕ → Result (Unit {0}) ProgramFault
same_nodes answer ours = if is_word ours answer then Ok tt else Err (Refused 142)

abbrev pub nodes_in : Option (List ℕ) → List ℕ → List ℕ → Result (Unit {0}) ProgramFault
nodes_in None answer ours = Err Unanswered
nodes_in (Some lines) answer ours = unless_fault (fault_in lines) (same_nodes answer ours)

abbrev pub compared_nodes : List ℕ → List ℕ → Result (Unit {0}) ProgramFault
compared_nodes answer ours = nodes_in (whole answer) answer ours

-- the text of sites, behind the line with how many bytes it has (10 ends that)
abbrev pub sites_message : List ℕ → List ℕ
sites_message sites = codes "sites " ++ decimal (length sites) ++ 10 ∷ sites

-- a line says that sites are gathered
abbrev pub is_gathered : List ℕ → Bool
is_gathered answer = is_word (codes "gathered") (first_word answer)

-- the Map-Server would restart: the fifth word of its answer, `compared NAME sites K restarted`
abbrev pub fifth_word : List ℕ → List ℕ
fifth_word line = third_word (behind_word (behind_word line))

abbrev pub restarts : List ℕ → Bool
restarts answer = is_word (codes "restarted") (fifth_word (first_line answer))

-- a row that it holds, and the line of one that leaves
abbrev pub is_row : List ℕ → Bool
is_row line = is_word (codes "row") (first_word line)

abbrev pub leaving : List ℕ → List ℕ
leaving line = codes "leaves " ++ behind_word line ++ 10 ∷ []

-- the sites that a text says, none where it has a fault
abbrev pub sites_or_none : Result (List SiteValue) ConfigFault → List SiteValue
sites_or_none (Ok sites) = sites
sites_or_none (Err fault) = []

abbrev pub sites_of_part : List ℕ → List SiteValue
sites_of_part part = sites_or_none (sites_in (parse_document part))

-- both are as many, and each have all that the others have
abbrev pub is_same : List SiteValue → List SiteValue → Bool
is_same sites others = (length sites == length others) && extends others sites && extends sites others

-- parts of a text that say its sites, each by itself; or the text itself
abbrev pub AreParts : List ℕ → List SiteValue → List (List ℕ) → Type 0
AreParts text sites parts = (parts ≡ text ∷ []) ⊎ IsTrue (is_same sites (flat_map sites_of_part parts))
