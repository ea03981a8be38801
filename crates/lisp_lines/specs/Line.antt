-- The text of the line of each event.
use Rattle.std.specs.Prelude.{ℕ, ◌==◌, List, [], ◌∷◌, ◌++◌, codes, Option, Some, if◌then◌else◌}
use Rattle.std.specs.Fmt.{decimal}
use Rattle.lisp_policy.specs.Configuration.{ConfigValue}
use Rattle.lisp_model.specs.Faults.{refusal_number}
use Rattle.lisp_model.specs.declared.line.Line.{Line}
use Rattle.lisp_model.specs.declared.line.Line.TheVariants as lines
use Rattle.lisp_lines.specs.declared.datagram_place.DatagramPlace.TheVariants.{Shown}
use Rattle.lisp_lines.specs.declared.wording.Wording.{Wording}
use Rattle.lisp_lines.specs.declared.wording.Wording.TheVariants.{Schedule}
use Rattle.lisp_lines.specs.Name.{node_name, router_word}
use Rattle.lisp_lines.specs.Carried.{carried_words}

-- two nodes
abbrev pub pair_text : List ℕ → List ℕ → List ℕ
pair_text one other = one ++ codes " " ++ other

-- a Key ID; and with a nonce
abbrev pub key_text : ℕ → List ℕ
key_text key = codes " key " ++ decimal key

abbrev pub keyed_text : ℕ → ℕ → List ℕ
keyed_text key nonce = codes " key " ++ decimal key ++ codes " nonce " ++ decimal nonce

-- a datagram, where its place is shown
abbrev pub datagram_text : Wording → Option ℕ → List ℕ
datagram_text (Schedule Shown) (Some datagram) = codes " datagram " ++ decimal datagram
datagram_text _ _ = []

-- a part of a database, where it isn't the first
abbrev pub part_text : ℕ → List ℕ
part_text part = if part == 0 then [] else codes " part " ++ decimal part

abbrev pub line_words : ConfigValue → Wording → Line → List ℕ
line_words c wording (lines.Changed router records) = codes "change " ++ node_name c router ++ codes " records " ++ decimal records
line_words c wording (lines.Sent router server part key nonce datagram) = codes "sent " ++ pair_text (node_name c router) (node_name c server) ++ keyed_text key nonce ++ datagram_text wording (Some datagram) ++ part_text part
line_words c wording (lines.Accepted server router key nonce datagram) = codes "accepted " ++ pair_text (node_name c server) (router_word c wording router) ++ keyed_text key nonce ++ datagram_text wording datagram
line_words c wording (lines.Done server router nonce) = codes "done " ++ pair_text (node_name c server) (router_word c wording router) ++ codes " nonce " ++ decimal nonce
line_words c wording (lines.Counted router server part key nonce) = codes "counted " ++ pair_text (node_name c router) (node_name c server) ++ keyed_text key nonce ++ part_text part
line_words c wording (lines.Noticed router server nonce datagram) = codes "noticed " ++ pair_text (node_name c router) (node_name c server) ++ codes " nonce " ++ decimal nonce ++ datagram_text wording (Some datagram)
line_words c wording (lines.Nowhere datagram) = codes "nowhere " ++ decimal datagram
line_words c wording (lines.Ticked ms now) = codes "tick " ++ decimal ms ++ codes " now " ++ decimal now
line_words c wording (lines.Restarted node) = codes "restarted " ++ node_name c node
line_words c wording (lines.Rotated router key) = codes "rotated " ++ node_name c router ++ key_text key
line_words c wording (lines.Emptied router key) = codes "emptied " ++ node_name c router ++ key_text key
line_words c wording (lines.Notice server router key nonce datagram) = codes "notice " ++ pair_text (node_name c server) (node_name c router) ++ keyed_text key nonce ++ datagram_text wording (Some datagram)
line_words c wording (lines.Resent server router datagram) = codes "resent " ++ pair_text (node_name c server) (node_name c router) ++ datagram_text wording (Some datagram)
line_words c wording (lines.Reloaded server sites) = codes "reloaded " ++ node_name c server ++ codes " sites " ++ decimal sites ++ codes " kept"
line_words c wording (lines.Renewed server sites) = codes "reloaded " ++ node_name c server ++ codes " sites " ++ decimal sites ++ codes " restarted"
line_words c wording (lines.Down router) = codes "down " ++ node_name c router
line_words c wording (lines.Refused node what) = codes "refused " ++ node_name c node ++ codes " " ++ decimal (refusal_number what) ++ carried_words what

-- with its line feed
abbrev pub line_text : ConfigValue → Wording → Line → List ℕ
line_text c wording line = line_words c wording line ++ 10 ∷ []
