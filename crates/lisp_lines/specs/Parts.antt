-- What a line is put together from: its verb, its nodes, what else it tells, its datagram, and the part of a database
-- that it is about.
use Rattle.std.specs.Prelude.{ℕ, List, [], ◌++◌, codes, Option, Some, None}
use Rattle.std.specs.Fmt.{decimal}
use Rattle.lisp_policy.specs.Configuration.{ConfigValue}
use Rattle.lisp_model.specs.Faults.{refusal_number}
use Rattle.lisp_model.specs.declared.refusal.Refusal.{Refusal}
use Rattle.lisp_model.specs.declared.line.Line.{Line}
use Rattle.lisp_model.specs.declared.line.Line.TheVariants as lines
use Rattle.lisp_lines.specs.declared.wording.Wording.{Wording}
use Rattle.lisp_lines.specs.Name.{node_name, router_word}
use Rattle.lisp_lines.specs.Carried.{carried_words}
use Rattle.lisp_lines.specs.Line.{pair_text, key_text, keyed_text}

-- the first word
abbrev pub verb : Line → List ℕ
verb (lines.Changed _ _) = codes "change"
verb (lines.Sent _ _ _ _ _ _) = codes "sent"
verb (lines.Accepted _ _ _ _ _) = codes "accepted"
verb (lines.Done _ _ _) = codes "done"
verb (lines.Counted _ _ _ _ _) = codes "counted"
verb (lines.Noticed _ _ _ _) = codes "noticed"
verb (lines.Nowhere _) = codes "nowhere"
verb (lines.Ticked _ _) = codes "tick"
verb (lines.Restarted _) = codes "restarted"
verb (lines.Rotated _ _) = codes "rotated"
verb (lines.Emptied _ _) = codes "emptied"
verb (lines.Notice _ _ _ _ _) = codes "notice"
verb (lines.Resent _ _ _) = codes "resent"
verb (lines.Reloaded _ _) = codes "reloaded"
verb (lines.Renewed _ _) = codes "reloaded"
verb (lines.Down _) = codes "down"
verb (lines.Refused _ _) = codes "refused"

-- the nodes, each after a space
abbrev pub nodes_text : ConfigValue → Wording → Line → List ℕ
nodes_text c wording (lines.Changed router _) = codes " " ++ node_name c router
nodes_text c wording (lines.Sent router server _ _ _ _) = codes " " ++ pair_text (node_name c router) (node_name c server)
nodes_text c wording (lines.Accepted server router _ _ _) = codes " " ++ pair_text (node_name c server) (router_word c wording router)
nodes_text c wording (lines.Done server router _) = codes " " ++ pair_text (node_name c server) (router_word c wording router)
nodes_text c wording (lines.Counted router server _ _ _) = codes " " ++ pair_text (node_name c router) (node_name c server)
nodes_text c wording (lines.Noticed router server _ _) = codes " " ++ pair_text (node_name c router) (node_name c server)
nodes_text c wording (lines.Restarted node) = codes " " ++ node_name c node
nodes_text c wording (lines.Rotated router _) = codes " " ++ node_name c router
nodes_text c wording (lines.Emptied router _) = codes " " ++ node_name c router
nodes_text c wording (lines.Notice server router _ _ _) = codes " " ++ pair_text (node_name c server) (node_name c router)
nodes_text c wording (lines.Resent server router _) = codes " " ++ pair_text (node_name c server) (node_name c router)
nodes_text c wording (lines.Reloaded server _) = codes " " ++ node_name c server
nodes_text c wording (lines.Renewed server _) = codes " " ++ node_name c server
nodes_text c wording (lines.Down router) = codes " " ++ node_name c router
nodes_text c wording (lines.Refused node _) = codes " " ++ node_name c node
nodes_text c wording _ = []

-- a refusal: its number, and what it carries
abbrev pub refusal_text : Refusal → List ℕ
refusal_text what = codes " " ++ decimal (refusal_number what) ++ carried_words what

-- what else is told
abbrev pub details_text : Line → List ℕ
details_text (lines.Changed _ records) = codes " records " ++ decimal records
details_text (lines.Sent _ _ _ key nonce _) = keyed_text key nonce
details_text (lines.Accepted _ _ key nonce _) = keyed_text key nonce
details_text (lines.Done _ _ nonce) = codes " nonce " ++ decimal nonce
details_text (lines.Counted _ _ _ key nonce) = keyed_text key nonce
details_text (lines.Noticed _ _ nonce _) = codes " nonce " ++ decimal nonce
details_text (lines.Nowhere datagram) = codes " " ++ decimal datagram
details_text (lines.Ticked ms now) = codes " " ++ decimal ms ++ codes " now " ++ decimal now
details_text (lines.Rotated _ key) = key_text key
details_text (lines.Emptied _ key) = key_text key
details_text (lines.Notice _ _ key nonce _) = keyed_text key nonce
details_text (lines.Reloaded _ sites) = codes " sites " ++ decimal sites ++ codes " kept"
details_text (lines.Renewed _ sites) = codes " sites " ++ decimal sites ++ codes " restarted"
details_text (lines.Refused _ what) = refusal_text what
details_text _ = []

-- the datagram whose place may be shown
abbrev pub datagram_of : Line → Option ℕ
datagram_of (lines.Sent _ _ _ _ _ datagram) = Some datagram
datagram_of (lines.Accepted _ _ _ _ datagram) = datagram
datagram_of (lines.Noticed _ _ _ datagram) = Some datagram
datagram_of (lines.Notice _ _ _ _ datagram) = Some datagram
datagram_of (lines.Resent _ _ datagram) = Some datagram
datagram_of _ = None

-- the part of a router's database that it is about; of other lines 0, which isn't told
abbrev pub part_of : Line → ℕ
part_of (lines.Sent _ _ part _ _ _) = part
part_of (lines.Counted _ _ part _ _) = part
part_of _ = 0
