-- A line is its parts.
use Rattle.std.proofs.Common.{sym, ◌≡◌, ℕ, List, [], ◌++◌, None, refl, ap, ◌∙◌, codes, append_assoc}
use Rattle.std.proofs.lemmas.List.{append-nil}
use Rattle.std.specs.Fmt.{decimal}
use Rattle.lisp_policy.specs.Configuration.{ConfigValue}
use Rattle.lisp_model.specs.Faults.{refusal_number}
use Rattle.lisp_model.specs.declared.line.Line.{Line}
use Rattle.lisp_model.specs.declared.line.Line.TheVariants as lines
use Rattle.lisp_lines.specs.declared.datagram_place.DatagramPlace.TheVariants.{Shown, Hidden}
use Rattle.lisp_lines.specs.declared.wording.Wording.{Wording}
use Rattle.lisp_lines.specs.declared.wording.Wording.TheVariants.{Schedule, Node}
use Rattle.lisp_lines.specs.Name.{node_name, router_word}
use Rattle.lisp_lines.specs.Carried.{carried_words}
use Rattle.lisp_lines.specs.Line.{keyed_text, datagram_text, part_text, line_words}
use Rattle.lisp_lines.specs.Parts.{verb, nodes_text, details_text, datagram_of, part_of}

-- where there is no datagram, nothing is added
alone : (wording : Wording) (text : List ℕ) → text ++ datagram_text wording None ≡ text
alone (Schedule Shown) text = append-nil text
alone (Schedule Hidden) text = append-nil text
alone Node text = append-nil text

-- the words of a line before its part
abbrev front : ConfigValue → Wording → Line → List ℕ
front c wording line = verb line ++ nodes_text c wording line ++ details_text line ++ datagram_text wording (datagram_of line)

-- of a line that is about no part they are all
plain : (c : ConfigValue) (wording : Wording) (line : Line) → front c wording line ≡ line_words c wording line → front c wording line ++ [] ≡ line_words c wording line
plain c wording line is = append-nil (front c wording line) ∙ is

-- the words of a line, part by part
pub line_parts : (c : ConfigValue) (wording : Wording) (line : Line) → verb line ++ nodes_text c wording line ++ details_text line ++ datagram_text wording (datagram_of line) ++ part_text (part_of line) ≡ line_words c wording line
line_parts c wording (lines.Changed router records) = plain c wording (lines.Changed router records) (simp append_assoc (ap (λ (t : List ℕ). codes "change " ++ (node_name c router ++ t)) (alone wording (codes " records " ++ decimal records))))
line_parts c wording (lines.Sent router server part key nonce datagram) = simp append_assoc refl
line_parts c wording (lines.Accepted server router key nonce datagram) = plain c wording (lines.Accepted server router key nonce datagram) (simp append_assoc refl)
line_parts c wording (lines.Done server router nonce) = plain c wording (lines.Done server router nonce) (simp append_assoc (ap (λ (t : List ℕ). codes "done " ++ (node_name c server ++ (codes " " ++ (router_word c wording router ++ t)))) (alone wording (codes " nonce " ++ decimal nonce))))
line_parts c wording (lines.Counted router server part key nonce) = ap (λ (t : List ℕ). t ++ part_text part) (alone wording (codes "counted" ++ nodes_text c wording (lines.Counted router server part key nonce) ++ keyed_text key nonce)) ∙ simp append_assoc refl
line_parts c wording (lines.Noticed router server nonce datagram) = plain c wording (lines.Noticed router server nonce datagram) (simp append_assoc refl)
line_parts c wording (lines.Nowhere datagram) = plain c wording (lines.Nowhere datagram) (ap (λ (t : List ℕ). codes "nowhere " ++ t) (alone wording (decimal datagram)))
line_parts c wording (lines.Ticked ms now) = plain c wording (lines.Ticked ms now) (ap (λ (t : List ℕ). codes "tick " ++ t) (alone wording (decimal ms ++ codes " now " ++ decimal now)))
line_parts c wording (lines.Restarted node) = plain c wording (lines.Restarted node) (ap (λ (t : List ℕ). codes "restarted " ++ t) (alone wording (node_name c node ++ []) ∙ append-nil (node_name c node)))
line_parts c wording (lines.Rotated router key) = plain c wording (lines.Rotated router key) (simp append_assoc (ap (λ (t : List ℕ). codes "rotated " ++ (node_name c router ++ t)) (alone wording (codes " key " ++ decimal key))))
line_parts c wording (lines.Emptied router key) = plain c wording (lines.Emptied router key) (simp append_assoc (ap (λ (t : List ℕ). codes "emptied " ++ (node_name c router ++ t)) (alone wording (codes " key " ++ decimal key))))
line_parts c wording (lines.Notice server router key nonce datagram) = plain c wording (lines.Notice server router key nonce datagram) (simp append_assoc refl)
line_parts c wording (lines.Resent server router datagram) = plain c wording (lines.Resent server router datagram) (simp append_assoc refl)
line_parts c wording (lines.Reloaded server sites) = plain c wording (lines.Reloaded server sites) (ap (λ (t : List ℕ). codes "reloaded " ++ t) (alone wording (node_name c server ++ (codes " sites " ++ decimal sites ++ codes " kept")) ∙ sym (append_assoc (node_name c server ++ codes " sites ") (decimal sites) (codes " kept") ∙ append_assoc (node_name c server) (codes " sites ") (decimal sites ++ codes " kept"))))
line_parts c wording (lines.Renewed server sites) = plain c wording (lines.Renewed server sites) (ap (λ (t : List ℕ). codes "reloaded " ++ t) (alone wording (node_name c server ++ (codes " sites " ++ decimal sites ++ codes " restarted")) ∙ sym (append_assoc (node_name c server ++ codes " sites ") (decimal sites) (codes " restarted") ∙ append_assoc (node_name c server) (codes " sites ") (decimal sites ++ codes " restarted"))))
line_parts c wording (lines.Down router) = plain c wording (lines.Down router) (ap (λ (t : List ℕ). codes "down " ++ t) (alone wording (node_name c router ++ []) ∙ append-nil (node_name c router)))
line_parts c wording (lines.Refused node what) = plain c wording (lines.Refused node what) (simp append_assoc (ap (λ (t : List ℕ). codes "refused " ++ t) (alone wording (node_name c node ++ (codes " " ++ (decimal (refusal_number what) ++ carried_words what))))))

pub ruleset steps = (append_assoc, line_parts)
