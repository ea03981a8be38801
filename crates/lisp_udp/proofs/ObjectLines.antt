-- Lines that are taken, what is written for them, and what a sink takes of that.
use Rattle.std.proofs.Common.{◌≡◌, ℕ, ◌+◌, ◌<◌, List, [], ◌∷◌, ◌++◌, length, take, drop, Option, Some, None, refl, sym, ap, ◌∙◌, append_assoc, append-nil, subst, arith}
use Rattle.std.specs.List.{position}
use Rattle.std.specs.Option.{option_map}
use Rattle.std.proofs.lemmas.List.{drop-drop, length-take-le, take-append-drop}
use Rattle.lisp_log.specs.Waiting.{Takes}
use Rattle.lisp_udp.specs.Objects.{AreWrittenFor, IsFirstLine, IsWrittenFor, TakesFront, WritesObjects, is_line_feed}

-- ---- what a sink takes

taken_nothing : (state : Option (List ℕ)) → state ≡ option_map (λ t. t ++ []) state
taken_nothing None = refl
taken_nothing (Some t) = ap Some (sym (append-nil t))

taken_twice : (before between after : Option (List ℕ)) (one other : List ℕ) → between ≡ option_map (λ t. t ++ one) before → after ≡ option_map (λ t. t ++ other) between
    → after ≡ option_map (λ t. t ++ (one ++ other)) before
taken_twice None between after one other first next = next ∙ ap (λ (s : Option (List ℕ)). option_map (λ t. t ++ other) s) first
taken_twice (Some t) between after one other first next = next ∙ ap (λ (s : Option (List ℕ)). option_map (λ t. t ++ other) s) first ∙ ap Some (append_assoc t one other)

pub nothing_taken : (state : Option (List ℕ)) (rest : List ℕ) → TakesFront state state rest rest
nothing_taken state rest = record { front = []; owed = refl; taken = taken_nothing state }

pub front_taken : (before between after : Option (List ℕ)) (slice old new : List ℕ) (count : ℕ) → slice ≡ old → Takes before between count slice → after ≡ between → new ≡ drop count old
    → TakesFront before after old new
front_taken before between after slice old new count same takes stays left = record {
  front = take count slice;
  owed = ap (λ (t : List ℕ). take count t ++ new) same ∙ ap (λ (t : List ℕ). take count old ++ t) left ∙ take-append-drop count old;
  taken = stays ∙ takes;
}

-- ---- what is written for lines

join_lines : (lines more : List (List ℕ)) (bytes between left one other : List ℕ) → AreWrittenFor lines bytes between one → AreWrittenFor more between left other
    → AreWrittenFor (lines ++ more) bytes left (one ++ other)
unfolding AreWrittenFor
join_lines [] more bytes between left one other (same, none) are =
    subst (λ (t : List ℕ). AreWrittenFor more bytes left (t ++ other)) (sym none) (subst (λ (b : List ℕ). AreWrittenFor more b left other) same are)
join_lines (line ∷ lines) more bytes between left one other (text, others, is, written, rest, parts) are =
    (text, others ++ other, is, written, join_lines lines more (drop (length line + 1) bytes) between left others other rest are, ap (λ (t : List ℕ). t ++ other) parts ∙ append_assoc text others other)

no_lines : (bytes : List ℕ) → AreWrittenFor [] bytes bytes []
unfolding AreWrittenFor
no_lines bytes = (refl, refl)

one_line : (bytes line text : List ℕ) → IsFirstLine line bytes → IsWrittenFor line text → AreWrittenFor (line ∷ []) bytes (drop (length line + 1) bytes) text
unfolding AreWrittenFor
one_line bytes line text is written = (text, [], is, written, (refl, refl), sym (append-nil text))

pub nothing_written : (state : Option (List ℕ)) (rest bytes : List ℕ) → WritesObjects state state rest rest bytes bytes
nothing_written state rest bytes = record {
  lines = [];
  texts = [];
  written = no_lines bytes;
  poured = record { front = []; owed = sym (append-nil rest); taken = taken_nothing state };
}

-- of what waited alone
pub front_written : (before after : Option (List ℕ)) (old new bytes : List ℕ) → TakesFront before after old new → WritesObjects before after old new bytes bytes
front_written before after old new bytes takes = record {
  lines = [];
  texts = [];
  written = no_lines bytes;
  poured = record { front = takes.front; owed = takes.owed ∙ sym (append-nil old); taken = takes.taken };
}

-- of a line, where nothing waited
pub line_written : (before after : Option (List ℕ)) (old new bytes line text : List ℕ) → old ≡ [] → IsFirstLine line bytes → IsWrittenFor line text → TakesFront before after text new
    → WritesObjects before after old new bytes (drop (length line + 1) bytes)
line_written before after old new bytes line text idle is written takes = record {
  lines = line ∷ [];
  texts = text;
  written = one_line bytes line text is written;
  poured = subst (λ (o : List ℕ). TakesFront before after (o ++ text) new) (sym idle) takes;
}

pub more_written : (before between after : Option (List ℕ)) (old mid new bytes part left : List ℕ) → WritesObjects before between old mid bytes part → WritesObjects between after mid new part left
    → WritesObjects before after old new bytes left
more_written before between after old mid new bytes part left first next = record {
  lines = first.lines ++ next.lines;
  texts = first.texts ++ next.texts;
  written = join_lines first.lines next.lines bytes part left first.texts next.texts first.written next.written;
  poured = record {
    front = first.poured.front ++ next.poured.front;
    owed = append_assoc first.poured.front next.poured.front new ∙ ap (λ (t : List ℕ). first.poured.front ++ t) next.poured.owed
        ∙ sym (append_assoc first.poured.front mid next.texts) ∙ ap (λ (t : List ℕ). t ++ next.texts) first.poured.owed ∙ append_assoc old first.texts next.texts;
    taken = taken_twice before between after first.poured.front next.poured.front first.poured.taken next.poured.taken;
  };
}

-- in the bytes behind those that were taken
pub more_taken : (before between after : Option (List ℕ)) (old mid new bytes slice : List ℕ) (at count : ℕ) → slice ≡ drop at bytes
    → WritesObjects before between old mid bytes (drop at bytes) → WritesObjects between after mid new slice (drop count slice) → WritesObjects before after old new bytes (drop (at + count) bytes)
more_taken before between after old mid new bytes slice at count same first next =
    let behind : drop count slice ≡ drop (at + count) bytes = ap (λ (b : List ℕ). drop count b) same ∙ drop-drop count at bytes in
    more_written before between after old mid new bytes (drop at bytes) (drop (at + count) bytes) first
    (subst (λ (b : List ℕ). WritesObjects between after mid new (drop at bytes) b) behind (subst (λ (b : List ℕ). WritesObjects between after mid new b (drop count slice)) same next))

-- ---- the first line

pub first_line_is : (bytes line slice : List ℕ) (end : ℕ) → position is_line_feed bytes ≡ Some end → end < length bytes → line ≡ slice → slice ≡ take end bytes → IsFirstLine line bytes
first_line_is bytes line slice end at within is cut =
    let long : length line ≡ end = ap length (is ∙ cut) ∙ length-take-le end bytes (omega (arith, within)) in
    (at ∙ ap Some (sym long), is ∙ cut ∙ ap (λ (n : ℕ). take n bytes) (sym long))
