-- What was asked outside, in parts: the lines, what was sent and what was received.
use Rattle.std.proofs.Common.{◌≡◌, Bool, true, false, List, [], ◌∷◌, ◌++◌, Option, Some, None, refl, ap, ◌∙◌, append-nil}
use Rattle.std.specs.Prelude.{ℕ}
use Rattle.std.specs.Option.{option_to_list}
use Rattle.lisp_records.specs.declared.address.Addr.{Addr}
use Rattle.lisp_model.specs.declared.event.Event.TheVariants as events
use Rattle.lisp_model.specs.Trace.{EventValue}
use Rattle.lisp_model.specs.declared.line.Line.{Line}
use Rattle.lisp_model.specs.declared.line.Line.TheVariants as lines
use Rattle.lisp_turns.specs.Act.{numbered}
use Rattle.lisp_turns.specs.Acts.{send_calls, printed_of}
use Rattle.lisp_turns.specs.Outside.{Call, Datagram, Receives, Polls, Prints, Sends}
use Rattle.lisp_turns.specs.Part.{lines_of, sent_of, received_of}
use Rattle.lisp_turns.specs.declared.outside.Printed.{Printed}
use Rattle.lisp_turns.specs.declared.outside.Printed.TheVariants as printed
use Rattle.lisp_turns.proofs.CallKinds.{AreOfKinds}

-- of calls one after the other
pub lines_append : (cs ds : List Call) → lines_of (cs ++ ds) ≡ lines_of cs ++ lines_of ds
lines_append [] ds = refl
lines_append (Prints (printed.Event line) ∷ cs) ds = ap (λ rest. line ∷ rest) (lines_append cs ds)
lines_append (Prints (printed.Heard line from) ∷ cs) ds = ap (λ rest. line ∷ rest) (lines_append cs ds)
lines_append (_ ∷ cs) ds = lines_append cs ds

pub sent_append : (cs ds : List Call) → sent_of (cs ++ ds) ≡ sent_of cs ++ sent_of ds
sent_append [] ds = refl
sent_append (Sends to bytes taken ∷ cs) ds = ap (λ rest. (to, bytes) ∷ rest) (sent_append cs ds)
sent_append (_ ∷ cs) ds = sent_append cs ds

pub received_append : (cs ds : List Call) → received_of (cs ++ ds) ≡ received_of cs ++ received_of ds
received_append [] ds = refl
received_append (Receives (Datagram from bytes) ∷ cs) ds = ap (λ rest. (from, bytes) ∷ rest) (received_append cs ds)
received_append (Polls (Datagram from bytes) ∷ cs) ds = ap (λ rest. (from, bytes) ∷ rest) (received_append cs ds)
received_append (_ ∷ cs) ds = received_append cs ds

-- of calls that are of no event, and that receive nothing
pub no_lines : (h r : Bool) (cs : List Call) → AreOfKinds false h r cs → lines_of cs ≡ []
no_lines h r [] all = refl
no_lines h r (Prints (printed.Event line) ∷ cs) all = absurd all.0
no_lines h r (Prints (printed.Heard line from) ∷ cs) all = absurd all.0
no_lines h r (_ ∷ cs) all = no_lines h r cs all.1

pub no_sent : (h r : Bool) (cs : List Call) → AreOfKinds false h r cs → sent_of cs ≡ []
no_sent h r [] all = refl
no_sent h r (Sends to bytes taken ∷ cs) all = absurd all.0
no_sent h r (_ ∷ cs) all = no_sent h r cs all.1

pub none_received : (e r : Bool) (cs : List Call) → AreOfKinds e false r cs → received_of cs ≡ []
none_received e r [] all = refl
none_received e r (Receives reception ∷ cs) all = absurd all.0
none_received e r (Polls reception ∷ cs) all = absurd all.0
none_received e r (_ ∷ cs) all = none_received e r cs all.1

-- of five parts the first and the fourth come to nothing; of four, the first and the third
module _ {X : Type 0} (f : List Call → List X) (append : (cs ds : List Call) → f (cs ++ ds) ≡ f cs ++ f ds) where
  nothing_more : (xs ys : List Call) → f ys ≡ [] → f (xs ++ ys) ≡ f xs
  nothing_more xs ys none = append xs ys ∙ ap (λ l. f xs ++ l) none ∙ append-nil (f xs)

  nothing_first : (xs ys : List Call) → f xs ≡ [] → f (xs ++ ys) ≡ f ys
  nothing_first xs ys none = append xs ys ∙ ap (λ l. l ++ f ys) none

  pub of_five : (a b c d g : List Call) → f a ≡ [] → f d ≡ [] → f (a ++ b ++ c ++ d ++ g) ≡ f b ++ f c ++ f g
  of_five a b c d g no_a no_d =
      append (a ++ b ++ c ++ d) g
      ∙ ap (λ l. l ++ f g) (nothing_more (a ++ b ++ c) d no_d ∙ append (a ++ b) c ∙ ap (λ l. l ++ f c) (nothing_first a b no_a))

  pub of_four : (a b c g : List Call) → f a ≡ [] → f c ≡ [] → f (a ++ b ++ c ++ g) ≡ f b ++ f g
  of_four a b c g no_a no_c = append (a ++ b ++ c) g ∙ ap (λ l. l ++ f g) (nothing_more (a ++ b) c no_c ∙ nothing_first a b no_a)

-- the line of an event, however it is printed
printed_line : (event : EventValue) (line : Line) → lines_of (Prints (printed_of event line) ∷ []) ≡ line ∷ []
printed_line (events.Junk to from bytes) line = refl
printed_line _ line = refl

-- the calls of an act that is told
abbrev pub told_calls : Option (Addr × List ℕ) → Bool → Printed → List Call
told_calls message taken line = send_calls message taken ++ Prints line ∷ []

pub told_lines : (message : Option (Addr × List ℕ)) (taken : Bool) (event : EventValue) (line : Line) → lines_of (told_calls message taken (printed_of event line)) ≡ line ∷ []
told_lines None taken event line = printed_line event line
told_lines (Some m) true event line = printed_line event line
told_lines (Some m) false event line = printed_line event line

pub told_sent : (message : Option (Addr × List ℕ)) (taken : Bool) (line : Printed) → sent_of (told_calls message taken line) ≡ option_to_list message
told_sent None taken line = refl
told_sent (Some m) true line = refl
told_sent (Some m) false line = refl

-- of a line's datagram the last number stays
pub numbered_last : (m n : ℕ) (line : Line) → numbered m (numbered n line) ≡ numbered m line
numbered_last m n (lines.Accepted server router key nonce None) = refl
numbered_last m n (lines.Accepted server router key nonce (Some datagram)) = refl
numbered_last m n _ = refl
