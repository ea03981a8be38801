-- Words that begin no command.
use Rattle.std.proofs.Common.{◌≡◌, ◌≢◌, ℕ, Bool, true, false, List, Err, codes, refl, sym}
use Rattle.std.specs.Bool.{Decides}
use Rattle.std.proofs.lemmas.Slice.Eq.{bytes_eq-Decides}
use Rattle.lisp_script.specs.declared.fault.ScriptWhat.TheVariants.{Word}
use Rattle.lisp_script.specs.Words.{is_word}
use Rattle.lisp_script.specs.Spelling.{verb_of}

-- a test is false where what it decides is
refuted : {P : Type 0} (r : Bool) → Decides r P → (P → ⊥) → r ≡ false
refuted true decides other = absurd (other (decides.0 refl))
refuted false decides other = refl

-- texts that differ are not alike
differs : (name word : List ℕ) → word ≢ name → is_word name word ≡ false
differs name word other = refuted (is_word name word) (bytes_eq-Decides name word) (λ e. other (sym e))

-- no verb is another word
pub unknown : (word : List ℕ) → word ≢ codes "change" → word ≢ codes "send" → word ≢ codes "deliver" → word ≢ codes "junk" → word ≢ codes "tick" → word ≢ codes "restart"
    → word ≢ codes "rotate" → word ≢ codes "lose" → word ≢ codes "notice" → word ≢ codes "resend" → word ≢ codes "reload" → word ≢ codes "hold" → word ≢ codes "acks" → word ≢ codes "ask" → word ≢ codes "request" → word ≢ codes "due" → verb_of word ≡ Err Word
unknown word change send deliver junk tick restart rotate lose notice resend reload hold acks ask request due =
    rw (
      differs _ word change,
      differs _ word send,
      differs _ word deliver,
      differs _ word junk,
      differs _ word tick,
      differs _ word restart,
      differs _ word rotate,
      differs _ word lose,
      differs _ word notice,
      differs _ word resend,
      differs _ word reload,
      differs _ word hold,
      differs _ word acks,
      differs _ word ask,
      differs _ word request,
      differs _ word due,
    ) refl
