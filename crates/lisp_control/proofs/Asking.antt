-- A line's question, step by step.
use Rattle.std.proofs.Common.{◌≡◌, ◌≢◌, ℕ, List, false, inr, None, Result, Ok, Err, codes, refl, sym}
use Rattle.std.proofs.lemmas.Slice.Eq.{bytes_eq-Decides}
use Rattle.lisp_policy.proofs.Found.{not_true}
use Rattle.lisp_script.specs.Words.{is_word}
use Rattle.lisp_control.specs.Question.{own_question}
use Rattle.lisp_script.specs.Fault.{Gives}
use Rattle.lisp_script.specs.declared.fault.ScriptWhat.{ScriptWhat}

-- what is read without memory
pub gives_same : {X : Type 0} (may : Type 0) (r read : Result X ScriptWhat) → r ≡ read → Gives may (λ (x : X). x) r read
gives_same may (Ok x) read is = sym is
gives_same may (Err what) read is = inr (sym is)

-- texts that differ are not alike
pub differs : (name word : List ℕ) → word ≢ name → is_word name word ≡ false
differs name word other = not_true (is_word name word) (λ alike. other (sym ((bytes_eq-Decides name word).0 alike)))

-- no question is another line
pub no_own_word : (line : List ℕ) → line ≢ codes "records" → line ≢ codes "routers" → line ≢ codes "counts" → line ≢ codes "counts --prometheus" → line ≢ codes "nodes" → None ≡ own_question line
no_own_word line records routers counts metrics nodes = rw (differs _ line records, differs _ line routers, differs _ line counts, differs _ line metrics, differs _ line nodes) refl
