-- What a connection writes behind sites that it gathers.
use Rattle.std.proofs.Common.{◌≡◌, ℕ, true≢false, List, Option, Some, None, Result, Ok, Err, IfOk, OnErr, IsTrue, refl, sym, ap, subst, ◌∙◌}
use Rattle.std.specs.Global.{Global}
use Rattle.std.specs.Option.{MatchOption, is_some}
use Rattle.std.specs.Prelude.{String}
use Rattle.std.specs.String.{string_bytes}
use Rattle.lisp_policy.specs.Configuration.{ConfigValue}
use Rattle.lisp_policy.specs.Site.{SiteValue}
use Rattle.lisp_script.specs.declared.fault.ScriptWhat.TheVariants.{Record}
use Rattle.lisp_files.specs.Closing.{closed}
use Rattle.lisp_control.specs.Answer.{fault_text}
use Rattle.lisp_control.specs.Gathering.{gathered_count, gathered_text, gathered_with}
use Rattle.lisp_control_socket.specs.Answers.{AnswersSites, AnswersWith, ClosesWith, WritesBeforeLine}
use Rattle.lisp_control_socket.specs.declared.connection.Next.TheVariants as nexts
use Rattle.lisp_control_socket.specs.declared.connection.Stage.{Stage}
use Rattle.lisp_control_socket.specs.declared.connection.Stage.TheVariants as stages

module _ (c : ConfigValue) (number : ℕ) (old new : Option (List SiteValue)) (bytes : List ℕ) where
  -- the line of sites that were gathered
  counted : (read : Option (List SiteValue)) (count : ℕ) (text : List ℕ) → IsTrue (is_some new) → new ≡ read → count ≡ gathered_count new → text ≡ gathered_text c number count
      → MatchOption read (new ≡ old) (λ sites. new ≡ Some sites) × AnswersWith c number read text 0 nexts.Line
  counted None count text some now is_count is = absurd (true≢false (sym (subst (λ (o : Option (List SiteValue)). IsTrue (is_some o)) now some)))
  counted (Some sites) count text some now is_count is = (now, (is ∙ ap (gathered_text c number) (is_count ∙ ap gathered_count now), refl, refl))

  pub gathered : {E : Type 0} (count : ℕ) (text : Result (String Global) E) (stage : Stage) → IsTrue (is_some new) → new ≡ gathered_with old bytes → count ≡ gathered_count new
      → IfOk text (λ t. string_bytes t ≡ gathered_text c number count) → IfOk text (λ t. WritesBeforeLine t stage) → OnErr text (stage ≡ stages.Ended)
      → AnswersSites c number old new bytes stage
  gathered count (Ok text) stage some now is_count is written ended = subst (AnswersSites c number old new bytes) (sym written) (counted (gathered_with old bytes) count (string_bytes text) some now is_count is)
  gathered count (Err why) stage some now is_count is written ended = subst (AnswersSites c number old new bytes) (sym ended) tt

  -- the fault where there are none to gather
  closes : (may : Type 0) (text : List ℕ) (stage : Stage) → gathered_with old bytes ≡ None → new ≡ old → text ≡ fault_text Record → ClosesWith may text stage → AnswersSites c number old new bytes stage
  closes may text (stages.Answered answer written next) none same is (bytes_are, at, then) = rw none (same, (bytes_are ∙ ap closed is, at, then))
  closes may text stages.Ended none same is closing = tt
  closes may text (stages.Asks line) none same is closing = absurd closing
  closes may text (stages.Takes wanted taken) none same is closing = absurd closing
  closes may text (stages.Asked answering) none same is closing = absurd closing
  closes may text stages.Told none same is closing = absurd closing
  closes may text (stages.Copies file) none same is closing = absurd closing

  pub refused : {E : Type 0} (may : Type 0) (text : Result (String Global) E) (stage : Stage) → gathered_with old bytes ≡ None → new ≡ old
      → IfOk text (λ t. string_bytes t ≡ fault_text Record) → IfOk text (λ t. ClosesWith may (string_bytes t) stage) → OnErr text (stage ≡ stages.Ended)
      → AnswersSites c number old new bytes stage
  refused may (Ok text) stage none same is closing ended = closes may (string_bytes text) stage none same is closing
  refused may (Err why) stage none same is closing ended = subst (AnswersSites c number old new bytes) (sym ended) tt
