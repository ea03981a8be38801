-- A life begins at the moment that the clock told.
use Rattle.std.proofs.Common.{◌≡◌, ℕ, List, Result, Ok, Err, IfOk, sym, ap, subst}
use Rattle.std.proofs.lemmas.Result.{IfOk-weaker}
use Rattle.lisp_policy.specs.Configuration.{ConfigValue}
use Rattle.lisp_policy.specs.Site.{SiteValue}
use Rattle.lisp_nonces.specs.Store.{StoreState}
use Rattle.lisp_turns.specs.Beginning.{Begins}
use Rattle.lisp_turns.specs.Node.{NodeState}
use Rattle.lisp_turns.specs.Outside.{OutsideState, ReadsClock}
use Rattle.lisp_udp.specs.Running.{BeginsOver, PlaysPart, ReadsFirst, RunsFrom, RunsOver, TakesItsTurns, TakesTurnsFrom}
use Rattle.lisp_udp.specs.declared.life.Life.{Life}
use Rattle.lisp_udp.specs.declared.resolving.Answering.{Answering}

-- what was read is the moment that the clock told last
read_last : (before started : OutsideState) (now : ℕ) → ReadsClock before started now → started.moment ≡ now
read_last before started now reads = ap (λ (o : OutsideState). o.moment) reads.left

-- In what follows `seen` is what is known of what is outside, of which the clock was read, unless that failed.
module _ {N O F : Type 0} (seen : O → OutsideState) (config : ConfigValue) (sites : List SiteValue) (number : ℕ) (store : StoreState) (now : ℕ) where
  -- the node began at that moment
  pub begins_over : (E : Type 0) (state : N → NodeState) (node : Result N E) (old outside : Result O F) → ReadsFirst seen old outside now
      → IfOk node (λ n. Begins config sites number store now (state n)) → IfOk node (λ n. BeginsOver seen config sites number store outside (state n))
  begins_over E state node (Ok before) (Ok started) reads begins =
      subst (λ moment. IfOk node (λ n. Begins config sites number store moment (state n))) (sym (read_last (seen before) (seen started) now reads)) begins
  begins_over E state node (Err fault) (Err same) reads begins = IfOk-weaker node _ _ (λ n begun. tt) begins
  begins_over E state node (Ok before) (Err fault) reads begins = absurd reads
  begins_over E state node (Err fault) (Ok started) reads begins = absurd reads

  pub runs_over : (old outside : Result O F) (result : Result (Life N O) F) → ReadsFirst seen old outside now
      → RunsFrom seen config sites number store outside result → RunsOver seen config sites number store old result
  runs_over (Ok before) (Ok started) result reads runs network = IfOk-weaker result _ _ (λ life plays. (seen started, now, reads, plays_from life plays)) (runs network)
    where
      plays_from : (life : Life N O) → PlaysPart config sites number store (seen started).moment (seen started) (seen life.outside) life.ended
          → PlaysPart config sites number store now (seen started) (seen life.outside) life.ended
      plays_from life plays = subst (λ moment. PlaysPart config sites number store moment (seen started) (seen life.outside) life.ended) (read_last (seen before) (seen started) now reads) plays
  runs_over (Err fault) outside result reads runs network = tt
  runs_over (Ok before) (Err fault) result reads runs network = absurd reads

  pub takes_turns : (state : N → NodeState) (A : Type 0) (places : ℕ) (answering : Answering) (turns : ℕ) (old outside : Result O F) (result : Result (Life N O) F) → ReadsFirst seen old outside now
      → TakesTurnsFrom A state seen config sites number store places answering turns outside result → TakesItsTurns A state seen config sites number store places answering turns old result
  takes_turns state A places answering turns (Ok before) (Ok started) result reads takes = IfOk-weaker result _ _ (λ life took.
      (seen started, now, reads, took.0, begins_now took.0 took.1, took.2)) takes
    where
      begins_now : (begun : NodeState) → Begins config sites number store (seen started).moment begun → Begins config sites number store now begun
      begins_now begun begins = subst (λ moment. Begins config sites number store moment begun) (read_last (seen before) (seen started) now reads) begins
  takes_turns state A places answering turns (Err fault) outside result reads takes = tt
  takes_turns state A places answering turns (Ok before) (Err fault) result reads takes = absurd reads
