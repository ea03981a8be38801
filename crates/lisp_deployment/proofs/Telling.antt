-- What was told of what the nodes of a deployment did: of the Map-Registers that they sent, of those that Map-Servers accepted, of the replies
-- to them, of what routers counted, and of what a Map-Server accepted since its last start.
use Rattle.std.proofs.Common.{◌≡◌, ◌⊎◌, inl, inr, ℕ, List, [], ◌∷◌, ◌++◌, sym, ap, subst, ◌∙◌}
use Rattle.std.specs.List.{AllByRecursion, Contains}
use Rattle.std.proofs.lemmas.List.{append_assoc}
use Rattle.std.proofs.lemmas.List.Elements.{Contains-append_left, Contains-append_cases}
use Rattle.lisp_policy.specs.Site.{SiteValue}
use Rattle.lisp_model.specs.declared.line.Line.{Line}
use Rattle.lisp_model.specs.declared.line.Line.TheVariants as lines
use Rattle.lisp_model.specs.Clean.{Clean}
use Rattle.lisp_model.specs.Legal.{LegalTrace}
use Rattle.lisp_model.specs.Trace.{Step, Opening}
use Rattle.lisp_model.proofs.ListLemmas.{at_head, in_tail, head_or_tail, in_none}
use Rattle.lisp_refinement.specs.World.{DatagramValue, WorldState}
use Rattle.lisp_refinement.specs.Stands.{Stands}
use Rattle.lisp_turns.specs.Act.{numbered}
use Rattle.lisp_turns.specs.Part.{IsOwn, IsQuiet, ArePrinted, arrivals}
use Rattle.lisp_deployment.specs.Received.{IsUnforged}
use Rattle.lisp_deployment.proofs.Giving.{TakeGiven}
use Rattle.lisp_deployment.proofs.Posting.{WasTold, told_still, SendsAreTold, datagrams_told, WasReplied, replied_still, RepliesAreTold, AreReplied, datagrams_replied}
use Rattle.lisp_deployment.proofs.Accepting.{AreTold, AcceptedAreTold, accepted_told, restarted_told, CountsAreTold, more_counted, counts_told, restarted_counts}
use Rattle.lisp_deployment.proofs.AcceptedLines.{ToldSince, turn_told, life_told}

-- a step of which the lines are there is quiet, or its line is one of them
pub printed_told : (steps : List Step) (ls : List Line) → ArePrinted steps ls → (s : Step) → Contains steps s → IsQuiet s.line ⊎ Contains ls (numbered 0 s.line)
printed_told [] ls is s has = absurd (in_none s has)
printed_told (x ∷ steps) ls (inl (quiet, printed)) s has = by (head_or_tail x steps s has) (printed_told steps ls printed s)
  where
    by : (s ≡ x) ⊎ Contains steps s → (Contains steps s → IsQuiet s.line ⊎ Contains ls (numbered 0 s.line)) → IsQuiet s.line ⊎ Contains ls (numbered 0 s.line)
    by (inl is) go = inl (subst (λ (y : Step). IsQuiet y.line) (sym is) quiet)
    by (inr there) go = go there
printed_told (x ∷ steps) ls (inr (line, rest, is, same, printed)) s has = subst (λ (l : List Line). IsQuiet s.line ⊎ Contains l (numbered 0 s.line)) (sym is) (by (head_or_tail x steps s has) (printed_told steps rest printed s))
  where
    by : (s ≡ x) ⊎ Contains steps s → (Contains steps s → IsQuiet s.line ⊎ Contains rest (numbered 0 s.line)) → IsQuiet s.line ⊎ Contains (line ∷ rest) (numbered 0 s.line)
    by (inl here) go = inr (subst (λ (l : Line). Contains (line ∷ rest) l) (same ∙ ap (λ (y : Step). numbered 0 y.line) (sym here)) (at_head line rest))
    by (inr there) go = later (go there)
      where
        later : IsQuiet s.line ⊎ Contains rest (numbered 0 s.line) → IsQuiet s.line ⊎ Contains (line ∷ rest) (numbered 0 s.line)
        later (inl quiet) = inl quiet
        later (inr found) = inr (in_tail line rest (numbered 0 s.line) found)

-- so a line that isn't quiet is among those, and more
line_told : (steps : List Step) (ls more : List Line) → ArePrinted steps ls → (s : Step) → Contains steps s → (IsQuiet s.line → ⊥) → Contains (ls ++ more) (numbered 0 s.line)
line_told steps ls more is s has loud = by (printed_told steps ls is s has)
  where
    by : IsQuiet s.line ⊎ Contains ls (numbered 0 s.line) → Contains (ls ++ more) (numbered 0 s.line)
    by (inl quiet) = absurd (loud quiet)
    by (inr found) = Contains-append_left ls more _ found

-- those of what was sent, and of replies
sends_told : (steps : List Step) (ls more : List Line) → ArePrinted steps ls → SendsAreTold (ls ++ more) steps
sends_told steps ls more is s has router server part key nonce datagram line =
    subst (λ (l : Line). Contains (ls ++ more) (numbered 0 l)) line (line_told steps ls more is s has (λ quiet. subst IsQuiet line quiet))

replies_told : (steps : List Step) (ls more : List Line) → ArePrinted steps ls → RepliesAreTold (ls ++ more) steps
replies_told steps ls more is s has server router key nonce datagram line =
    subst (λ (l : Line). Contains (ls ++ more) (numbered 0 l)) line (line_told steps ls more is s has (λ quiet. subst IsQuiet line quiet))

-- after a trace all of it was told, with these lines; of what was sent that of which the datagrams are given
pub record AreAllTold (o : Opening) (T : List Step) (printed : List Line) (sent : List DatagramValue) : Type 0 where
  pub sent_are : AreTold o T printed sent
  pub accepted_are : AcceptedAreTold o T printed
  pub replies_are : AreReplied o T printed sent
  pub counts_are : CountsAreTold o T printed
  pub since : (server : ℕ) → ToldSince server printed T

module _ (o : Opening) (given : List (List SiteValue)) (T : List Step) (printed : List Line) (sent : List DatagramValue) (told : AreAllTold o T printed sent) (number : ℕ) where
  -- what was sent before, and what is new
  more_sent : (steps : List Step) (more : List Line) (new : List DatagramValue) → AreTold o (steps ++ T) (more ++ printed) new → AreTold o (steps ++ T) (more ++ printed) (sent ++ new)
  more_sent steps more new its g has m read = by (Contains-append_cases sent new g has)
    where
      by : Contains sent g ⊎ Contains new g → WasTold o (steps ++ T) (more ++ printed) m
      by (inl old) = told_still o steps T more printed m (told.sent_are g old m read)
      by (inr now) = its g now m read

  more_replied : (steps : List Step) (more : List Line) (new : List DatagramValue) → AreReplied o (steps ++ T) (more ++ printed) new → AreReplied o (steps ++ T) (more ++ printed) (sent ++ new)
  more_replied steps more new its g has n read may = by (Contains-append_cases sent new g has)
    where
      by : Contains sent g ⊎ Contains new g → WasReplied o (steps ++ T) (more ++ printed) g.from g.to n
      by (inl old) = replied_still o steps T more printed g.from g.to n (told.replies_are g old n read may)
      by (inr now) = its g now n read may

  clean_before : (later earlier : List Step) → Clean o (later ++ earlier) → Clean o earlier
  clean_before [] earlier clean = clean
  clean_before (s ∷ later) earlier clean = clean_before later earlier clean.1

  -- in a turn
  pub turn_tells : (w left : WorldState) (steps : List Step) (ls : List Line) (new : List DatagramValue) → Stands w o T → Stands left o (steps ++ T) → left.bag ≡ w.bag ++ new → AllByRecursion (λ s. IsOwn number s.event) steps → ArePrinted steps ls
      → AllByRecursion (IsUnforged o.config given sent number) (arrivals steps) → TakeGiven o given (steps ++ T) → Clean o (steps ++ T) → AreAllTold o (steps ++ T) (ls ++ printed) (sent ++ new)
  turn_tells w left steps ls new before after bag own is unforged take clean = record {
    sent_are = more_sent steps ls new (datagrams_told w left o T steps (ls ++ printed) new before after (sends_told steps ls printed is) bag);
    accepted_are = λ server x has. told_still o [] (steps ++ T) ls printed x.message (accepted_told o given T printed sent told.sent_are number steps own after.steps.legal take unforged told.accepted_are server x has);
    replies_are = more_replied steps ls new (datagrams_replied w left o T steps (ls ++ printed) new before after (replies_told steps ls printed is) bag);
    counts_are = more_counted o (steps ++ T) ls printed (counts_told o given T printed sent told.replies_are number before.steps.legal before.steps.network (clean_before steps T clean) steps own after.steps.legal take unforged told.counts_are);
    since = λ server. turn_told server ls printed steps T (printed_told steps ls is) (told.since server);
  }

  -- and where a life begins, after steps of which some were told
  pub life_tells : (w left : WorldState) (restart : Step) (untold first : List Step) (ls : List Line) (new : List DatagramValue) → restart.line ≡ lines.Restarted number → Stands w o T → Stands left o (first ++ T) → left.bag ≡ w.bag ++ new
      → AllByRecursion (λ s. IsOwn number s.event) (untold ++ first) → ArePrinted first ls → AllByRecursion (IsUnforged o.config given sent number) (arrivals (untold ++ first)) → LegalTrace o ((untold ++ first) ++ T) → TakeGiven o given ((untold ++ first) ++ T) → Clean o ((untold ++ first) ++ T)
      → AreAllTold o (restart ∷ (untold ++ first) ++ T) (ls ++ printed) (sent ++ new)
  life_tells w left restart untold first ls new line before after bag own is unforged legal take clean = record {
    sent_are = more_sent (restart ∷ untold ++ first) ls new (λ g has m read.
        subst (λ (l : List Step). WasTold o (restart ∷ l) (ls ++ printed) m) (sym (append_assoc untold first T))
        (told_still o (restart ∷ untold) (first ++ T) [] (ls ++ printed) m
        (datagrams_told w left o T first (ls ++ printed) new before after (sends_told first ls printed is) bag g has m read)));
    accepted_are = λ server x has. told_still o [] (restart ∷ (untold ++ first) ++ T) ls printed x.message
        (restarted_told o ((untold ++ first) ++ T) restart number printed line (accepted_told o given T printed sent told.sent_are number (untold ++ first) own legal take unforged told.accepted_are) server x has);
    replies_are = more_replied (restart ∷ untold ++ first) ls new (λ g has n read may.
        subst (λ (l : List Step). WasReplied o (restart ∷ l) (ls ++ printed) g.from g.to n) (sym (append_assoc untold first T))
        (replied_still o (restart ∷ untold) (first ++ T) [] (ls ++ printed) g.from g.to n
        (datagrams_replied w left o T first (ls ++ printed) new before after (replies_told first ls printed is) bag g has n read may)));
    counts_are = more_counted o (restart ∷ (untold ++ first) ++ T) ls printed (restarted_counts o ((untold ++ first) ++ T) restart number printed line
        (counts_told o given T printed sent told.replies_are number before.steps.legal before.steps.network (clean_before (untold ++ first) T clean) (untold ++ first) own legal take unforged told.counts_are));
    since = λ server. life_told o T number restart (untold ++ first) line own legal server ls printed (told.since server);
  }
