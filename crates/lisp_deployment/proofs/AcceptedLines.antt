-- What a Map-Server accepted in its present life it told: only what it did before a crash may have been told to nobody.
use Rattle.std.proofs.Common.{◌≡◌, ◌⊎◌, inl, inr, ℕ, Bool, true, false, true≢false, List, [], ◌∷◌, ◌++◌, Option, refl, sym, ap, subst, ◌∙◌}
use Rattle.std.specs.Prelude.{◌≢◌, ◌==◌}
use Rattle.std.specs.List.{AllByRecursion, Contains}
use Rattle.std.proofs.lemmas.Bool.Decides.{Decides-eqb}
use Rattle.std.proofs.lemmas.List.Elements.{Contains-append_left, Contains-append_right}
use Rattle.lisp_records.specs.declared.router.RouterId.{RouterId}
use Rattle.lisp_model.specs.declared.event.Event.TheVariants as events
use Rattle.lisp_model.specs.declared.line.Line.{Line}
use Rattle.lisp_model.specs.declared.line.Line.TheVariants as lines
use Rattle.lisp_model.specs.Context.{Context}
use Rattle.lisp_model.specs.Legal.{MayCome, LegalTrace, context_of}
use Rattle.lisp_model.specs.Trace.{EventValue, Step, Opening}
use Rattle.lisp_model.proofs.ListLemmas.{at_head, in_tail}
use Rattle.lisp_client.specs.Steps.{IsIn, StartsAnew}
use Rattle.lisp_turns.specs.Act.{numbered}
use Rattle.lisp_turns.specs.Part.{IsOwn, IsQuiet}

-- each line of acceptance since a Map-Server's last start was printed
abbrev pub ToldSince : ℕ → List Line → List Step → Type 0
ToldSince server printed T = (t : Step) (before : List Step) (at : IsIn T t before) (router : RouterId) (key nonce : ℕ) (reply : Option ℕ) → t.line ≡ lines.Accepted server router key nonce reply
    → ((r : Step) → Contains at.after r → StartsAnew r.line server → ⊥) → Contains printed (numbered 0 t.line)

-- a step is the last one, or one of those before
last_or_before : (x : Step) (T : List Step) (t : Step) (before : List Step) (at : IsIn (x ∷ T) t before) → (x ≡ t) ⊎ ((there : IsIn T t before) × (at.after ≡ x ∷ there.after))
last_or_before x T t before at = by at.after at.splits
  where
    by : (after : List Step) → x ∷ T ≡ after ++ t ∷ before → (x ≡ t) ⊎ ((there : IsIn T t before) × (after ≡ x ∷ there.after))
    by [] splits = inl (let same : x ≡ t = cc in same)
    by (y ∷ ys) splits =
        let first : x ≡ y = cc in
        let rest : T ≡ ys ++ t ∷ before = cc in
        inr (record { after = ys; splits = rest }, ap (λ (z : Step). z ∷ ys) (sym first))

module _ (server : ℕ) (printed : List Line) where
  -- a step whose own line of acceptance was printed
  one_more : (s : Step) (T : List Step) → ((router : RouterId) (key nonce : ℕ) (reply : Option ℕ) → s.line ≡ lines.Accepted server router key nonce reply → Contains printed (numbered 0 s.line))
      → ToldSince server printed T → ToldSince server printed (s ∷ T)
  one_more s T its before t earlier at router key nonce reply is none = by (last_or_before s T t earlier at)
    where
      by : (s ≡ t) ⊎ ((there : IsIn T t earlier) × (at.after ≡ s ∷ there.after)) → Contains printed (numbered 0 t.line)
      by (inl same) = subst (λ (x : Step). Contains printed (numbered 0 x.line)) same (its router key nonce reply (ap (λ (x : Step). x.line) same ∙ is))
      by (inr (there, after_is)) = before t earlier there router key nonce reply is (λ r has. none r (subst (λ (l : List Step). Contains l r) (sym after_is) (in_tail s there.after r has)))

  -- a restart
  restarted : (s : Step) (T : List Step) → s.line ≡ lines.Restarted server → ToldSince server printed (s ∷ T)
  restarted s T line t earlier at router key nonce reply is none = by (last_or_before s T t earlier at)
    where
      clash : lines.Restarted server ≡ lines.Accepted server router key nonce reply → ⊥
      clash e = absurd cc

      by : (s ≡ t) ⊎ ((there : IsIn T t earlier) × (at.after ≡ s ∷ there.after)) → Contains printed (numbered 0 t.line)
      by (inl same) = absurd (clash (sym line ∙ ap (λ (x : Step). x.line) same ∙ is))
      by (inr (there, after_is)) = absurd (none s (subst (λ (l : List Step). Contains l s) (sym after_is) (at_head s there.after)) (subst (λ (l : Line). StartsAnew l server) (sym line) refl))

  -- steps of which all were told
  all_more : (steps T : List Step) → ((s : Step) → Contains steps s → IsQuiet s.line ⊎ Contains printed (numbered 0 s.line)) → ToldSince server printed T → ToldSince server printed (steps ++ T)
  all_more [] T told before = before
  all_more (s ∷ steps) T told before = one_more s (steps ++ T) (λ router key nonce reply is. by router key nonce reply is (told s (at_head s steps))) (all_more steps T (λ x has. told x (in_tail s steps x has)) before)
    where
      by : (router : RouterId) (key nonce : ℕ) (reply : Option ℕ) → s.line ≡ lines.Accepted server router key nonce reply → IsQuiet s.line ⊎ Contains printed (numbered 0 s.line) → Contains printed (numbered 0 s.line)
      by router key nonce reply is (inl quiet) = absurd (subst IsQuiet is quiet)
      by router key nonce reply is (inr found) = found

-- more lines
more_lines : (server : ℕ) (more printed : List Line) (T : List Step) → ToldSince server printed T → ToldSince server (more ++ printed) T
more_lines server more printed T told t before at router key nonce reply is none = Contains-append_right more printed (numbered 0 t.line) (told t before at router key nonce reply is none)

pub turn_told : (server : ℕ) (more printed : List Line) (steps T : List Step) → ((s : Step) → Contains steps s → IsQuiet s.line ⊎ Contains more (numbered 0 s.line)) → ToldSince server printed T
    → ToldSince server (more ++ printed) (steps ++ T)
turn_told server more printed steps T told before = all_more server (more ++ printed) steps T (λ s has. by s (told s has)) (more_lines server more printed T before)
  where
    by : (s : Step) → IsQuiet s.line ⊎ Contains more (numbered 0 s.line) → IsQuiet s.line ⊎ Contains (more ++ printed) (numbered 0 s.line)
    by s (inl quiet) = inl quiet
    by s (inr found) = inr (Contains-append_left more printed (numbered 0 s.line) found)

-- who accepts in an event of a node is that node
own_accepts : (t : Context) (number : ℕ) (e : EventValue) → IsOwn number e → (server : ℕ) (router : RouterId) (key nonce : ℕ) (reply : Option ℕ) → MayCome t e (lines.Accepted server router key nonce reply) → server ≡ number
own_accepts t number (events.Junk to from bytes) own server router key nonce reply row = sym row.arrives.acts.acts ∙ row.acts ∙ own
own_accepts t number (events.Deliver k fate) own server router key nonce reply row = absurd own
own_accepts t number _ own server router key nonce reply row = absurd row

module _ (o : Opening) (T : List Step) (number server : ℕ) (differs : server ≢ number) (printed : List Line) where
  by_another : (steps : List Step) → AllByRecursion (λ s. IsOwn number s.event) steps → LegalTrace o (steps ++ T) → ToldSince server printed T → ToldSince server printed (steps ++ T)
  by_another [] own legal before = before
  by_another (s ∷ steps) own legal before = one_more server printed s (steps ++ T)
      (λ router key nonce reply is. absurd (differs (own_accepts (context_of o (steps ++ T) s) number s.event own.0 server router key nonce reply (subst (λ (line : Line). MayCome (context_of o (steps ++ T) s) s.event line) is legal.0.row))))
      (by_another steps own.1 legal.1 before)

-- steps of a node whose life ended then, and its restart
pub life_told : (o : Opening) (T : List Step) (number : ℕ) (restart : Step) (steps : List Step) → restart.line ≡ lines.Restarted number → AllByRecursion (λ s. IsOwn number s.event) steps → LegalTrace o (steps ++ T)
    → (server : ℕ) (more printed : List Line) → ToldSince server printed T → ToldSince server (more ++ printed) (restart ∷ steps ++ T)
life_told o T number restart steps line own legal server more printed before = by (server == number) refl
  where
    clash : (router : RouterId) (key nonce : ℕ) (reply : Option ℕ) → lines.Restarted number ≡ lines.Accepted server router key nonce reply → ⊥
    clash router key nonce reply e = absurd cc

    by : (b : Bool) → (server == number) ≡ b → ToldSince server (more ++ printed) (restart ∷ steps ++ T)
    by true same = restarted server (more ++ printed) restart (steps ++ T) (line ∙ ap (λ (n : ℕ). lines.Restarted n) (sym ((Decides-eqb server number).0 same)))
    by false other = one_more server (more ++ printed) restart (steps ++ T) (λ router key nonce reply is. absurd (clash router key nonce reply (sym line ∙ is)))
        (by_another o T number server (λ e. true≢false (sym ((Decides-eqb server number).1 e) ∙ other)) (more ++ printed) steps own legal (more_lines server more printed T before))
