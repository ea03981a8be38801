-- The nonces that a Map-Server says that it accepted rise over all its lives, since all lines are of one legal trace.
use Rattle.std.proofs.Common.{◌≡◌, inl, inr, ℕ, ◌<◌, Bool, true, false, cond, List, [], ◌∷◌, ◌++◌, map, refl, sym, ap, subst, ◌∙◌}
use Rattle.std.specs.Prelude.{Decides, ◌==◌, ◌&&◌, if◌then◌else◌}
use Rattle.std.specs.List.{filter}
use Rattle.std.proofs.lemmas.Bool.Decides.{Decides-and, Decides-eqb}
use Rattle.std.proofs.lemmas.List.{append_assoc, map-append}
use Rattle.lisp_records.specs.declared.router.RouterId.{RouterId}
use Rattle.lisp_records.specs.Router.{router_eq}
use Rattle.lisp_records.proofs.RouterLaws.{router_eq-Decides}
use Rattle.lisp_messages.specs.Message.{MapRegisterValue}
use Rattle.lisp_nonces.specs.declared.pair.Pair.{Pair}
use Rattle.lisp_admission.specs.Pairs.{router_of, pair_of}
use Rattle.lisp_model.specs.declared.line.Line.{Line}
use Rattle.lisp_model.specs.declared.line.Line.TheVariants as lines
use Rattle.lisp_model.specs.Accepted.{acceptances, acceptances_after, acceptances_in_step, nonces_of}
use Rattle.lisp_model.specs.Held.{Acceptance, is_of_pair}
use Rattle.lisp_model.specs.Legal.{LegalTrace}
use Rattle.lisp_model.specs.Promises.{Falls}
use Rattle.lisp_model.specs.Trace.{Step, Opening}
use Rattle.lisp_refinement.specs.World.{WorldState}
use Rattle.lisp_client.specs.Steps.{Arrives}
use Rattle.lisp_client.proofs.Steps.{adds, taken_of, accepting}
use Rattle.lisp_client.proofs.Promise.{pair_at, nonces_of-own}
use Rattle.lisp_turns.specs.Act.{numbered}
use Rattle.lisp_turns.specs.Acts.{acts_calls}
use Rattle.lisp_turns.specs.Part.{ArePrinted, lines_of}
use Rattle.lisp_deployment.specs.Deeds.{Deed, Turn, Life, IsOf, AreOf}
use Rattle.lisp_deployment.specs.Deployment.{IsAmong}
use Rattle.lisp_deployment.specs.Printed.{lines_in, all_lines, accepted_nonce, accepted_nonces, PrintedNoncesRise}
use Rattle.lisp_deployment.proofs.Deeds.{deployments_have_traces}
use Rattle.lisp_deployment.proofs.Among.{among_itself, among_after, among_front, among_both, contains_among}

falls_among : (xs ys : List ℕ) → IsAmong xs ys → Falls ys → Falls xs
falls_among [] ys among falls = tt
falls_among (x ∷ xs) [] among falls = absurd among
falls_among (x ∷ xs) (y ∷ ys) (inl (same, among)) falls = ((λ m has. subst (λ z. m < z) same (falls.0 m (contains_among xs ys m among has))), falls_among xs ys among falls.1)
falls_among (x ∷ xs) (y ∷ ys) (inr among) falls = falls_among (x ∷ xs) ys among falls.1

-- the lines of steps, as they are printed; what was printed of them, and in deeds, is among those
abbrev pub told_lines : List Step → List Line
told_lines steps = map (λ s. numbered 0 s.line) steps

printed_among : (steps : List Step) (ls : List Line) → ArePrinted steps ls → IsAmong ls (told_lines steps)
printed_among [] ls is = subst (λ (l : List Line). IsAmong l []) (sym is) tt
printed_among (s ∷ steps) ls (inl (quiet, printed)) = among_after ls (told_lines steps) (numbered 0 s.line) (printed_among steps ls printed)
printed_among (s ∷ steps) ls (inr (line, rest, is, same, printed)) = subst (λ (l : List Line). IsAmong l (told_lines (s ∷ steps))) (sym is) (inl (sym same, printed_among steps rest printed))

deed_among : (deed : Deed) (old new : WorldState) (o : Opening) (T steps : List Step) → IsOf deed old new o T steps → IsAmong (lines_in deed) (told_lines steps)
deed_among (Turn number calls) old new o T steps part = printed_among steps (lines_of calls) part.printed
deed_among (Life number told) old new o T steps life =
    subst (λ (l : List Line). IsAmong (lines_of (acts_calls told)) l) (sym (ap told_lines life.is ∙ map-append (λ (s : Step). numbered 0 s.line) (life.restart ∷ life.untold) life.first))
    (among_front (lines_of (acts_calls told)) (told_lines (life.restart ∷ life.untold)) (told_lines life.first) (printed_among life.first (lines_of (acts_calls told)) life.printed))

pub deeds_among : (deeds : List Deed) (old new : WorldState) (o : Opening) (T steps : List Step) → AreOf deeds old new o T steps → IsAmong (all_lines deeds) (told_lines steps)
deeds_among [] old new o T steps are = tt
deeds_among (deed ∷ earlier) old new o T steps (between, first, second, are, is_of, is) =
    subst (λ (l : List Line). IsAmong (all_lines (deed ∷ earlier)) l) (sym (ap told_lines is ∙ map-append (λ (s : Step). numbered 0 s.line) second first))
    (among_both (lines_in deed) (told_lines second) (all_lines earlier) (told_lines first) (deed_among deed between new o (first ++ T) second is_of) (deeds_among earlier old between o T first are))

module _ (server : ℕ) (router : RouterId) (key : ℕ) where
  abbrev pub nonce_in : Line → List ℕ
  nonce_in line = accepted_nonce server router key line

  abbrev pub nonces : List Line → List ℕ
  nonces ls = accepted_nonces server router key ls

  abbrev step_nonces : List Step → List ℕ
  step_nonces steps = nonces (map (λ s. s.line) steps)

  numbered_nonce : (n : ℕ) (line : Line) → nonce_in (numbered n line) ≡ nonce_in line
  numbered_nonce n (lines.Accepted server router key nonce datagram) = refl
  numbered_nonce n _ = refl

  pub nonces_append : (xs ys : List Line) → nonces (xs ++ ys) ≡ nonces xs ++ nonces ys
  nonces_append [] ys = refl
  nonces_append (x ∷ xs) ys = ap (λ (ns : List ℕ). nonce_in x ++ ns) (nonces_append xs ys) ∙ sym (append_assoc (nonce_in x) (nonces xs) (nonces ys))

  -- those of printed lines are among those of the steps
  nonces_among : (ls ms : List Line) → IsAmong ls ms → IsAmong (nonces ls) (nonces ms)
  nonces_among [] ms among = tt
  nonces_among (l ∷ ls) [] among = absurd among
  nonces_among (l ∷ ls) (m ∷ ms) (inl (same, among)) = subst (λ (x : Line). IsAmong (nonces (x ∷ ls)) (nonces (m ∷ ms))) same
      (among_both (nonce_in m) (nonce_in m) (nonces ls) (nonces ms) (among_itself (nonce_in m)) (nonces_among ls ms among))
  nonces_among (l ∷ ls) (m ∷ ms) (inr among) = among_front (nonces (l ∷ ls)) (nonce_in m) (nonces ms) (nonces_among (l ∷ ls) ms among)

  numbered_nonces : (steps : List Step) → nonces (told_lines steps) ≡ step_nonces steps
  numbered_nonces [] = refl
  numbered_nonces (s ∷ steps) = λ i. numbered_nonce 0 s.line i ++ numbered_nonces steps i

  -- the lines of a legal trace say what was accepted
  abbrev pair : Pair
  pair = pair_at router key

  its_pair : (m : MapRegisterValue) → router_of m ≡ router → m.key_id ≡ key → pair ≡ pair_of m
  its_pair m who under = λ i. pair_at (sym who i) (sym under i)

  front : (us : List ℕ) (new old : List Acceptance) → IsAmong us (nonces_of pair old) → IsAmong us (nonces_of pair (new ++ old))
  front us [] old among = among
  front us (a ∷ new) old among = by (is_of_pair pair a) (front us new old among)
    where
      by : (b : Bool) → IsAmong us (nonces_of pair (new ++ old)) → IsAmong us (map (λ (x : Acceptance). x.message.nonce) (cond b (a ∷ filter (is_of_pair pair) (new ++ old)) (filter (is_of_pair pair) (new ++ old))))
      by true rest = among_after us (nonces_of pair (new ++ old)) a.message.nonce rest
      by false rest = rest

  grows : (us : List ℕ) (line : Line) (new old : List Acceptance) → IsAmong us (nonces_of pair old) → IsAmong us (nonces_of pair (acceptances_after line new server old))
  grows us (lines.Accepted node who under nonce reply) new old among = by (node == server)
    where
      by : (b : Bool) → IsAmong us (nonces_of pair (if b then new ++ old else old))
      by true = front us new old among
      by false = among
  grows us _ new old among = among

  abbrev accepted : Opening → List Step → List ℕ
  accepted o T = nonces_of pair (acceptances o T server)

  pub its_number : (node : ℕ) (who : RouterId) (under : ℕ) → Decides ((node == server) && (router_eq who router && (under == key))) ((node ≡ server) × ((who ≡ router) × (under ≡ key)))
  its_number node who under = Decides-and _ _ (Decides-eqb node server) (Decides-and _ _ (router_eq-Decides who router) (Decides-eqb under key))

  trace_among : (o : Opening) (T : List Step) → LegalTrace o T → IsAmong (step_nonces T) (accepted o T)
  trace_among o [] legal = tt
  trace_among o (s ∷ T) legal = at s.line refl (trace_among o T legal.1)
    where
      stays : IsAmong (step_nonces T) (accepted o T) → IsAmong (step_nonces T) (accepted o (s ∷ T))
      stays before = grows (step_nonces T) s.line (acceptances_in_step o T s) (acceptances o T server) before

      taken : (nonce : ℕ) → (arrives : Arrives o s T router key nonce) → acceptances o (s ∷ T) server ≡ taken_of o s T router key nonce arrives ∷ acceptances o T server
          → IsAmong (step_nonces T) (accepted o T) → IsAmong (nonce ∷ step_nonces T) (accepted o (s ∷ T))
      taken nonce arrives is before = subst (λ (ns : List ℕ). IsAmong (nonce ∷ step_nonces T) ns)
          (sym (ap (nonces_of pair) is ∙ nonces_of-own pair (taken_of o s T router key nonce arrives) (acceptances o T server) (its_pair arrives.message arrives.who arrives.under)))
          (inl (arrives.number, before))

      at : (line : Line) → s.line ≡ line → IsAmong (step_nonces T) (accepted o T) → IsAmong (nonce_in line ++ step_nonces T) (accepted o (s ∷ T))
      at (lines.Accepted node who under nonce reply) is before = by ((node == server) && (router_eq who router && (under == key))) refl
        where
          by : (b : Bool) → ((node == server) && (router_eq who router && (under == key))) ≡ b → IsAmong ((if b then nonce ∷ [] else []) ++ step_nonces T) (accepted o (s ∷ T))
          by true e =
              let same = (its_number node who under).0 e in
              let line_is : s.line ≡ lines.Accepted server router key nonce reply = is ∙ (λ i. lines.Accepted (same.0 i) (same.1.0 i) (same.1.1 i) nonce reply) in
              let arrives = accepting o s T legal.0 server router key nonce reply line_is in
              taken nonce arrives (adds o s T server router key nonce reply line_is arrives) before
          by false e = stays before
      at _ is before = stays before

pub printed_nonces_rise : (A : Type 0) → PrintedNoncesRise A
printed_nonces_rise A config stores begun d deeds network begins did server router key =
    let all = deployments_have_traces A config stores begun d deeds network begins did in
    let has = all.3 in
    falls_among (accepted_nonces server router key (all_lines deeds)) (step_nonces server router key has.trace)
    (subst (λ (ns : List ℕ). IsAmong (nonces server router key (all_lines deeds)) ns) (numbered_nonces server router key has.trace)
    (nonces_among server router key (all_lines deeds) (told_lines has.trace) (deeds_among deeds all.0 has.network all.1 [] has.trace has.are_of)))
    (falls_among (step_nonces server router key has.trace) (accepted server router key all.1 has.trace) (trace_among server router key all.1 has.trace has.stands.stands.steps.legal)
    (has.headline.nonces_rise server (pair server router key)))
