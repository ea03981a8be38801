-- Each notice that stands at a Map-Server is to a router of the configuration.
use Rattle.std.proofs.Common.{◌≡◌, ℕ, Bool, true, false, List, [], ◌∷◌, map, refl, sym, ap, inl, inr, ◌∙◌, subst}
use Rattle.std.specs.Prelude.{◌⊎◌, if◌then◌else◌}
use Rattle.std.specs.List.{Contains}
use Rattle.lisp_records.specs.declared.router.RouterId.{RouterId}
use Rattle.lisp_records.specs.Router.{router_eq}
use Rattle.lisp_model.specs.declared.line.Line.{Line}
use Rattle.lisp_model.specs.declared.line.Line.TheVariants as lines
use Rattle.lisp_model.specs.Trace.{Step, Opening, clock, is_router, router_at}
use Rattle.lisp_model.specs.Timers.{Notice, notices, notices_after, notices_to_others, resent_at}
use Rattle.lisp_model.specs.Legal.{MayCome, context_of, LegalTrace}
use Rattle.lisp_model.proofs.CleanLemmas.{from_map}
use Rattle.lisp_model.proofs.ListLemmas.{head_or_tail, in_none}
use Rattle.lisp_model.proofs.NoticeOrigins.{notices_left, of_others}
use Rattle.lisp_model.proofs.Rows.{Following, tells}

-- a router of the configuration has this identity
pub record IsConfigured (o : Opening) (me : RouterId) : Type 0 where
  pub number : ℕ
  pub kind : is_router o.config number ≡ true
  pub is : (router_at o.config number).me ≡ me

again_router : (router : RouterId) (now : ℕ) (x : Notice) → (resent_at router now x).router ≡ x.router
again_router router now x = at (router_eq x.router router)
  where
    at : (b : Bool) → (if b then record x { moments = now ∷ x.moments } else x).router ≡ x.router
    at true = refl
    at false = refl

module _ (o : Opening) where
  abbrev Configured : List Notice → Type 0
  Configured old = (x : Notice) → Contains old x → IsConfigured o x.router

  configured_case : (T : List Step) (s : Step) (line : Line) → MayCome (context_of o T s) s.event line → (k : ℕ) (old : List Notice) → Configured old → Configured (notices_after o.config line (clock T) k old)
  configured_case T s line row k old known =
      notices_left o.config (clock T) k old Configured known again (λ router x has. known x (of_others router old x has)) (λ x has. absurd (in_none x has)) line more
    where
      again : (router : RouterId) → Configured (map (resent_at router (clock T)) old)
      again router x has =
          let found = from_map (resent_at router (clock T)) old x has in
          subst (IsConfigured o) (sym (ap (λ (y : Notice). y.router) found.2 ∙ again_router router (clock T) found.0)) (known found.0 found.1)

      more : (router key nonce datagram : ℕ) → line ≡ lines.Notice k router key nonce datagram
          → Configured (record { router = (router_at o.config router).me; key = key; nonce = nonce; datagram = datagram; moments = clock T ∷ [] } ∷ notices_to_others (router_at o.config router).me old)
      more router key nonce datagram is x has = both (head_or_tail _ (notices_to_others (router_at o.config router).me old) x has)
        where
          both : (x ≡ record { router = (router_at o.config router).me; key = key; nonce = nonce; datagram = datagram; moments = clock T ∷ [] }) ⊎ Contains (notices_to_others (router_at o.config router).me old) x
              → IsConfigured o x.router
          both (inl same) = record {
            number = router;
            kind = (subst (λ (l : Line). Following (context_of o T s) s.event l) is (tells (context_of o T s) s.event line row).follows).2.kind;
            is = ap (λ (y : Notice). y.router) (sym same);
          }
          both (inr before) = known x (of_others (router_at o.config router).me old x before)

  pub configured : (T : List Step) → LegalTrace o T → (k : ℕ) → Configured (notices o T k)
  configured [] legal k x has = absurd (in_none x has)
  configured (s ∷ T) legal k x has = configured_case T s s.line legal.0.row k (notices o T k) (configured T legal.1 k) x has
