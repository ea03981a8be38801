-- Over a clean trace each notice that stands went to where its router was heard, under a secret that the server holds.
use Rattle.std.proofs.Common.{◌≡◌, ℕ, zero, suc, Bool, true, false, cond, List, [], ◌∷◌, ◌++◌, map, Some, refl, sym, ap, subst, inl, inr, ◌∙◌}
use Rattle.std.specs.Prelude.{◌≢◌, ◌⊎◌, ◌==◌, not, if◌then◌else◌, slice_get}
use Rattle.std.specs.List.{AllPairs, Contains, filter}
use Rattle.std.specs.Option.{option_map, option_to_list}
use Rattle.lisp_records.specs.declared.router.RouterId.{RouterId}
use Rattle.std.proofs.lemmas.Bool.Decides.{Decides-eqb}
use Rattle.std.proofs.lemmas.Option.{none-some}
use Rattle.lisp_records.specs.Router.{router_eq}
use Rattle.lisp_records.proofs.RouterLaws.{router_eq-Decides}
use Rattle.lisp_policy.specs.Configuration.{ConfigValue}
use Rattle.lisp_policy.specs.Site.{SiteValue}
use Rattle.lisp_admission.specs.Pairs.{router_of}
use Rattle.lisp_model.specs.Trace.{Step, Opening, addresses, address_at, is_router, router_at, sites, sites_after, clock, Line}
use Rattle.lisp_model.specs.Held.{heard_last}
use Rattle.lisp_model.specs.Timers.{Notice, notices, notices_after, notices_to_others, resent_at}
use Rattle.lisp_model.specs.Bag.{Item, arrival_in, notice_item, items_added, past, bag, since_start}
use Rattle.lisp_model.specs.Clean.{Clean}
use Rattle.lisp_model.specs.Notifying.{IsNotice}
use Rattle.lisp_model.specs.Legal.{MayCome, LegalTrace, context_of}
use Rattle.lisp_model.proofs.ChangeLemmas.{get_last}
use Rattle.lisp_model.proofs.CleanLemmas.{in_find, from_map}
use Rattle.lisp_model.proofs.HearingLemmas.{find_true}
use Rattle.lisp_model.proofs.LimitLaws.{since_accepted, Signs, Keeps, Renews, signs_on, sites_step, since_signs}
use Rattle.lisp_model.proofs.ListLemmas.{at_head, in_tail, head_or_tail, in_none, cases}
use Rattle.lisp_model.proofs.Origins.{were_sent, ReadsBack}
use Rattle.lisp_model.proofs.ReplyOrigins.{entry_is}
use Rattle.lisp_model.proofs.Locality.{same_number}
use Rattle.lisp_model.proofs.Rows.{Following, tells}

-- a longer list has the same items at the same places
module _ {X : Type 0} where
  get_more : (xs ys : List X) (k : ℕ) (x : X) → slice_get xs k ≡ Some x → slice_get (xs ++ ys) k ≡ Some x
  get_more [] ys k x e = absurd (none-some _ e)
  get_more (y ∷ xs) ys zero x e = e
  get_more (y ∷ xs) ys (suc k) x e = get_more xs ys k x e

  filter_case : (y x : X) (ys zs : List X) (b : Bool) → Contains (cond b (y ∷ zs) zs) x → (Contains zs x → Contains ys x) → Contains (y ∷ ys) x
  filter_case y x ys zs true has later = cases (head_or_tail y zs x has)
      (λ same. subst (λ (z : X). Contains (y ∷ ys) z) (sym same) (at_head y ys))
      (λ more. in_tail y ys x (later more))
  filter_case y x ys zs false has later = in_tail y ys x (later has)

  pub in_filter : (p : X → Bool) (xs : List X) (x : X) → Contains (filter p xs) x → Contains xs x
  in_filter p [] x has = has
  in_filter p (y ∷ ys) x has = filter_case y x ys (filter p ys) (p y) has (in_filter p ys x)

-- what a line leaves of a server's notices: what they were, or each again, or those of the other routers, or none; or one more
module _ (c : ConfigValue) (now k : ℕ) (old : List Notice) (P : List Notice → Type 0) (same : P old) (again : (router : RouterId) → P (map (resent_at router now) old)) (fewer : (router : RouterId) → P (notices_to_others router old)) (none : P []) where
  either : (new : List Notice) → P new → (b : Bool) → P (if b then new else old)
  either new holds true = holds
  either new holds false = same

  pub notices_left : (line : Line)
      → ((router key nonce datagram : ℕ) → line ≡ Line.Notice k router key nonce datagram → P (record { router = (router_at c router).me; key = key; nonce = nonce; datagram = datagram; moments = now ∷ [] } ∷ notices_to_others (router_at c router).me old))
      → P (notices_after c line now k old)
  notices_left (Line.Notice server router key nonce datagram) more = at (server == k) refl
    where
      at : (b : Bool) → (server == k) ≡ b → P (if b then record { router = (router_at c router).me; key = key; nonce = nonce; datagram = datagram; moments = now ∷ [] } ∷ notices_to_others (router_at c router).me old else old)
      at true is = more router key nonce datagram (ap (λ (n : ℕ). Line.Notice n router key nonce datagram) ((Decides-eqb server k).0 is))
      at false is = same
  notices_left (Line.Resent server router _) more = either (map (resent_at (router_at c router).me now) old) (again (router_at c router).me) (server == k)
  notices_left (Line.Done server router _) more = either (notices_to_others router old) (fewer router) (server == k)
  notices_left (Line.Restarted node) more = either [] none (node == k)
  notices_left (Line.Renewed server _) more = either [] none (server == k)
  notices_left _ more = same

-- one that stands for another router stood before
pub of_others : (router : RouterId) (old : List Notice) (x : Notice) → Contains (notices_to_others router old) x → Contains old x
of_others router old x has = in_filter (λ n. not (router_eq n.router router)) old x has

-- a notice went to where its router was heard, whose site has its key
pub record WentOut (o : Opening) (has : List SiteValue) (items : List Item) (x : Notice) : Type 0 where
  pub item : Item
  pub place : slice_get items x.datagram ≡ Some item
  pub router : ℕ
  pub kind : is_router o.config router ≡ true
  pub to : item.to ≡ address_at o.config router
  pub same : (router_at o.config router).me ≡ x.router
  pub signs : Signs has x.router.site x.key

abbrev pub AllWentOut : Opening → List SiteValue → List Item → List Notice → Type 0
AllWentOut o has items notices = (x : Notice) → Contains notices x → WentOut o has items x

later_out : (o : Opening) (old new : List SiteValue) → Keeps old new → (items more : List Item) (x : Notice) → WentOut o old items x → WentOut o new (items ++ more) x
later_out o old new keeps items more x w = record { item = w.item; place = get_more items more x.datagram w.item w.place; router = w.router; kind = w.kind; to = w.to; same = w.same; signs = signs_on old new x.router.site x.key keeps w.signs }

again_out : (o : Opening) (has : List SiteValue) (items : List Item) (router : RouterId) (now : ℕ) (x : Notice) → WentOut o has items x → WentOut o has items (resent_at router now x)
again_out o has items router now x w = at (router_eq x.router router)
  where
    at : (b : Bool) → WentOut o has items (if b then record x { moments = now ∷ x.moments } else x)
    at true = record { item = w.item; place = w.place; router = w.router; kind = w.kind; to = w.to; same = w.same; signs = w.signs }
    at false = w

module _ (o : Opening) (distinct : AllPairs (λ a b. a ≢ b) (addresses o.config)) (reads : ReadsBack) where
  module _ (T : List Step) (legal : LegalTrace o T) (clean : Clean o T) where
    announced : (s : Step) (server router key nonce datagram now : ℕ) → IsNotice (context_of o T s) server router key nonce datagram
        → WentOut o (sites o T server) (bag o T ++ option_to_list (option_map (notice_item o T (since_start o T server) server router key nonce) (heard_last (router_at o.config router).me (since_start o T server)))) (record { router = (router_at o.config router).me; key = key; nonce = nonce; datagram = datagram; moments = now ∷ [] })
    announced s server router key nonce datagram now a =
        let me : RouterId = (router_at o.config router).me in
        let heard = in_find (λ x. router_eq (router_of x.message) me) (since_start o T server) a.last a.heard in
        let w = were_sent o distinct reads T legal clean server a.last (since_accepted o T server a.last heard) in
        let e = entry_is o T legal w.entry w.sent in
        let named : router_of a.last.message ≡ me = (router_eq-Decides (router_of a.last.message) me).0 (find_true (λ x. router_eq (router_of x.message) me) (since_start o T server) a.last a.heard) in
        record {
          item = notice_item o T (since_start o T server) server router key nonce a.last;
          place = (λ i. slice_get (bag o T ++ option_to_list (option_map (notice_item o T (since_start o T server) server router key nonce) (a.heard i))) (a.place i)) ∙ get_last (bag o T) (notice_item o T (since_start o T server) server router key nonce a.last);
          router = w.entry.router;
          kind = e.kind;
          to = w.from;
          same = sym (ap router_of w.message) ∙ named;
          signs = subst (λ (k : ℕ). Signs (sites o T server) me.site k) (sym a.under) (subst (λ (r : RouterId). Signs (sites o T server) r.site a.last.message.key_id) named (since_signs o T legal server a.last heard));
        }

    module _ (s : Step) (k : ℕ) (old : AllWentOut o (sites o T k) (bag o T) (notices o T k)) where
      abbrev after : List SiteValue
      after = sites_after s.event k (sites o T k)

      module _ (line : Line) (row : MayCome (context_of o T s) s.event line) where
        abbrev items : List Item
        items = items_added o T (past o T) (arrival_in (bag o T) s.event) line

        out_case : Keeps (sites o T k) after ⊎ Renews line k → AllWentOut o after (bag o T ++ items) (notices_after o.config line (clock T) k (notices o T k))
        out_case (inl keeps) = notices_left o.config (clock T) k (notices o T k) (AllWentOut o after (bag o T ++ items)) still again (λ router x has. still x (of_others router (notices o T k) x has)) (λ x has. absurd (in_none x has)) line more
          where
            still : AllWentOut o after (bag o T ++ items) (notices o T k)
            still x has = later_out o (sites o T k) after keeps (bag o T) items x (old x has)

            again : (router : RouterId) → AllWentOut o after (bag o T ++ items) (map (resent_at router (clock T)) (notices o T k))
            again router x has = let found = from_map (resent_at router (clock T)) (notices o T k) x has in
                subst (WentOut o after (bag o T ++ items)) (sym found.2) (again_out o after (bag o T ++ items) router (clock T) found.0 (still found.0 found.1))

            more : (router key nonce datagram : ℕ) → line ≡ Line.Notice k router key nonce datagram
                → AllWentOut o after (bag o T ++ items) (record { router = (router_at o.config router).me; key = key; nonce = nonce; datagram = datagram; moments = clock T ∷ [] } ∷ notices_to_others (router_at o.config router).me (notices o T k))
            more router key nonce datagram is x has = cases (head_or_tail one (notices_to_others (router_at o.config router).me (notices o T k)) x has)
                (λ same. subst (WentOut o after (bag o T ++ items)) (sym same)
                (record { item = new.item; place = new.place; router = new.router; kind = new.kind; to = new.to; same = new.same; signs = signs_on (sites o T k) after one.router.site one.key keeps new.signs }))
                (λ before. still x (of_others (router_at o.config router).me (notices o T k) x before))
              where
                one : Notice
                one = record { router = (router_at o.config router).me; key = key; nonce = nonce; datagram = datagram; moments = clock T ∷ [] }

                new : WentOut o (sites o T k) (bag o T ++ items) one
                new = subst (λ (l : Line). WentOut o (sites o T k) (bag o T ++ items_added o T (past o T) (arrival_in (bag o T) s.event) l) one) (sym is)
                    (announced s k router key nonce datagram (clock T) (subst (λ (l : Line). Following (context_of o T s) s.event l) is (tells (context_of o T s) s.event line row).follows).2)
        out_case (inr renews) = renewed line renews
          where
            renewed : (l : Line) → Renews l k → AllWentOut o after (bag o T ++ items) (notices_after o.config l (clock T) k (notices o T k))
            renewed (Line.Renewed server count) is x has = absurd (in_none x (subst (λ (b : Bool). Contains (if b then [] else notices o T k) x) (ap (λ (n : ℕ). n == k) is ∙ same_number k) has))
            renewed _ is x has = absurd is

  pub all_went_out : (T : List Step) → LegalTrace o T → Clean o T → (k : ℕ) → AllWentOut o (sites o T k) (bag o T) (notices o T k)
  all_went_out [] legal clean k = λ x has. absurd (in_none x has)
  all_went_out (s ∷ T) legal clean k = out_case T legal.1 clean.1 s k (all_went_out T legal.1 clean.1 k) s.line legal.0.row (sites_step o T s s.event s.line legal.0.row k)
