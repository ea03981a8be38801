-- Places of addresses, by the order that is derived for them.
use Rattle.std.proofs.Common.{◌≡◌, ℕ, ◌+◌, ◌<◌, Bool, true, false, cond, List, length, get_or, take, Option, Some, None, refl, sym, ap, subst, ◌∙◌}
use Rattle.std.specs.Bool.{MatchBool}
use Rattle.std.specs.BTreeMap.{BTreeMap, get, Updates}
use Rattle.std.specs.Option.{is_some}
use Rattle.std.specs.Ordering.{eq_by_cmp}
use Rattle.std.specs.Prelude.{◌||◌}
use Rattle.std.specs.declared.cmp.Ordering.{Ordering}
use Rattle.std.proofs.lemmas.List.Folds.{list_any_more}
use Rattle.lisp_records.specs.Address.{addr_cmp}
use Rattle.lisp_records.specs.contracts.address.AddrOrd.TheImpl.{ghosts as derived}
use Rattle.lisp_records.specs.declared.address.Addr.{Addr}
use Rattle.lisp_records.specs.declared.address.Addr.TheVariants.{V4, V6}
use Rattle.lisp_policy.specs.Configuration.{RouterEntryValue}
use Rattle.lisp_statistics.specs.LastRefusals.{NoneRefused, NotesRefusal, is_of_router}

order_of : (a b : Addr) → derived.cmp a b ≡ addr_cmp a b
order_of (V4 a) (V4 b) = refl
order_of (V4 a) (V6 b) = refl
order_of (V6 a) (V4 b) = refl
order_of (V6 a) (V6 b) = refl

same_order : derived.cmp ≡ addr_cmp
same_order i a b = order_of a b i

updates : (old new : BTreeMap Addr (Option ℕ)) (address : Addr) (last : Option (Option ℕ)) → Updates derived.cmp old new address last → Updates addr_cmp old new address last
updates old new address last = subst (λ (cmp : Addr → Addr → Ordering). Updates cmp old new address last) same_order

-- an address has a place by this router, or by an earlier one
place_of : (here earlier : Bool) → ◌≡◌ {A = Option (Option ℕ)} (cond here (Some None) (cond earlier (Some None) None)) (cond (earlier || here) (Some None) None)
place_of true true = refl
place_of true false = refl
place_of false true = refl
place_of false false = refl

-- one more router has a place
pub one_more_place : (routers : List RouterEntryValue) (i : ℕ) (d : RouterEntryValue) (old new : BTreeMap Addr (Option ℕ)) → i < length routers → NoneRefused (take i routers) old
    → Updates derived.cmp old new (get_or routers i d).address (Some None) → NoneRefused (take (i + 1) routers) new
one_more_place routers i d old new within so_far adds address =
    let test : RouterEntryValue → Bool = λ r. eq_by_cmp addr_cmp r.address address in
    let here : Bool = test (get_or routers i d) in
    (updates old new (get_or routers i d).address (Some None) adds).0 address ∙ ap (λ (place : Option (Option ℕ)). cond here (Some None) place) (so_far address)
    ∙ place_of here (is_of_router (take i routers) address) ∙ ap (λ (b : Bool). cond b (Some None) None) (sym (list_any_more test routers i d within))

-- a refusal from an address that has a place, and from one that has none
module _ (old new : BTreeMap Addr (Option ℕ)) (from : Addr) (number : ℕ) where
  by_place : (last : Option (Option ℕ)) → last ≡ get derived.cmp old from → MatchBool (is_some last) (Updates addr_cmp old new from (Some (Some number))) (new ≡ old) → NotesRefusal old new from number
  by_place last found = subst (λ (b : Bool). MatchBool b (Updates addr_cmp old new from (Some (Some number))) (new ≡ old)) (ap is_some (found ∙ ap (λ (cmp : Addr → Addr → Ordering). get cmp old from) same_order))

  pub placed : (last : Option ℕ) → Some last ≡ get derived.cmp old from → Updates derived.cmp old new from (Some (Some number)) → NotesRefusal old new from number
  placed last found updated = by_place (Some last) found (updates old new from (Some (Some number)) updated)

  pub not_placed : None ≡ get derived.cmp old from → new ≡ old → NotesRefusal old new from number
  not_placed = by_place None
