-- The parts of a list together.
use Rattle.std.proofs.Common.{◌≡◌, ℕ, ◌+◌, Bool, true, false, cond, List, [], ◌∷◌, ◌++◌, length, refl, sym, ap, subst, ◌∙◌, append_assoc, arith}
use Rattle.std.specs.Prelude.{if◌then◌else◌}
use Rattle.std.specs.Bool.{MatchBool}
use Rattle.std.specs.BTreeMap.Range.{range_contains}
use Rattle.std.specs.List.{filter, flat_map}
use Rattle.std.specs.Map.{keys_of}
use Rattle.std.specs.declared.ops.Bound.{Bound}
use Rattle.std.specs.declared.ops.Bound.TheVariants.{Unbounded}
use Rattle.std.proofs.lemmas.Grind.{flat_map-append}
use Rattle.std.proofs.lemmas.List.{append-nil, length-append, map-append}
use Rattle.std.proofs.lemmas.Map.Entries.{length-keys_of}
use Rattle.lisp_records.specs.declared.router.RouterId.{RouterId}
use Rattle.lisp_records.specs.Router.{router_cmp}
use Rattle.lisp_policy.specs.Configuration.{ConfigValue}
use Rattle.lisp_lines.specs.Name.{node_name}
use Rattle.lisp_lines.specs.Walk.{up_to_most}
use Rattle.lisp_log.specs.declared.replays.Replay.{Replay}
use Rattle.lisp_statistics.specs.Never.{never_count}
use Rattle.lisp_statistics.specs.Routers.{unheard_text}
use Rattle.lisp_statistics.specs.declared.hearing.Hearing.{Hearing}
use Rattle.lisp_statistics.specs.declared.router_list.RouterList.{RouterList}
use Rattle.lisp_statistics.specs.RouterList.{ArePartsOf, ListPart, PartsListAll, list_end, list_start, listed_line, routers_left}

abbrev Heard : Type 0
Heard = RouterId × Hearing

-- the routers from a bound on
abbrev names_from : Bound RouterId → List RouterId → List RouterId
names_from from routers = filter (range_contains router_cmp from Unbounded) routers

filtered_keys : (p : RouterId → Bool) (es : List Heard) → keys_of (filter (λ e. p e.0) es) ≡ filter p (keys_of es)
filtered_keys p [] = refl
filtered_keys p (e ∷ es) = by (p e.0) ∙ ap (λ (ks : List RouterId). cond (p e.0) (e.0 ∷ ks) ks) (filtered_keys p es)
  where
    by : (b : Bool) → keys_of (cond b (e ∷ filter (λ e. p e.0) es) (filter (λ e. p e.0) es)) ≡ cond b (e.0 ∷ keys_of (filter (λ e. p e.0) es)) (keys_of (filter (λ e. p e.0) es))
    by true = refl
    by false = refl

all_names : (routers : List RouterId) → names_from Unbounded routers ≡ routers
all_names [] = refl
all_names (r ∷ rs) = ap (λ (ks : List RouterId). r ∷ ks) (all_names rs)

more_again : (lines a b : ℕ) → up_to_most (up_to_most (lines + a) + b) ≡ up_to_most (lines + (a + b))
more_again lines a b = omega arith

from_none : (a never runs : ℕ) → up_to_most (up_to_most (0 + a) + never + runs) ≡ up_to_most (a + never + runs)
from_none a never runs = omega arith

abbrev texts : List ListPart → List ℕ
texts parts = flat_map (λ (part : ListPart). part.text) parts

abbrev ending : ConfigValue → ℕ → List RouterId → List Replay → ℕ → ℕ → List ℕ
ending c number routers runs now lines = unheard_text c number now routers runs ++ listed_line (node_name c number) (up_to_most (lines + never_count c number routers + length runs))

-- what the parts that are left list
record Left {A : Type 0} (c : ConfigValue) (number : ℕ) (shown : Heard → List ℕ) (routers : List RouterId) (runs : List Replay) (old : RouterList A) (parts : List ListPart) : Type 0 where
  heard : List Heard
  each : keys_of heard ≡ names_from old.left routers
  text : texts parts ≡ flat_map shown heard ++ ending c number routers runs old.rows.walk.moment (up_to_most (old.lines + length heard))

module _ {A : Type 0} (c : ConfigValue) (number : ℕ) (shown : Heard → List ℕ) (routers : List RouterId) (runs : List Replay) where
  parts_left : (old : RouterList A) (parts : List ListPart) → ArePartsOf c number shown routers runs old parts → Left c number shown routers runs old parts
  parts_left old [] are = absurd are
  parts_left old (part ∷ parts) are = by are.2 refl (λ more. parts_left are.1 parts more)
    where
      new : RouterList A
      new = are.1

      taken : List Heard
      taken = are.3.0

      lines : List ℕ
      lines = flat_map shown taken

      goes_on : new ≡ record old { left = new.left; lines = up_to_most (old.lines + length taken) }
      goes_on = are.3.1.goes_on

      left_names : (list : RouterList A) → keys_of (routers_left list part.heard) ≡ names_from list.left routers
      left_names list = filtered_keys (range_contains router_cmp list.left Unbounded) part.heard ∙ ap (names_from list.left) are.0

      names : names_from old.left routers ≡ keys_of taken ++ names_from new.left routers
      names = sym (left_names old) ∙ ap keys_of are.3.1.left ∙ map-append (λ (e : Heard). e.0) taken (routers_left new part.heard) ∙ ap (λ (ks : List RouterId). keys_of taken ++ ks) (left_names new)

      told : (b : Bool) → are.2 ≡ b → part.text ≡ lines ++ (if b then list_end c number routers new runs else [])
      told b its = are.3.2 ∙ (λ i. lines ++ (if its i then list_end c number (are.0 i) new runs else []))

      rest : (b : Bool) → are.2 ≡ b → MatchBool b (parts ≡ []) (ArePartsOf c number shown routers runs new parts)
      rest b its = subst (λ (b : Bool). MatchBool b (parts ≡ []) (ArePartsOf c number shown routers runs new parts)) its are.4

      by : (b : Bool) → are.2 ≡ b → (ArePartsOf c number shown routers runs new parts → Left c number shown routers runs new parts) → Left c number shown routers runs old (part ∷ parts)
      by true its further = record {
        heard = taken;
        each = sym (names ∙ ap (λ (ks : List RouterId). keys_of taken ++ ks) (sym (left_names new) ∙ ap keys_of (are.3.1.end its)) ∙ append-nil (keys_of taken));
        text = ap (λ (ps : List ListPart). part.text ++ texts ps) (rest true its) ∙ append-nil part.text ∙ told true its ∙ ap (λ (l : RouterList A). lines ++ ending c number routers runs l.rows.walk.moment l.lines) goes_on;
      }
      by false its further =
          let more = further (rest false its) in
          let all = flat_map shown more.heard in
          let last : ℕ → List ℕ = ending c number routers runs old.rows.walk.moment in
          let count = up_to_most (up_to_most (old.lines + length taken) + length more.heard) in record {
            heard = taken ++ more.heard;
            each = map-append (λ (e : Heard). e.0) taken more.heard ∙ ap (λ (ks : List RouterId). keys_of taken ++ ks) more.each ∙ sym names;
            text =
                ap (λ (t : List ℕ). t ++ texts parts) (told false its ∙ append-nil lines)
                ∙ ap (λ (t : List ℕ). lines ++ t) (more.text ∙ ap (λ (l : RouterList A). all ++ ending c number routers runs l.rows.walk.moment (up_to_most (l.lines + length more.heard))) goes_on)
                ∙ sym (append_assoc lines all (last count)) ∙ ap (λ (t : List ℕ). t ++ last count) (sym (flat_map-append shown taken more.heard))
                ∙ ap (λ (n : ℕ). flat_map shown (taken ++ more.heard) ++ last n) (more_again old.lines (length taken) (length more.heard) ∙ ap (λ (n : ℕ). up_to_most (old.lines + n)) (sym (length-append taken more.heard)));
          }

pub parts_list_all : (A : Type 0) → PartsListAll A
parts_list_all A c number shown routers runs rows parts are =
    let all = parts_left c number shown routers runs (list_start rows) parts are in
    let lines = flat_map shown all.heard in
    let ended = unheard_text c number rows.walk.moment routers runs in
    let never = never_count c number routers in
    let each : keys_of all.heard ≡ routers = all.each ∙ all_names routers in record {
      heard = all.heard;
      each = each;
      text = all.text ∙ sym (append_assoc lines ended (listed_line (node_name c number) (up_to_most (up_to_most (0 + length all.heard) + never + length runs)))) ∙ ap (λ (n : ℕ). lines ++ ended ++ listed_line (node_name c number) n)
          (from_none (length all.heard) never (length runs) ∙ ap (λ (n : ℕ). up_to_most (n + never + length runs)) (sym (length-keys_of all.heard) ∙ ap length each));
    }
