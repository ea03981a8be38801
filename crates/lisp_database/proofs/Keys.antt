-- A row is that of one pair.
use Rattle.std.proofs.Common.{◌≡◌, ℕ, pos, Bool, true, false, cond, List, [], ◌∷◌, ◌++◌, codes, Some, Ordering, Less, Equal, Greater, refl, sym, ◌∙◌, true≢false}
use Rattle.std.specs.Int.{w64, to_be_bytes}
use Rattle.std.specs.Ordering.{is_eq}
use Rattle.std.proofs.lemmas.Bool.{and_parts, and_from}
use Rattle.std.proofs.lemmas.Cmp.{tied_itself}
use Rattle.std.proofs.lemmas.Map.Lookups.{exact_bytes, exact_signed}
use Rattle.hex.specs.Hex.{IsBytes, encode_lower}
use Rattle.sqlite.specs.declared.types.Value.{Value}
use Rattle.sqlite.specs.declared.types.Value.TheVariants.{Null, Int, Text}
use Rattle.sqlite.specs.Order.{Row, value_cmp}
use Rattle.sqlite.specs.Ops.{binary, from_truth, is_true, is_null}
use Rattle.sqlite.specs.Tree.{rowid}
use Rattle.sqlite.specs.Collation.TheVariants.{Binary}
use Rattle.sqlite_value.specs.Keys.{plain, first_key}
use Rattle.sqlite_value.proofs.OrderLemmas.{value_cmp_total, value_cmp-Int, value_cmp-Text}
use Rattle.sqlite_schema.specs.Rules.{equal, agree}
use Rattle.sqlite_rules.proofs.KeyLemmas.{agree_back, agree_chain}
use Rattle.lisp_nonces.specs.declared.pair.PairKind.{PairKind}
use Rattle.lisp_nonces.specs.declared.pair.PairKind.TheVariants.{Sent, Received, Notice}
use Rattle.lisp_nonces.specs.declared.pair.Pair.{Pair}
use Rattle.lisp_store.specs.PairName.{IsPair, AreBytes, kind_letter, pair_name}
use Rattle.lisp_store.proofs.PairNames as names
use Rattle.lisp_database.specs.Columns.{key_of, row_of, kind_word}
use Rattle.lisp_database.specs.Schema.{key_places}
use Rattle.lisp_database.specs.Kept.{is_row_of}

pub bytes_pass : (xs : List ℕ) → IsBytes xs → AreBytes xs
bytes_pass = names.bytes_pass

-- a test that holds is a tie
tied : (null : Bool) (c : Ordering) → is_true (cond null Null (from_truth (Some (is_eq c)))) ≡ true → c ≡ Equal
tied true c h = absurd (true≢false (sym h))
tied false Less h = absurd (true≢false (sym h))
tied false Equal h = refl
tied false Greater h = absurd (true≢false (sym h))

pub tie : (a b : Value) → equal Binary a b ≡ true → value_cmp a b ≡ Equal
unfolding binary
tie a b h = tied _ (value_cmp a b) h

pub alike : (v : Value) → is_null v ≡ false → equal Binary v v ≡ true
unfolding binary
alike v some = rw (some, tied_itself value_cmp_total v) refl

-- a row that begins with the columns of a pair is that of the pair
pub is_its : (id : Value) (pair : Pair) (nonce : ℕ) → is_row_of pair (id ∷ row_of pair nonce) ≡ true
unfolding first_key
is_its id pair nonce = and_from _ _ (alike _ refl) (and_from _ _ (alike _ refl) (and_from _ _ (alike _ refl) (and_from _ _ (alike _ refl) refl)))

-- two rows that agree in their rowids
pub ids_tie : (a b : Row) → agree plain (0 ∷ []) a (0 ∷ []) b ≡ true → value_cmp (rowid a) (rowid b) ≡ Equal
unfolding first_key
ids_tie a b h = tie (rowid a) (rowid b) (and_parts _ _ h).0

same_text : (s t : List ℕ) → equal Binary (Text s) (Text t) ≡ true → s ≡ t
same_text s t h = exact_bytes s t (sym (value_cmp-Text s t) ∙ tie (Text s) (Text t) h)

same_number : (m n : ℕ) → equal Binary (Int (pos m)) (Int (pos n)) ≡ true → m ≡ n
same_number m n h = let same = exact_signed (pos m) (pos n) (sym (value_cmp-Int (pos m) (pos n)) ∙ tie (Int (pos m)) (Int (pos n)) h) in cc

same_kind : (a b : PairKind) → kind_word a ≡ kind_word b → a ≡ b
same_kind Sent Sent h = refl
same_kind Sent Received h = absurd (cc)
same_kind Sent Notice h = absurd (cc)
same_kind Received Sent h = absurd (cc)
same_kind Received Received h = refl
same_kind Received Notice h = absurd (cc)
same_kind Notice Sent h = absurd (cc)
same_kind Notice Received h = absurd (cc)
same_kind Notice Notice h = refl

-- their parts are the same, so their names are
pub one_pair : (p q : Pair) → IsPair p → IsPair q → (row : Row) → is_row_of p row ≡ true → is_row_of q row ≡ true → p ≡ q
unfolding first_key pair_name
one_pair p q p_is q_is row of_p of_q =
    let places : List ℕ = 2 ∷ 1 ∷ 3 ∷ 0 ∷ [] in
    let all = agree_chain plain places key_places places (key_of p) row (key_of q) (agree_back plain key_places places row (key_of p) of_p) of_q in
    let one = and_parts _ _ all in
    let two = and_parts _ _ one.1 in
    let three = and_parts _ _ two.1 in
    let four = and_parts _ _ three.1 in
    let xtr = same_text (encode_lower p.router.xtr) (encode_lower q.router.xtr) one.0 in
    let site = same_text (encode_lower (to_be_bytes w64 p.router.site)) (encode_lower (to_be_bytes w64 q.router.site)) two.0 in
    let key = same_number p.key q.key three.0 in
    let kind = same_kind p.kind q.kind (same_text (kind_word p.kind) (kind_word q.kind) four.0) in
    names.one_pair p q p_is q_is (λ i. kind_letter (kind i) ++ codes "-" ++ site i ++ codes "-" ++ xtr i ++ codes "-" ++ encode_lower (key i ∷ []) ++ codes ".nonce")
