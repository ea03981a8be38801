-- What the ends of a Map-Register name: its Key ID, xTR-ID and Site-ID, wherever its records end.
use Rattle.std.proofs.Common.{◌≡◌, ℕ, ◌+◌, ◌-◌, ◌≤◌, nat_lt, false, List, ◌∷◌, ◌++◌, length, take, drop, Option, Some, Result, Ok, Err, refl, ap, ◌∙◌, arith}
use Rattle.std.specs.Prelude.{slice_index}
use Rattle.std.specs.Int.{w64, from_be_bytes, to_be_bytes}
use Rattle.std.proofs.lemmas.Bool.{le-ltb}
use Rattle.std.proofs.lemmas.List.{drop_at, length-append, length-take-le, take_at}
use Rattle.std.proofs.lemmas.Nat.{from_be_bytes-to_be_bytes_8}
use Rattle.lisp_records.specs.Spelling.{IsBytes}
use Rattle.lisp_messages.specs.declared.fault.ReadFault.{ReadFault}
use Rattle.lisp_messages.specs.Head.{head_at}
use Rattle.lisp_messages.specs.declared.head.Head.{Head}
use Rattle.lisp_messages.specs.Message.{MapRegisterValue, MessageValue, Notifies, Registers}
use Rattle.lisp_messages.specs.Reading.{message_at, nonce_of}
use Rattle.lisp_messages.specs.Spelling.{SpellsRegister, common}
use Rattle.lisp_messages.proofs.MessageLaws.{message_takes}
use Rattle.lisp_nonces.specs.declared.pair.Pair.{Pair}
use Rattle.lisp_nonces.specs.declared.pair.PairKind.TheVariants.{Received}
use Rattle.lisp_admission.specs.Pairs.{pair_of}
use Rattle.lisp_embedded.specs.Host.{pair_in, pair_of_message}

-- bytes that have room for a Map-Register, and begin and end as one of this pair
pub record EndsName (bytes : List ℕ) (pair : Pair) : Type 0 where
  pub long : 56 ≤ length bytes
  pub kind : pair.kind ≡ Received
  pub key : slice_index bytes 12 ≡ pair.key
  pub site : from_be_bytes w64 (drop (length bytes - 8) bytes) ≡ pair.router.site
  pub xtr : drop (length bytes - 24) (take (length bytes - 8) bytes) ≡ pair.router.xtr

-- the last of three lists, and the middle one, by their lengths
module _ (front middle back : List ℕ) where
  back_is : drop (length (front ++ middle ++ back) - length back) (front ++ middle ++ back) ≡ back
  back_is = drop_at (front ++ middle) back _ (omega (arith, length-append (front ++ middle) back))

  middle_is : drop (length (front ++ middle ++ back) - (length middle + length back)) (take (length (front ++ middle ++ back) - length back) (front ++ middle ++ back)) ≡ middle
  middle_is =
      let whole = length-append (front ++ middle) back in
      let before = length-append front middle in
      rw (take_at (front ++ middle) back (length (front ++ middle ++ back) - length back) (omega (arith, whole))) (drop_at front middle _ (omega (arith, whole, before)))

-- a Map-Register that is spelled begins and ends as its pair
module _ (bytes : List ℕ) (m : MapRegisterValue) (spells : SpellsRegister bytes m) where
  abbrev front : List ℕ
  front = spells.kind ∷ spells.reserved ∷ spells.flags ∷ common (length m.records) m.nonce m.key_id spells.auth ++ spells.records

  abbrev site : List ℕ
  site = to_be_bytes w64 m.site

  parts : bytes ≡ front ++ m.xtr ++ site
  parts = spells.parts

  spelled_ends : EndsName bytes (pair_of m)
  spelled_ends =
      let whole : length bytes ≡ length (front ++ m.xtr) + 8 = ap length parts ∙ length-append (front ++ m.xtr) site in
      let before : length (front ++ m.xtr) ≡ length front + length m.xtr = length-append front m.xtr in
      let fixed : 32 ≤ length front = omega (arith, length-append spells.auth spells.records, spells.auth_length) in
      let ends : drop (length bytes - 8) bytes ≡ site = rw parts (back_is front m.xtr site) in
      let middle : drop (length bytes - (length m.xtr + 8)) (take (length bytes - 8) bytes) ≡ m.xtr = rw parts (middle_is front m.xtr site) in
      record {
        long = omega (arith, whole, before, fixed, spells.xtr);
        kind = refl;
        key = ap (λ (b : List ℕ). slice_index b 12) parts;
        site = ap (from_be_bytes w64) ends ∙ from_be_bytes-to_be_bytes_8 m.site spells.site;
        xtr = rw spells.xtr at middle;
      }

-- the pair that is needed is that of a Map-Register
register_of : (read : Result MessageValue ReadFault) (pair : Pair) → pair_of_message read ≡ Some pair → (m : MapRegisterValue) × (read ≡ Ok (Registers m)) × (pair_of m ≡ pair)
register_of (Ok (Registers m)) pair e = (m, refl, cc)
register_of (Ok (Notifies m)) pair e = absurd cc
register_of (Err f) pair e = absurd cc

-- the ends of a datagram name the pair that it needs
pub ends_name : (bytes : List ℕ) (pair : Pair) → IsBytes bytes → pair_in bytes ≡ Some pair → EndsName bytes pair
ends_name bytes pair fits needed =
    let register = register_of (message_at bytes) pair needed in
    rw (← register.2) (spelled_ends bytes register.0 (message_takes bytes (Registers register.0) fits register.1))

-- ---- what is read there

-- bytes with room for it have a Key ID
pub key_read : (bytes : List ℕ) (head : Option Head) (pair : Pair) → EndsName bytes pair → head ≡ head_at bytes → head ≡ Some (record { key_id = pair.key; nonce = nonce_of bytes })
unfolding head_at
key_read bytes head pair ends is =
    let enough : nat_lt (length bytes) 32 ≡ false = le-ltb _ _ (omega (arith, ends.long)) in
    is ∙ rw (enough, ends.key) refl

-- the pair that is read from the ends is the one that they name
module _ (bytes front xtr site : List ℕ) (head : Head) (number : ℕ) (pair : Pair) (ends : EndsName bytes pair) where
  pub pair_read : Some head ≡ head_at bytes → front ≡ take (length bytes - 8) bytes → site ≡ drop (length bytes - 8) bytes → xtr ≡ drop (length front - 16) front → number ≡ from_be_bytes w64 site
      → Some (record { kind = Received; router = record { site = number; xtr = xtr }; key = head.key_id }) ≡ Some pair
  pair_read is before behind middle big =
      let named : Some head ≡ Some (record { key_id = pair.key; nonce = nonce_of bytes }) = key_read bytes (Some head) pair ends is in
      let key : head.key_id ≡ pair.key = cc in
      let short : length front - 16 ≡ length bytes - 24 = omega (arith, ap length before, length-take-le (length bytes - 8) bytes (omega (arith, ends.long)), ends.long) in
      let third : xtr ≡ pair.router.xtr = middle ∙ rw (short, before) ends.xtr in
      let last : number ≡ pair.router.site = big ∙ ap (from_be_bytes w64) behind ∙ ends.site in
      rw (key, third, last, ← ends.kind) refl
