-- Steps through a capture: each takes a byte at least, so that more steps than bytes give the same packets.
use Rattle.std.proofs.Common.{◌≡◌, ℕ, zero, suc, ◌-◌, ◌≤◌, ◌<◌, Bool, true, false, List, [], ◌∷◌, length, take, drop, Option, Some, None, Result, Ok, Err, refl, sym, ap, ◌∙◌, arith}
use Rattle.std.specs.Prelude.{◌==◌, nat_le, nat_lt, if◌then◌else◌, ⊤}
use Rattle.std.proofs.lemmas.Bool.{eqb-true, leb-true, ltb-false, ne_eqb}
use Rattle.std.proofs.lemmas.List.{length-drop}
use Rattle.lisp_records.specs.Result.{◌>>=◌}
use Rattle.lisp_captures.specs.declared.datagram.Unread.{Unread}
use Rattle.lisp_captures.specs.declared.datagram.Unread.TheVariants as unread
use Rattle.lisp_captures.specs.declared.header.Format.{Format}
use Rattle.lisp_captures.specs.declared.header.Format.TheVariants.{Pcap, Pcapng}
use Rattle.lisp_captures.specs.declared.interface.Interface.{Interface}
use Rattle.lisp_captures.specs.declared.numbers.ByteOrder.{ByteOrder}
use Rattle.lisp_captures.specs.declared.packet.Packet.{Packet}
use Rattle.lisp_captures.specs.Block.{BlockValue, block_at, description, enhanced_packet, order_at, section, simple_packet}
use Rattle.lisp_captures.specs.Capture.{GivesNext, GivesStep, Step, block_step, described_step, packets_in, packets_of, record_step, step_by, step_of, with_others}
use Rattle.lisp_captures.specs.CaptureValue.{CaptureValue}
use Rattle.lisp_captures.specs.Interface.{described_at}
use Rattle.lisp_captures.specs.Numbers.{u32_at}
use Rattle.lisp_captures.specs.Reading.{require}
use Rattle.lisp_captures.specs.Record.{record_at, recorded}
use Rattle.lisp_captures.specs.Value.{FrameValue, packet_value}

-- ---- what is read leaves less

-- a fact of what is read, if it is
Holds : {X : Type 0} → (X → Type 0) → Result X Unread → Type 0
Holds P (Ok x) = P x
Holds P (Err why) = ⊤

-- past a test
on_test : {Y : Type 0} (P : Y → Type 0) (why : Unread) (fails : Bool) (rest : List ℕ) (f : List ℕ → Result Y Unread) → (fails ≡ false → Holds P (f rest)) → Holds P ((if fails then Err why else Ok rest) >>= f)
unfolding Holds
on_test P why true rest f each = tt
on_test P why false rest f each = each refl

on_require : {Y : Type 0} (P : Y → Type 0) (why : Unread) (holds : Bool) (f : Bool → Result Y Unread) → (holds ≡ true → Holds P (f true)) → Holds P (require why holds >>= f)
unfolding Holds
on_require P why true f each = each refl
on_require P why false f each = tt

on_value : {X Y : Type 0} (P : Y → Type 0) (r : Result X Unread) (f : X → Result Y Unread) → ((x : X) → Holds P (f x)) → Holds P (r >>= f)
unfolding Holds
on_value P (Ok x) f each = each x
on_value P (Err why) f each = tt

-- what is read is as it is
ok_holds : {X : Type 0} (P : X → Type 0) (x : X) → P x → Holds P (Ok x)
unfolding Holds
ok_holds P x fact = fact

-- a record takes a byte at least
module _ (order : ByteOrder) (interface : Interface) (bytes : List ℕ) where
  abbrev LeavesLess : FrameValue × List ℕ → Type 0
  LeavesLess x = length x.1 < length bytes

  abbrev its_record : List ℕ → FrameValue × List ℕ
  its_record body = (recorded order interface bytes (take (u32_at order bytes 8) body), drop (u32_at order bytes 8) body)

  abbrev fitting : List ℕ → Result (FrameValue × List ℕ) Unread
  fitting body = require unread.Truncated (nat_le (u32_at order bytes 8) (length body)) >>= λ (fits : Bool). Ok (its_record body)

  record_shorter : Holds LeavesLess (record_at order interface bytes)
  unfolding record_at
  record_shorter =
      on_test LeavesLess unread.Truncated (nat_lt (length bytes) 16) (drop 16 bytes) fitting (λ long.
      let le : 16 ≤ length bytes = ltb-false _ _ long in
      let less : length (drop (u32_at order bytes 8) (drop 16 bytes)) < length bytes = omega (arith, le, length-drop 16 bytes, length-drop (u32_at order bytes 8) (drop 16 bytes)) in
      on_require LeavesLess unread.Truncated (nat_le (u32_at order bytes 8) (length (drop 16 bytes))) (λ (fits : Bool). Ok (its_record (drop 16 bytes))) (λ fits. ok_holds LeavesLess (its_record (drop 16 bytes)) less))

-- a block takes a byte at least
module _ (order : ByteOrder) (bytes : List ℕ) where
  abbrev IsLonger : BlockValue → Type 0
  IsLonger b = length b.rest < length bytes

  abbrev its_block : ByteOrder → BlockValue
  its_block own = record { order = own; kind = u32_at own bytes 0; body = drop 8 (take (u32_at own bytes 4 - 4) bytes); rest = drop (u32_at own bytes 4) bytes }

  abbrev same_length : ByteOrder → Result BlockValue Unread
  same_length own = require unread.Lost (u32_at own bytes (u32_at own bytes 4 - 4) == u32_at own bytes 4) >>= λ (same : Bool). Ok (its_block own)

  abbrev whole : ByteOrder → Result BlockValue Unread
  whole own = require unread.Truncated (nat_le (u32_at own bytes 4) (length bytes)) >>= λ (fits : Bool). same_length own

  abbrev long_enough : ByteOrder → Result BlockValue Unread
  long_enough own = require unread.Lost (nat_le 12 (u32_at own bytes 4)) >>= λ (least : Bool). whole own

  block_shorter : Holds IsLonger (block_at order bytes)
  unfolding block_at
  block_shorter =
      on_test IsLonger unread.Truncated (nat_lt (length bytes) 12) (drop 12 bytes) (λ (rest : List ℕ). order_at order bytes >>= long_enough) (λ long.
      let le : 12 ≤ length bytes = ltb-false _ _ long in
      on_value IsLonger (order_at order bytes) long_enough (λ own.
      on_require IsLonger unread.Lost (nat_le 12 (u32_at own bytes 4)) (λ (least : Bool). whole own) (λ least.
      let twelve : 12 ≤ u32_at own bytes 4 = leb-true _ _ least in
      on_require IsLonger unread.Truncated (nat_le (u32_at own bytes 4) (length bytes)) (λ (fits : Bool). same_length own) (λ fits.
      let less : length (drop (u32_at own bytes 4) bytes) < length bytes = omega (arith, le, twelve, length-drop (u32_at own bytes 4) bytes) in
      on_require IsLonger unread.Lost (u32_at own bytes (u32_at own bytes 4 - 4) == u32_at own bytes 4) (λ (same : Bool). Ok (its_block own)) (λ same. ok_holds IsLonger (its_block own) less)))))

-- ---- a step leaves less

abbrev Shorter : CaptureValue → Step → Type 0
Shorter c step = length step.1.rest < length c.rest

chosen_shorter : (c : CaptureValue) (test : Bool) (one other : Step) → Shorter c one → Shorter c other → Shorter c (if test then one else other)
chosen_shorter c true one other first second = first
chosen_shorter c false one other first second = second

record_step_shorter : (c : CaptureValue) (r : Result (FrameValue × List ℕ) Unread) → 0 < length c.rest → Holds (λ (x : FrameValue × List ℕ). length x.1 < length c.rest) r → Shorter c (record_step c r)
unfolding Holds
record_step_shorter c (Ok x) some less = less
record_step_shorter c (Err why) some less = some

described_step_shorter : (c : CaptureValue) (rest : List ℕ) (r : Result Interface Unread) → 0 < length c.rest → length rest < length c.rest → Shorter c (described_step c rest r)
described_step_shorter c rest (Ok interface) some less = less
described_step_shorter c rest (Err why) some less = some

block_step_shorter : (c : CaptureValue) (r : Result BlockValue Unread) → 0 < length c.rest → Holds (λ (b : BlockValue). length b.rest < length c.rest) r → Shorter c (block_step c r)
unfolding Holds
block_step_shorter c (Ok block) some less =
    chosen_shorter c (block.kind == section) _ _ less
    (chosen_shorter c (block.kind == description) _ _ (described_step_shorter c block.rest (described_at block.order block.body) some less)
    (chosen_shorter c (block.kind == enhanced_packet) _ _ less
    (chosen_shorter c (block.kind == simple_packet) _ _ less less)))
block_step_shorter c (Err why) some less = some

step_by_shorter : (format : Format) (c : CaptureValue) → 0 < length c.rest → Shorter c (step_by format c)
step_by_shorter (Pcap interface) c some = record_step_shorter c (record_at c.order interface c.rest) some (record_shorter c.order interface c.rest)
step_by_shorter Pcapng c some = block_step_shorter c (block_at c.order c.rest) some (block_shorter c.order c.rest)

pub step_shorter : (c : CaptureValue) → 0 < length c.rest → length (step_of c).1.rest < length c.rest
unfolding step_of
step_shorter c some = step_by_shorter c.format c some

-- ---- so many steps

some_left : (n : ℕ) → (n == 0) ≡ false → 0 < n
some_left zero is = absurd cc
some_left (suc n) is = omega arith

not_none : (n : ℕ) → 0 < n → (n == 0) ≡ false
not_none n some = ne_eqb n 0 (λ none. omega (arith, some, none))

is_none : (n : ℕ) → n ≤ 0 → (n == 0) ≡ true
is_none zero le = refl
is_none (suc n) le = absurd (omega arith)

none_left : (n : ℕ) → (n == 0) ≡ true → n ≤ 0
none_left n is = let none : n ≡ 0 = eqb-true n 0 is in omega (arith, none)

nothing_left : (n : ℕ) (c : CaptureValue) → length c.rest ≤ 0 → packets_in n c ≡ []
unfolding packets_in
nothing_left zero c le = refl
nothing_left (suc n) c le = rw (is_none (length c.rest) le) refl

one_step : (n : ℕ) (c : CaptureValue) → 0 < length c.rest → packets_in (suc n) c ≡ with_others (step_of c).0 (packets_in n (step_of c).1)
unfolding packets_in
one_step n c some = rw (not_none (length c.rest) some) refl

by_step : (n m : ℕ) (c : CaptureValue) → (0 < length c.rest → packets_in n (step_of c).1 ≡ packets_in m (step_of c).1) → (none : Bool) → (length c.rest == 0) ≡ none → packets_in (suc n) c ≡ packets_in (suc m) c
by_step n m c more true is = nothing_left (suc n) c (none_left (length c.rest) is) ∙ sym (nothing_left (suc m) c (none_left (length c.rest) is))
by_step n m c more false is =
    let some : 0 < length c.rest = some_left (length c.rest) is in
    one_step n c some ∙ ap (with_others (step_of c).0) (more some) ∙ sym (one_step m c some)

-- more steps than bytes give the same packets
enough : (n m : ℕ) (c : CaptureValue) → length c.rest ≤ n → length c.rest ≤ m → packets_in n c ≡ packets_in m c
enough zero m c le more = nothing_left zero c le ∙ sym (nothing_left m c le)
enough (suc n) zero c le more = nothing_left (suc n) c more ∙ sym (nothing_left zero c more)
enough (suc n) (suc m) c le more =
    by_step n m c (λ some. let less = step_shorter c some in enough n m (step_of c).1 (omega (arith, less, le)) (omega (arith, less, more))) (length c.rest == 0) refl

-- the packets to come are that of the next step and those to come after it
after_step : (c : CaptureValue) → 0 < length c.rest → packets_of c ≡ with_others (step_of c).0 (packets_of (step_of c).1)
after_step c some =
    let whole : length c.rest ≡ suc (length c.rest - 1) = omega arith in
    let less : length (step_of c).1.rest < length c.rest = step_shorter c some in
    ap (λ (n : ℕ). packets_in n c) whole ∙ one_step (length c.rest - 1) c some ∙ ap (with_others (step_of c).0) (enough (length c.rest - 1) (length (step_of c).1.rest) (step_of c).1 (omega arith) (omega arith))

-- ---- what `next` answers

-- after the last byte there is no packet
pub no_more : (old c : CaptureValue) → packets_of c ≡ packets_of old → length c.rest ≤ 0 → packets_of old ≡ []
no_more old c same none = sym same ∙ nothing_left (length c.rest) c none

-- a step without a packet leaves the packets to come
pub passes : (old c new : CaptureValue) → packets_of c ≡ packets_of old → 0 < length c.rest → GivesStep new (step_of c) None → packets_of new ≡ packets_of old
passes old c new same some gives = ap packets_of gives.1 ∙ sym (after_step c some ∙ ap (λ (p : Option _). with_others p (packets_of (step_of c).1)) (sym gives.0)) ∙ same

-- a step with a packet gives the next
pub gives_next : (old c new : CaptureValue) (packet : Packet) → packets_of c ≡ packets_of old → 0 < length c.rest → GivesStep new (step_of c) (Some packet) → GivesNext old new (Some packet)
gives_next old c new packet same some gives =
    sym same ∙ after_step c some ∙ ap (λ (p : Option _). with_others p (packets_of (step_of c).1)) (sym gives.0) ∙ ap (λ (n : CaptureValue). packet_value packet ∷ packets_of n) (sym gives.1)

-- a step makes what is left shorter
pub falls : (c new : CaptureValue) (result : Option Packet) → 0 < length c.rest → GivesStep new (step_of c) result → length new.rest < length c.rest
falls c new result some gives = rw gives.1 (step_shorter c some)

pub ruleset next_steps = (no_more, passes, gives_next, falls)

-- ---- what a step is, by the format

pub records : (c : CaptureValue) (interface : Interface) → c.format ≡ Pcap interface → step_of c ≡ record_step c (record_at c.order interface c.rest)
unfolding step_of
records c interface is = ap (λ (f : Format). step_by f c) is

pub blocks : (c : CaptureValue) → c.format ≡ Pcapng → step_of c ≡ block_step c (block_at c.order c.rest)
unfolding step_of
blocks c is = ap (λ (f : Format). step_by f c) is
