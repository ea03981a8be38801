-- Traces, each of which breaks one promise. They are legal up to the step that breaks it, which is illegal; in four it is
-- legal and unclean: `accepted_forged`, `accepted_from_elsewhere`, `held_forged` and `held_unequal`.
use Rattle.std.proofs.Common.{[], Bool, List, None, Ok, Option, Some, ap, arith, false, inl, inr, refl, slice_index_or, subst, suc, sym, true, true≢false, zero, ℕ, ◌∙◌, ◌∷◌, ◌≡◌, ◌≢◌, Err, reverse, ◌<◌, rules}
use Rattle.std.specs.FinMap.{empty, insert}
use Rattle.std.specs.List.{Contains, flat_map, AllPairs}
use Rattle.std.specs.Option.{option_to_list}
use Rattle.std.specs.Prelude.{Result, ◌++◌, ◌+◌, ◌-◌, ◌<◌, ◌^◌, ◌⊎◌, position, slice_get}
use Rattle.lisp_records.specs.Record.{MapRecordValue}
use Rattle.lisp_records.specs.Row.{RowValue}
use Rattle.lisp_records.specs.declared.address.Addr.{Addr}
use Rattle.lisp_records.specs.declared.address.Addr.TheVariants.{V4, V6}
use Rattle.lisp_records.specs.declared.router.RouterId.{RouterId}
use Rattle.lisp_records.specs.Parts.{cut, cut_from}
use Rattle.lisp_records.specs.Written.{written}
use Rattle.lisp_nonces.specs.Kept.{kept_at, number, Kept}
use Rattle.lisp_nonces.specs.declared.pair.Pair.{Pair}
use Rattle.lisp_nonces.proofs.Kept.{kept_at-empty}
use Rattle.lisp_messages.specs.Message.{Registers, MapRegisterValue, MessageValue, IsMessage, AreRecords}
use Rattle.lisp_messages.specs.Reading.{message_at}
use Rattle.lisp_etr.specs.Sending.{last_nonce}
use Rattle.lisp_admission.specs.Nonces.{IsBelow}
use Rattle.lisp_model.specs.Bag.{Item, bytes_of, register_item, since_start, acceptances_in, junk_arrival, bag, Arrival, arrival_of}
use Rattle.lisp_model.specs.Held.{Acceptance, held_row, held_rows}
use Rattle.lisp_model.specs.History.{SentRegister, message_of, record_in}
use Rattle.lisp_model.specs.Legal.{context_of, Legal, LegalTrace}
use Rattle.lisp_model.specs.Must.{DeviceFailed, IsExcused, Must, MustAccept}
use Rattle.lisp_model.specs.Promises.{AbsentPartsRest, AcceptedWasSent, CountedWasAccepted, DoneWasNoticed, HeldAgree, HeldWasSent, IsOf, LeavesOthers, NoncesRise, NoticeNoncesRise, NoticesDiffer, ReplaysAreTried, SitesStayWithin}
use Rattle.lisp_model.specs.Timers.{Notice, RoundTimes}
use Rattle.lisp_model.specs.Trace.{Step, address_at, router_at, addresses, Opening}
use Rattle.lisp_model.specs.Story.{at, blank, counts, got_from, keeps, local_at, mapping, network, one, one_counted, one_sent, one_taken, opening, replays, secret, sends, sent_by, step, takes, two, wide, restarts, narrow, site}
use Rattle.lisp_model.proofs.Examples.Steps.{acknowledged, answered, arrived, counts_part, ends, heard_of, notices, one_left, refuses, registers, row_of, tells, ticks, told_to, answered_elsewhere, both_heard, both_sent, both_taken, first_entry, first_told, foreign, foreign_sent, newer_taken, parts_sent, parts_taken, registered_again, restarted, sent_twice, short, was_noticed, changes, two_keys, restarted_changed, two_sent, Event, Fate, Line, NotifyFault, ReadFault, Refusal, Refused, SendFault, StartFault, StoreFault}
use Rattle.lisp_model.proofs.Examples.Steps.{admitted, hears, registers_read, wide_whole, item_authentic, fits, item_reads, short_message, wide_record, fresh_value, saved, IsOnePart, legal, send_legal}
use Rattle.lisp_model.proofs.Examples.NearMisses.{never, unfailed, a_device, first_item, first, nothing_is_no_number, only_set_of, register_is}
use Rattle.lisp_model.proofs.Examples.LegalRows.{loses, rotating, sends_under, started, takes_under}
use Rattle.lisp_model.proofs.KeptLemmas.{only_value, set_here}
use Rattle.lisp_model.proofs.ListLemmas.{at_head, head_or_tail, in_none, only, cases, some_same}
use Rattle.lisp_model.proofs.Sound.{must}
use Rattle.lisp_messages.specs.Authentic.{is_authentic}
use Rattle.lisp_model.specs.Change.{Keeps, NoChange, gives_database}
use Rattle.lisp_model.specs.Clean.{Clean, IsEcho, IsForged, IsHarmless, IsNoise, secrets_of}
use Rattle.lisp_policy.specs.Configuration.{ConfigValue}
use Rattle.lisp_model.specs.Network.{IsNetwork}
use Rattle.std.proofs.lemmas.List.Elements.{All-from_recursion}
use Rattle.lisp_records.specs.Address.{PrefixValue, masked}
use Rattle.lisp_records.specs.Database.{repeats as repeats_in}
use Rattle.lisp_policy.specs.Limits.{no_limits}
use Rattle.lisp_policy.specs.declared.full.Full.TheVariants.{Routers, Rows}
use Rattle.lisp_lookup.proofs.GrowthLaws.{full_or_fits}
use Rattle.lisp_lookup.specs.Growth.{HasRow, IsFull}
use Rattle.lisp_admission.specs.Checks.{secret_under}
use Rattle.lisp_model.specs.Receiving.{HasSpace, IsFresh, LacksSpace}

-- the record of another time to live
abbrev ttl_of : List MapRecordValue → ℕ
ttl_of [] = 0
ttl_of (m ∷ ms) = m.ttl

other_records : (mapping wide 60 ∷ []) ≡ (mapping wide 1440 ∷ []) → ⊥
other_records e = let ttl : ◌≡◌ {A = ℕ} 60 1440 = ap ttl_of e in absurd (omega (arith, ttl))

-- the last byte of an address
abbrev last_byte : Addr → ℕ
last_byte (V4 bytes) = slice_index_or bytes 3 0
last_byte (V6 bytes) = 0

abbrev later_counted : List Step
later_counted = ticks one_counted 5 5 ∷ one_counted

-- nonces rise: one is accepted twice over a restart; an older one after a newer one
accepted_twice : NoncesRise opening (takes restarted 0 0 1 2 ∷ restarted) → ⊥
accepted_twice rise = let less : 1 < 1 = (rise 0 (got_from one)).0 1 (at_head 1 []) in absurd (omega (arith, less))

accepted_older : NoncesRise opening (takes newer_taken 0 0 1 3 ∷ newer_taken) → ⊥
accepted_older rise = let less : 2 < 1 = (rise 0 (got_from one)).0 2 (at_head 2 []) in absurd (omega (arith, less))

-- replays are told with nonces that were tried. None was: at all; at that Map-Server; since it was refused for another
-- reason; of that router
none_kept : (pair : Pair) (n : ℕ) → Contains (flat_map option_to_list (kept_at empty pair)) n → ⊥
none_kept pair n has = in_none n (subst (λ (vs : List (Option ℕ)). Contains (flat_map option_to_list vs) n) (kept_at-empty pair) has)

replay_of_none : ReplaysAreTried opening one_sent (replays one_sent 0 0 1) → ⊥
unfolding cut cut_from written
replay_of_none are_tried = none_kept (got_from one) 1 (are_tried 0 1 refl (arrived (mapping wide 1440 ∷ []) 1) (at_head _ []))

abbrev taken_by_other : List Step
taken_by_other = takes both_sent 1 1 2 2 ∷ both_sent

replay_of_anothers : ReplaysAreTried opening taken_by_other (replays taken_by_other 0 0 2) → ⊥
unfolding cut cut_from written
replay_of_anothers are_tried = none_kept (got_from one) 2 (are_tried 0 2 refl (arrived (mapping wide 1440 ∷ []) 1) (at_head _ []))

abbrev foreign_refused : List Step
foreign_refused = refuses foreign_sent (Event.Deliver 0 Fate.Done) 0 (Refusal.Receive (Refused.NotAllowed 1)) ∷ foreign_sent

replay_of_refused : ReplaysAreTried opening foreign_refused (replays foreign_refused 0 0 1) → ⊥
unfolding cut cut_from written
replay_of_refused are_tried = none_kept (got_from one) 1 (are_tried 0 1 refl (arrived foreign 1) (at_head _ []))

abbrev other_routers_taken : List Step
other_routers_taken = step (Event.Deliver 1 Fate.Done) (Line.Accepted 0 two 1 1 (Some 2)) 0 (keeps blank (got_from two) 1) ∷ step (Event.Send 3 0 0 Fate.Done) (Line.Sent 3 0 0 1 1 1) 3 (keeps blank (sent_by two) 1) ∷ one_sent

replay_of_other_routers : ReplaysAreTried opening other_routers_taken (replays other_routers_taken 0 0 1) → ⊥
unfolding cut cut_from written
replay_of_other_routers are_tried = none_kept (got_from one) 1 (are_tried 0 1 refl (arrived (mapping wide 1440 ∷ []) 1) (at_head _ []))

-- the nonces of notices rise: one is used again after a restart
noticed_twice : NoticeNoncesRise (tells registered_again (2 ^ 63) 5 ∷ registered_again) → ⊥
noticed_twice rise = let less : 2 ^ 63 < 2 ^ 63 = (rise 0).0 (2 ^ 63) (at_head (2 ^ 63) []) in absurd (omega (arith, less))

-- no two standing notices have one nonce: the second router's has the first one's
alike : NoticesDiffer opening (step (Event.Notice 0 3 Fate.Done) (Line.Notice 0 3 1 (2 ^ 63) 5) 0 (at [] 0) ∷ tells both_heard (2 ^ 63) 4 ∷ both_heard) → ⊥
alike differ = let datagram : ◌≡◌ {A = ℕ} 5 4 = ap (λ (n : Notice). n.datagram) (differ 0 _ _ (0, omega arith, refl) (1, omega arith, refl) refl) in absurd (omega (arith, datagram))

-- other nodes stay: a node's restart is that of another one, a Map-Server or a router
restarted_by_another : LeavesOthers opening one_taken (step (Event.Restart 0 0 None) (Line.Restarted 0) 1 (at one_taken 1)) → ⊥
unfolding cut cut_from written
restarted_by_another leaves = let clash : ◌≡◌ {A = List Acceptance} [] (arrived (mapping wide 1440 ∷ []) 1 ∷ []) = (leaves.server 0 refl (λ e. absurd (omega (arith, e)))).since in absurd cc

begun_by_another : LeavesOthers opening later_counted (step (Event.Restart 0 0 None) (Line.Restarted 0) 1 blank) → ⊥
begun_by_another leaves = let began : ◌≡◌ {A = ℕ} 5 0 = (leaves.server 0 refl (λ e. absurd (omega (arith, e)))).began in absurd (omega (arith, began))

router_restarted_by_another : LeavesOthers opening one_taken (step (Event.Restart 2 0 None) (Line.Restarted 2) 3 (at one_taken 3)) → ⊥
router_restarted_by_another leaves = let clash : ◌≡◌ {A = Option ℕ} None (Some 1) = (leaves.router 2 refl (λ e. absurd (omega (arith, e)))).last_sent in absurd cc

-- another one's database and round, its notices and their nonces, whether it is up, what it accepted ever and counted
changed_by_another : LeavesOthers opening later_counted (step (Event.Change 2 short) (Line.Changed 2 1) 3 blank) → ⊥
changed_by_another leaves = other_records (leaves.router 2 refl (λ e. absurd (omega (arith, e)))).database

rounds_of_another : LeavesOthers opening later_counted (step (Event.Change 2 short) (Line.Changed 2 1) 3 blank) → ⊥
rounds_of_another leaves = let begin : ◌≡◌ {A = ℕ} 5 60000 = ap (λ (r : RoundTimes). r.begin) ((leaves.router 2 refl (λ e. absurd (omega (arith, e)))).round 0 0) in absurd (omega (arith, begin))

told_by_another : LeavesOthers opening one_taken (step (Event.Notice 0 2 Fate.Done) (Line.Notice 0 2 1 (2 ^ 63) 2) 1 blank) → ⊥
told_by_another leaves = let clash : ◌≡◌ {A = List Notice} (told_to one (2 ^ 63) 2 (0 ∷ []) ∷ []) [] = (leaves.server 0 refl (λ e. absurd (omega (arith, e)))).notices in absurd cc

noticed_by_another : LeavesOthers opening one_taken (step (Event.Notice 0 2 Fate.Done) (Line.Notice 0 2 1 (2 ^ 63) 2) 1 blank) → ⊥
noticed_by_another leaves = let clash : ◌≡◌ {A = Option ℕ} (Some (2 ^ 63)) None = (leaves.server 0 refl (λ e. absurd (omega (arith, e)))).last_notice in absurd cc

downed_by_another : LeavesOthers opening one_sent (step (Event.Restart 2 0 None) (Line.Refused 2 (Refusal.Start (StartFault.Store StoreFault.Device))) 3 blank) → ⊥
downed_by_another leaves = let clash : false ≡ true = (leaves.router 2 refl (λ e. absurd (omega (arith, e)))).is_up in absurd cc

accepted_by_another : LeavesOthers opening one_sent (step (Event.Deliver 0 Fate.Done) (Line.Accepted 0 one 1 1 (Some 1)) 1 blank) → ⊥
unfolding cut cut_from written
accepted_by_another leaves = let clash : ◌≡◌ {A = List Acceptance} (arrived (mapping wide 1440 ∷ []) 1 ∷ []) [] = (leaves.server 0 refl (λ e. absurd (omega (arith, e)))).accepted in absurd cc

latest_by_another : LeavesOthers opening [] (step (Event.Send 2 0 0 Fate.Done) (Line.Sent 2 0 0 1 1 0) 3 blank) → ⊥
latest_by_another leaves = let latest : ◌≡◌ {A = ℕ} 1 0 = (leaves.router 2 refl (λ e. absurd (omega (arith, e)))).latest 0 0 in absurd (omega (arith, latest))

acked_by_another : LeavesOthers opening one_taken (step (Event.Deliver 1 Fate.Done) (Line.Counted 2 0 0 1 1) 3 blank) → ⊥
acked_by_another leaves = let clash : ◌≡◌ {A = Option (ℕ × ℕ)} (Some (1, 1)) None = (leaves.router 2 refl (λ e. absurd (omega (arith, e)))).acked 0 0 in absurd cc

-- another one's key, the keys that it used since its store was lost, and before; what it counts from then
rotated_by_another : LeavesOthers rotating started (step (Event.Rotate 2 2 Fate.Done) (Line.Rotated 2 2) 3 blank) → ⊥
rotated_by_another leaves = let key : ◌≡◌ {A = ℕ} 2 1 = (leaves.router 2 refl (λ e. absurd (omega (arith, e)))).key in absurd (omega (arith, key))

used_by_another : LeavesOthers rotating started (step (Event.Rotate 2 2 Fate.Done) (Line.Rotated 2 2) 3 blank) → ⊥
used_by_another leaves = let clash : ◌≡◌ {A = List ℕ} (2 ∷ 1 ∷ []) (1 ∷ []) = (leaves.router 2 refl (λ e. absurd (omega (arith, e)))).keys_since_loss in absurd cc

lost_by_another : LeavesOthers rotating started (step (Event.Lose 2 3 None) (Line.Emptied 2 3) 3 blank) → ⊥
lost_by_another leaves = let clash : ◌≡◌ {A = List ℕ} (1 ∷ []) [] = (leaves.router 2 refl (λ e. absurd (omega (arith, e)))).keys_before_loss in absurd cc

counts_anew_by_another : LeavesOthers rotating started (step (Event.Rotate 2 2 Fate.Done) (Line.Rotated 2 2) 3 blank) → ⊥
counts_anew_by_another leaves = let clash : ◌≡◌ {A = Option ℕ} None (Some 1) = (leaves.router 2 refl (λ e. absurd (omega (arith, e)))).last_sent in absurd cc

-- what is accepted was sent: to another Map-Server; with other records; twice under one nonce
abbrev taken_elsewhere : List Step
taken_elsewhere = takes one_sent 0 1 1 1 ∷ one_sent

accepted_elsewhere : AcceptedWasSent opening taken_elsewhere → ⊥
unfolding cut cut_from written
accepted_elsewhere all =
    let of = all 1 (arrived (mapping wide 1440 ∷ []) 1) (at_head (arrived (mapping wide 1440 ∷ []) 1) []) in
    absurd (omega (arith, sym (ap (λ (e : SentRegister). e.server) (only first_entry of.0 of.1.sent)) ∙ of.1.whom))

-- from another address
accepted_from_elsewhere : AcceptedWasSent opening answered_elsewhere → ⊥
unfolding cut cut_from written
accepted_from_elsewhere all = by (all 0 (record (arrived (mapping wide 1440 ∷ []) 1) { from = local_at 99 }) (subst (λ (xs : List Acceptance). Contains (xs ++ []) (record (arrived (mapping wide 1440 ∷ []) 1) { from = local_at 99 })) (sym lost) (at_head _ [])))
  where
    lost : acceptances_in (Some (junk_arrival (local_at 99) (bytes_of (register_item opening [] 2 0 0 1)))) 0 ≡ record (arrived (mapping wide 1440 ∷ []) 1) { from = local_at 99 } ∷ []
    lost = ap (λ (r : Result MessageValue ReadFault). acceptances_in (Some (record { from = local_at 99; bytes = bytes_of (register_item opening [] 2 0 0 1); read = r })) 0) (registers_read (register_item opening [] 2 0 0 1) 1440 1 refl (omega arith) (omega arith))

    by : (e : SentRegister) × IsOf opening answered_elsewhere 0 (record (arrived (mapping wide 1440 ∷ []) 1) { from = local_at 99 }) e → ⊥
    by (e, of) =
        let from : local_at 99 ≡ local_at 21 = of.from ∙ ap (λ (x : SentRegister). address_at network x.router) (only first_entry e of.sent) in
        let last : ◌≡◌ {A = ℕ} 99 21 = ap last_byte from in
        absurd (omega (arith, last))

-- the first message, with another record, to a Map-Server
abbrev forged : ℕ → ℕ → Item
forged server nonce = record { from = local_at 21; to = address_at network server; secret = secret; message = Registers (registers short nonce) }

forged_read : (server nonce : ℕ) → nonce < 2 ^ 64 → message_at (bytes_of (forged server nonce)) ≡ Ok (Registers (registers short nonce))
forged_read server nonce small = registers_read (forged server nonce) 60 nonce refl (omega arith) small

taken_of : (server nonce : ℕ) → nonce < 2 ^ 64 → acceptances_in (Some (junk_arrival (local_at 21) (bytes_of (forged server nonce)))) 0 ≡ arrived short nonce ∷ []
taken_of server nonce small = ap (λ (r : Result MessageValue ReadFault). acceptances_in (Some (record { from = local_at 21; bytes = bytes_of (forged server nonce); read = r })) 0) (forged_read server nonce small)

abbrev forged_taken : List Step
forged_taken = step (Event.Junk 0 (local_at 21) (bytes_of (forged 0 1))) (Line.Accepted 0 one 1 1 (Some 1)) 0 (keeps blank (got_from one) 1) ∷ one_sent

accepted_forged : AcceptedWasSent opening forged_taken → ⊥
unfolding cut cut_from written
accepted_forged all =
    let of = all 0 (arrived short 1) (subst (λ (xs : List Acceptance). Contains (xs ++ []) (arrived short 1)) (sym (taken_of 0 1 (omega arith))) (at_head (arrived short 1) [])) in
    other_records (ap (λ (m : MapRegisterValue). m.records) (of.1.message ∙ ap (message_of network) (only first_entry of.0 of.1.sent)))

abbrev sent_again_alike : List Step
sent_again_alike = sends one_sent 1 1 1 ∷ one_sent

-- the first entry, and one with its nonce: where one of them is the only one with its nonce, they are one
module _ (server position : ℕ) where
  abbrev alike_entry : SentRegister
  alike_entry = record first_entry { server = server; position = position }

  one_of_two : (e : SentRegister) → Contains (alike_entry ∷ first_entry ∷ []) e → ((g : SentRegister) → Contains (alike_entry ∷ first_entry ∷ []) g → g.router ≡ e.router → g.key ≡ e.key → g.nonce ≡ e.nonce → g ≡ e) → alike_entry ≡ first_entry
  one_of_two e has alone = cases (head_or_tail alike_entry (first_entry ∷ []) e has)
      (λ is. let same = sym is in sym is ∙ sym (alone first_entry (1, omega arith, refl) (ap (λ (x : SentRegister). x.router) same) (ap (λ (x : SentRegister). x.key) same) (ap (λ (x : SentRegister). x.nonce) same)))
      (λ later. let same = sym (only first_entry e later) in alone alike_entry (0, omega arith, refl) (ap (λ (x : SentRegister). x.router) same) (ap (λ (x : SentRegister). x.key) same) (ap (λ (x : SentRegister). x.nonce) same) ∙ sym same)

nonce_sent_twice : AcceptedWasSent opening (takes sent_again_alike 0 0 1 2 ∷ sent_again_alike) → ⊥
unfolding cut cut_from written
nonce_sent_twice all =
    let of = all 0 (arrived (mapping wide 1440 ∷ []) 1) (at_head (arrived (mapping wide 1440 ∷ []) 1) []) in
    absurd (omega (arith, ap (λ (e : SentRegister). e.server) (one_of_two 1 1 of.0 of.1.sent of.1.only)))

-- once its store was lost, a router goes on under the key that it used, from the first nonce
abbrev sent_after_loss : List Step
sent_after_loss = sends_under (loses started 1 ∷ started) 1 1 1 ∷ loses started 1 ∷ started

nonce_sent_after_a_loss : AcceptedWasSent rotating (takes_under sent_after_loss 0 1 1 2 ∷ sent_after_loss) → ⊥
unfolding cut cut_from written
nonce_sent_after_a_loss all =
    let of = all 0 (arrived (mapping wide 1440 ∷ []) 1) (at_head (arrived (mapping wide 1440 ∷ []) 1) []) in
    absurd (omega (arith, ap (λ (e : SentRegister). e.position) (one_of_two 0 2 of.0 of.1.sent of.1.only)))

-- what is held was sent: to another Map-Server; with another record
held_elsewhere : HeldWasSent opening taken_elsewhere → ⊥
unfolding cut cut_from written
held_elsewhere all =
    let of = all 1 one wide (row_of (mapping wide 1440) 1 0) refl in
    absurd (omega (arith, sym (ap (λ (e : SentRegister). e.server) (only first_entry of.0 of.1)) ∙ of.2))

-- what a Map-Server holds that accepted one message
abbrev held_of : List Acceptance → Option RowValue
held_of since_start = held_row since_start one wide 0

held_forged : HeldWasSent opening forged_taken → ⊥
held_forged all =
    let of = all 0 one wide (row_of (mapping wide 60) 1 0) (ap (λ (xs : List Acceptance). held_of (xs ++ [])) (taken_of 0 1 (omega arith))) in
    other_records (sym (ap option_to_list (sym (ap (λ (e : SentRegister). record_in e wide) (only first_entry of.0 of.1)) ∙ of.4)))

-- two Map-Servers agree: one accepted another record than what was sent to it, with no change between
held_unequal : HeldAgree opening (step (Event.Junk 1 (local_at 21) (bytes_of (forged 1 2))) (Line.Accepted 1 one 1 2 (Some 3)) 1 (keeps blank (got_from one) 2) ∷ takes both_sent 0 0 1 2 ∷ both_sent) → ⊥
unfolding cut cut_from written
held_unequal agree =
    let same : mapping wide 1440 ≡ mapping wide 60 = agree 0 1 one wide (row_of (mapping wide 1440) 1 0) (row_of (mapping wide 60) 2 0) first_entry (record { router = 2; key = 1; nonce = 2; server = 1; database = mapping wide 1440 ∷ []; part = 0; position = 1 })
    refl (ap (λ (xs : List Acceptance). held_of (xs ++ [])) (taken_of 1 2 (omega arith))) (1, omega arith, refl) (0, omega arith, refl)
    (record { router = refl; key = refl; nonce = refl }) (record { router = refl; key = refl; nonce = refl })
    (record { router = refl; later = λ place s low high is. absurd (omega (arith, low, high)); earlier = λ place s low high is. absurd (omega (arith, low, high)) }) in
    absurd (omega (arith, ap (λ (m : MapRecordValue). m.ttl) same))

-- what is counted was accepted: by no Map-Server; by none, and a later one was; another message; by another Map-Server
counted_unaccepted : CountedWasAccepted opening (counts one_sent 0 0 1 ∷ one_sent) → ⊥
counted_unaccepted all = let was = all 2 0 (acknowledged 0 1 1) (at_head _ []) in in_none was.acceptance was.taken

-- the nonce of the one message that was accepted
only_nonce : (a x : Acceptance) (m : MapRegisterValue) (nonce : ℕ) → Contains (a ∷ []) x → x.message ≡ m → m.nonce ≡ nonce → a.message.nonce ≡ nonce
only_nonce a x m nonce has is number = sym (ap (λ (y : Acceptance). y.message.nonce) (only a x has)) ∙ ap (λ (n : MapRegisterValue). n.nonce) is ∙ number

abbrev counted_early : List Step
counted_early = counts one_sent 0 0 1 ∷ one_sent

abbrev sent_anew : List Step
sent_anew = sends counted_early 0 2 1 ∷ counted_early

abbrev taken_anew : List Step
taken_anew = takes sent_anew 1 0 2 2 ∷ sent_anew

counted_early_unaccepted : CountedWasAccepted opening (counts taken_anew 2 0 2 ∷ taken_anew) → ⊥
unfolding cut cut_from written
counted_early_unaccepted all =
    let was = all 2 0 (acknowledged 0 1 1) (1, omega arith, refl) in
    absurd (omega (arith, only_nonce (arrived (mapping wide 1440 ∷ []) 2) was.acceptance (message_of network was.entry) 1 was.taken was.message was.number))

counted_another : CountedWasAccepted opening (counts sent_twice 1 0 2 ∷ sent_twice) → ⊥
unfolding cut cut_from written
counted_another all =
    let was = all 2 0 (acknowledged 0 1 2) (at_head _ []) in
    absurd (omega (arith, only_nonce (arrived (mapping wide 1440 ∷ []) 1) was.acceptance (message_of network was.entry) 2 was.taken was.message was.number))

counted_of_another_server : CountedWasAccepted opening (counts taken_by_other 2 0 2 ∷ taken_by_other) → ⊥
counted_of_another_server all = let was = all 2 0 (acknowledged 0 1 2) (at_head _ []) in in_none was.acceptance was.taken

-- another router, another key, another Map-Server than those of the send
counted_by_another : CountedWasAccepted opening (step (Event.Deliver 1 Fate.Done) (Line.Counted 3 0 0 1 1) 3 blank ∷ one_taken) → ⊥
counted_by_another all =
    let was = all 3 0 (acknowledged 0 1 1) (at_head _ []) in
    absurd (omega (arith, sym (ap (λ (e : SentRegister). e.router) (only first_entry was.entry was.sent)) ∙ was.who))

counted_under_another_key : CountedWasAccepted opening (step (Event.Deliver 1 Fate.Done) (Line.Counted 2 0 0 7 1) 2 blank ∷ one_taken) → ⊥
counted_under_another_key all =
    let was = all 2 0 (acknowledged 0 7 1) (at_head _ []) in
    absurd (omega (arith, sym (ap (λ (e : SentRegister). e.key) (only first_entry was.entry was.sent)) ∙ was.under))

counted_elsewhere : CountedWasAccepted opening (step (Event.Deliver 1 Fate.Done) (Line.Counted 2 1 0 1 1) 2 blank ∷ taken_elsewhere) → ⊥
counted_elsewhere all =
    let was = all 2 1 (acknowledged 0 1 1) (at_head _ []) in
    absurd (omega (arith, sym (ap (λ (e : SentRegister). e.server) (only first_entry was.entry was.sent)) ∙ was.whom))

-- another part
counted_of_another_part : CountedWasAccepted opening (counts_part one_taken 1 0 1 1 ∷ one_taken) → ⊥
counted_of_another_part all =
    let was = all 2 0 (acknowledged 1 1 1) (at_head _ []) in
    absurd (omega (arith, sym (ap (λ (e : SentRegister). e.part) (only first_entry was.entry was.sent)) ∙ was.of))

-- absent parts rest: one was sent that the database doesn't have
absent_part_sent : AbsentPartsRest opening parts_sent → ⊥
unfolding cut cut_from written
absent_part_sent rest = let clash : ◌≡◌ {A = List ℕ} (0 ∷ []) [] = rest 2 0 1 refl (omega arith) in absurd cc

-- what is done was noticed: by nobody; with another nonce; from another Map-Server; by another router
abbrev is_noticed : Line → Bool
is_noticed (Line.Noticed _ _ _ _) = true
is_noticed _ = false

noticed : {node server nonce datagram : ℕ} (line : Line) → line ≡ Line.Noticed node server nonce datagram → is_noticed line ≡ true
noticed line e = ap is_noticed e

none_in : (t : Step) → Contains first_told t → is_noticed t.line ≡ false
none_in t (zero, lt, is) = sym (ap (λ (x : Step). is_noticed x.line) is)
none_in t (suc zero, lt, is) = sym (ap (λ (x : Step). is_noticed x.line) is)
none_in t (suc (suc zero), lt, is) = sym (ap (λ (x : Step). is_noticed x.line) is)
none_in t (suc (suc (suc k)), lt, is) = absurd (omega (arith, lt))

done_unnoticed : DoneWasNoticed opening first_told (ends first_told 2 (2 ^ 63)) → ⊥
done_unnoticed was = let its = was 0 (2 ^ 63) one refl in true≢false (sym (noticed its.0.line its.4) ∙ none_in its.0 its.3)

abbrev noticed_once : List Step
noticed_once = notices first_told 2 (2 ^ 63) 3 ∷ first_told

-- where one was noticed, its line is the only one
line_is : (t : Step) → Contains noticed_once t → is_noticed t.line ≡ true → t.line ≡ Line.Noticed 2 0 (2 ^ 63) 3
line_is t has is = cases (head_or_tail (notices first_told 2 (2 ^ 63) 3) first_told t has)
    (λ same. ap (λ (x : Step). x.line) same)
    (λ later. absurd (true≢false (sym is ∙ none_in t later)))

done_with_another_nonce : DoneWasNoticed opening noticed_once (ends noticed_once 3 (2 ^ 63 + 1)) → ⊥
done_with_another_nonce was =
    let its = was 0 (2 ^ 63 + 1) one refl in
    let both : Line.Noticed 2 0 (2 ^ 63) 3 ≡ Line.Noticed its.1 0 (2 ^ 63 + 1) its.2 = sym (line_is its.0 its.3 (noticed its.0.line its.4)) ∙ its.4 in
    let nonce : ◌≡◌ {A = ℕ} (2 ^ 63) (2 ^ 63 + 1) = cc in
    absurd (omega (arith, nonce))

done_by_another_server : DoneWasNoticed opening noticed_once (step (Event.Deliver 3 Fate.Done) (Line.Done 1 one (2 ^ 63)) 1 blank) → ⊥
done_by_another_server was =
    let its = was 1 (2 ^ 63) one refl in
    let both : Line.Noticed 2 0 (2 ^ 63) 3 ≡ Line.Noticed its.1 1 (2 ^ 63) its.2 = sym (line_is its.0 its.3 (noticed its.0.line its.4)) ∙ its.4 in
    let server : ◌≡◌ {A = ℕ} 0 1 = cc in
    absurd (omega (arith, server))

done_for_another_router : DoneWasNoticed opening noticed_once (step (Event.Deliver 3 Fate.Done) (Line.Done 0 two (2 ^ 63)) 0 (at noticed_once 0)) → ⊥
done_for_another_router was =
    let its = was 0 (2 ^ 63) two refl in
    let both : Line.Noticed 2 0 (2 ^ 63) 3 ≡ Line.Noticed its.1 0 (2 ^ 63) its.2 = sym (line_is its.0 its.3 (noticed its.0.line its.4)) ∙ its.4 in
    let router : ◌≡◌ {A = ℕ} 2 its.1 = cc in
    absurd (omega (arith, ap (λ (r : RouterId). slice_index_or r.xtr 15 0) (ap (λ (n : ℕ). (router_at network n).me) router ∙ its.5)))

-- what must be done: a router says that its nonces are spent where one is left
not_done : (false ≡ true) ⊎ ⊥ → ⊥
not_done e = cases e never (λ no. no)

not_sent : Must IsExcused one_left [] (step (Event.Send 2 0 0 Fate.Done) (Line.Refused 2 (Refusal.Send SendFault.NonceSpent)) 2 (keeps blank (sent_by one) (2 ^ 63 - 2))) → ⊥
not_sent must = not_done (must.send 2 0 0 Fate.Done refl refl refl wide_whole.there below)
  where
    below : (v : Option ℕ) → Contains (kept_at (insert empty (sent_by one) (Some (2 ^ 63 - 2) ∷ [])) (sent_by one)) v → number v < last_nonce
    below v has = subst (λ (w : Option ℕ). number w < last_nonce) (sym (only_value (Some (2 ^ 63 - 2)) v (subst (λ (vs : List (Option ℕ)). Contains vs v) (set_here empty (sent_by one) (Some (2 ^ 63 - 2) ∷ [])) has))) (omega arith)

-- a Map-Server calls the next nonce a replay, and the first one
not_accepted : Must IsExcused opening sent_twice (replays sent_twice 2 0 1) → ⊥
unfolding cut cut_from written
not_accepted must = not_done (must.accept _ (registers (mapping wide 1440 ∷ []) 2) refl refl (record { read = refl; secret = secret; checks = admitted (register_item opening one_taken 2 0 0 2) (mapping wide 1440 ∷ []) 2 refl refl }) (omega arith) (record { routers = tt; rows = tt }))

first_not_accepted : Must IsExcused opening one_sent (replays one_sent 0 0 1) → ⊥
unfolding cut cut_from written
first_not_accepted must = not_done (must.accept _ (registers (mapping wide 1440 ∷ []) 1) refl refl (record { read = refl; secret = secret; checks = admitted (register_item opening [] 2 0 0 1) (mapping wide 1440 ∷ []) 1 refl refl }) (λ v has. (below v has, tt)) (record { routers = tt; rows = tt }))
  where
    below : (v : Option ℕ) → Contains (kept_at empty (got_from one)) v → IsBelow v 1
    below v has = subst (λ (w : Option ℕ). IsBelow w 1) (sym (only_value None v (subst (λ (vs : List (Option ℕ)). Contains vs v) (kept_at-empty (got_from one)) has))) tt

-- it knows no notice, though one waits
not_ended : Must IsExcused opening was_noticed (refuses was_noticed (Event.Deliver 4 Fate.Done) 0 (Refusal.Receive Refused.NoNotice)) → ⊥
unfolding cut cut_from written
not_ended must = not_done (must.done _ _ _ refl refl refl refl refl (item_authentic (answered (2 ^ 63) (mapping wide 1440 ∷ []))))

-- a router calls the reply to its last Map-Register stale, and a notice
not_counted : Must IsExcused opening one_taken (refuses one_taken (Event.Deliver 1 Fate.Done) 2 (Refusal.Notify (NotifyFault.Stale 1))) → ⊥
unfolding cut cut_from written
not_counted must = not_done (must.counted _ (heard_of 0 1 (mapping wide 1440 ∷ [])) 0 refl refl refl (hears (local_at 11) (local_at 21) 1 (mapping wide 1440 ∷ []) 0 refl one_taken refl) (omega arith) (omega arith) refl)

not_noticed_yet : Must IsExcused opening first_told (refuses first_told (Event.Deliver 2 Fate.Done) 2 (Refusal.Notify (NotifyFault.Stale 1))) → ⊥
unfolding cut cut_from written
not_noticed_yet must = not_done (must.noticed _ (heard_of 0 (2 ^ 63) (mapping wide 1440 ∷ [])) refl refl refl (hears (local_at 11) (local_at 21) (2 ^ 63) (mapping wide 1440 ∷ []) 0 refl first_told refl) (omega arith))

-- after a restart the next nonce is called a replay
abbrev sent_after_restart : List Step
sent_after_restart = sends restarted 0 2 2 ∷ restarted

next_not_accepted : Must IsExcused opening sent_after_restart (replays sent_after_restart 2 0 1) → ⊥
unfolding cut cut_from written
next_not_accepted must = not_done (must.accept _ (registers (mapping wide 1440 ∷ []) 2) refl refl (record { read = refl; secret = secret; checks = admitted (register_item opening restarted 2 0 0 2) (mapping wide 1440 ∷ []) 2 refl refl }) (λ v has. (below v has, tt)) (record { routers = tt; rows = tt }))
  where
    below : (v : Option ℕ) → Contains (kept_at (insert empty (got_from one) (Some 1 ∷ [])) (got_from one)) v → IsBelow v 2
    below v has = subst (λ (w : Option ℕ). IsBelow w 2) (sym (only_value (Some 1) v (subst (λ (vs : List (Option ℕ)). Contains vs v) (set_here empty (got_from one) (Some 1 ∷ [])) has))) (omega arith)

-- a store that keeps nothing has no last nonce
none_spent : (v : Option ℕ) → Contains (kept_at empty (sent_by one)) v → number v < last_nonce
none_spent v has = subst (λ (w : Option ℕ). number w < last_nonce) (sym (only_value None v (subst (λ (vs : List (Option ℕ)). Contains vs v) (kept_at-empty (sent_by one)) has))) (omega arith)

-- a router that is up says that it is down
not_down : Must IsExcused opening [] (step (Event.Send 2 0 0 Fate.Done) (Line.Down 2) 2 blank) → ⊥
not_down must = not_done (must.send 2 0 0 Fate.Done refl refl refl wide_whole.there none_spent)

-- the reply to the last Map-Register to a Map-Server is stale, since another one was sent to another Map-Server
not_counted_of_each : Must IsExcused opening both_taken (refuses both_taken (Event.Deliver 2 Fate.Done) 2 (Refusal.Notify (NotifyFault.Stale 2))) → ⊥
unfolding cut cut_from written
not_counted_of_each must = not_done (must.counted _ (heard_of 0 1 (mapping wide 1440 ∷ [])) 0 refl refl refl (hears (local_at 11) (local_at 21) 1 (mapping wide 1440 ∷ []) 0 refl both_taken refl) (omega arith) (omega arith) refl)

not_counted_of_the_other : Must IsExcused opening both_taken (refuses both_taken (Event.Deliver 3 Fate.Done) 2 (Refusal.Notify (NotifyFault.Stale 1))) → ⊥
unfolding cut cut_from written
not_counted_of_the_other must = not_done (must.counted _ (heard_of 1 2 (mapping wide 1440 ∷ [])) 0 refl refl refl (hears (local_at 12) (local_at 21) 2 (mapping wide 1440 ∷ []) 1 refl both_taken refl) (omega arith) (omega arith) refl)

-- the reply to the last Map-Register of the second part is stale
not_counted_of_a_part : Must IsExcused opening parts_taken (refuses parts_taken (Event.Deliver 3 Fate.Done) 2 (Refusal.Notify (NotifyFault.Stale 2))) → ⊥
unfolding cut cut_from written
not_counted_of_a_part must = not_done (must.counted _ (heard_of 0 2 []) 1 refl refl refl (hears (local_at 11) (local_at 21) 2 [] 0 refl parts_taken refl) (omega arith) (omega arith) refl)

-- no excuse: a store's fault though no device failed; memory, where it can't be refused
fault_is_no_excuse : Must IsExcused opening [] (refuses [] (Event.Send 2 0 0 Fate.Done) 2 (Refusal.Send (SendFault.Store StoreFault.Device))) → ⊥
fault_is_no_excuse must = cases (must.send 2 0 0 Fate.Done refl refl refl wide_whole.there none_spent) never (λ cause. unfailed (cause a_device))

memory_is_no_excuse : Must DeviceFailed opening [] (refuses [] (Event.Send 2 0 0 Fate.Done) 2 (Refusal.Send SendFault.OutOfMemory)) → ⊥
memory_is_no_excuse must = cases (must.send 2 0 0 Fate.Done refl refl refl wide_whole.there none_spent) never (λ cause. cause.0 refl)

-- ---- What the premises of the promises let through: traces that are clean, and entries with no change between them.

-- clean: a datagram that was overheard and is thrown in again; bytes that are no message; bytes that aren't authentic under
-- what the node holds, whatever other nodes hold
overheard : Clean opening (step (Event.Junk 0 (local_at 21) (bytes_of (register_item opening [] 2 0 0 1))) (Line.Down 0) 0 (at one_sent 0) ∷ one_sent)
overheard = (inl (record { item = register_item opening [] 2 0 0 1; sent = at_head _ []; source = refl; target = refl; same = refl }), (tt, tt))

noise : Clean opening (step (Event.Junk 0 (local_at 21) []) (Line.Down 0) 0 (at [] 0) ∷ [])
noise = (inr (inl (ReadFault.Short, short_message)), tt)

forged_at_server : (bytes : List ℕ) → is_authentic bytes secret ≡ false → Clean opening (refuses [] (Event.Junk 0 (local_at 21) bytes) 0 (Refusal.Receive Refused.BadAuth) ∷ [])
forged_at_server bytes forged = (inr (inr (λ x has. subst (λ (s : List ℕ). is_authentic bytes s ≡ false) (sym (only secret x has)) forged)), tt)

forged_at_router : (bytes : List ℕ) → is_authentic bytes secret ≡ false → Clean two_keys (refuses [] (Event.Junk 2 (local_at 11) bytes) 2 (Refusal.Notify NotifyFault.BadAuth) ∷ [])
forged_at_router bytes forged = (inr (inr (λ x has. subst (λ (s : List ℕ). is_authentic bytes s ≡ false) (sym (only secret x has)) forged)), tt)

-- unclean: what nobody sent, and is authentic under the secret; a datagram that was overheard, from another source or at another
-- Map-Server
-- bytes of an item of the first router that are no echo aren't harmless
no_echo : (T : List Step) (node : ℕ) (from : Addr) (i : Item) → i.secret ≡ secret → IsMessage i.message → secrets_of opening T node ≡ secret ∷ []
    → (IsEcho (bag opening T) from (address_at network node) (bytes_of i) → ⊥) → IsHarmless opening T (Event.Junk node from (bytes_of i)) → ⊥
no_echo T node from i key said secrets none (inl echo) = none echo
no_echo T node from i key said secrets none (inr (inl (fault, is))) = let clash : ◌≡◌ {A = Result MessageValue ReadFault} (Ok i.message) (Err fault) = sym (item_reads i said) ∙ is in absurd cc
no_echo T node from i key said secrets none (inr (inr forged)) = true≢false (sym (item_authentic i) ∙ forged i.secret (subst (λ (xs : List (List ℕ)). Contains xs i.secret) (sym secrets) (subst (λ (x : List ℕ). Contains (secret ∷ []) x) (sym key) (at_head secret []))))

first_said : IsMessage first_item.message
unfolding cut cut_from written
first_said = fits (mapping wide 1440 ∷ []) 1 (omega arith) (wide_record 1440 (omega arith))

sent_by_nobody : Clean opening (step (Event.Junk 0 (local_at 21) (bytes_of first_item)) (Line.Down 0) 0 blank ∷ []) → ⊥
sent_by_nobody clean = by clean.0
  where
    by : IsEcho [] (local_at 21) (local_at 11) (bytes_of first_item) ⊎ (IsNoise (bytes_of first_item) ⊎ IsForged (secret ∷ []) (bytes_of first_item)) → ⊥
    by (inl echo) = in_none echo.item echo.sent
    by (inr (inl (fault, is))) = let clash : ◌≡◌ {A = Result MessageValue ReadFault} (Ok first_item.message) (Err fault) = sym (item_reads first_item first_said) ∙ is in absurd cc
    by (inr (inr forged)) = true≢false (sym (item_authentic first_item) ∙ forged secret (at_head secret []))

from_another : Clean opening (step (Event.Junk 0 (local_at 22) (bytes_of first_item)) (Line.Down 0) 0 blank ∷ one_sent) → ⊥
from_another clean = no_echo one_sent 0 (local_at 22) first_item refl first_said refl (λ echo.
    let source : local_at 21 ≡ local_at 22 = sym (ap (λ (i : Item). i.from) (only first_item echo.item echo.sent)) ∙ echo.source in
    let last : ◌≡◌ {A = ℕ} 21 22 = cc in
    absurd (omega (arith, last))) clean.0

to_another : Clean opening (step (Event.Junk 1 (local_at 21) (bytes_of first_item)) (Line.Down 0) 1 blank ∷ one_sent) → ⊥
to_another clean = no_echo one_sent 1 (local_at 21) first_item refl first_said refl (λ echo.
    let target : local_at 11 ≡ local_at 12 = sym (ap (λ (i : Item). i.to) (only first_item echo.item echo.sent)) ∙ echo.target in
    let last : ◌≡◌ {A = ℕ} 11 12 = cc in
    absurd (omega (arith, last))) clean.0

-- no change between two sends: nothing; a restart of the router without a database; another router's change, and its restart
-- with a database
sent_unchanged : NoChange both_sent first_entry (record { router = 2; key = 1; nonce = 2; server = 1; database = mapping wide 1440 ∷ []; part = 0; position = 1 })
sent_unchanged = record { router = refl; later = λ place s low high is. absurd (omega (arith, low, high)); earlier = λ place s low high is. absurd (omega (arith, low, high)) }

abbrev third_entry : List MapRecordValue → SentRegister
third_entry db = record { router = 2; key = 1; nonce = 2; server = 0; database = db; part = 0; position = 2 }

unchanged_by : (T : List Step) (s : Step) → slice_get (reverse T) 1 ≡ Some s → gives_database s.event 2 ≡ false → NoChange T first_entry (third_entry (mapping wide 1440 ∷ []))
unchanged_by T s there none = record { router = refl; later = between; earlier = λ place t low high is. absurd (omega (arith, low, high)) }
  where
    between : Keeps T 2 0 2
    between place t low high is =
        let at : place ≡ 1 = omega (arith, low, high) in
        let same : s ≡ t = some_same s t (sym there ∙ sym (ap (slice_get (reverse T)) at) ∙ is) in
        subst (λ (x : Step). gives_database x.event 2 ≡ false) same none

-- the second of two sends, after a step between
abbrev sent_after_step : Step → List Step
sent_after_step s = sends (s ∷ one_sent) 0 2 1 ∷ s ∷ one_sent

unchanged_by_a_restart : NoChange (sent_after_step (restarts one_sent 2)) first_entry (third_entry (mapping wide 1440 ∷ []))
unchanged_by_a_restart = unchanged_by (sent_after_step (restarts one_sent 2)) (restarts one_sent 2) refl refl

unchanged_by_another : NoChange (sent_after_step (step (Event.Change 3 []) (Line.Changed 3 0) 3 blank)) first_entry (third_entry (mapping wide 1440 ∷ []))
unchanged_by_another = unchanged_by (sent_after_step (step (Event.Change 3 []) (Line.Changed 3 0) 3 blank)) (step (Event.Change 3 []) (Line.Changed 3 0) 3 blank) refl refl

unchanged_by_anothers_restart : NoChange (sent_after_step (step (Event.Restart 3 0 (Some [])) (Line.Restarted 3) 3 blank)) first_entry (third_entry (mapping wide 1440 ∷ []))
unchanged_by_anothers_restart = unchanged_by (sent_after_step (step (Event.Restart 3 0 (Some [])) (Line.Restarted 3) 3 blank)) (step (Event.Restart 3 0 (Some [])) (Line.Restarted 3) 3 blank) refl refl

-- a change between: the router's own, by an event or at a start
sent_changed : NoChange two_sent first_entry (third_entry short) → ⊥
sent_changed n = absurd (true≢false (n.later 1 (changes one_sent short) (omega arith) (omega arith) refl))

sent_restarted : NoChange (sent_after_step restarted_changed) first_entry (third_entry short) → ⊥
sent_restarted n = absurd (true≢false (n.later 1 restarted_changed (omega arith) (omega arith) refl))

-- of longer traces: a change before both sends, or between two of three; entries in the other order; entries of two routers
abbrev entry_at : ℕ → ℕ → ℕ → SentRegister
entry_at router nonce position = record { router = router; key = 1; nonce = nonce; server = 0; database = short; part = 0; position = position }

changed_before : NoChange (sends (sends (changes [] short ∷ []) 0 1 0 ∷ changes [] short ∷ []) 0 2 1 ∷ sends (changes [] short ∷ []) 0 1 0 ∷ changes [] short ∷ []) (entry_at 2 1 1) (entry_at 2 2 2)
changed_before = record { router = refl; later = λ place s low high is. absurd (omega (arith, low, high)); earlier = λ place s low high is. absurd (omega (arith, low, high)) }

abbrev sent_thrice : List Step
sent_thrice = sends (changes (sends one_sent 0 2 1 ∷ one_sent) short ∷ sends one_sent 0 2 1 ∷ one_sent) 0 3 2 ∷ changes (sends one_sent 0 2 1 ∷ one_sent) short ∷ sends one_sent 0 2 1 ∷ one_sent

changed_between : NoChange sent_thrice (entry_at 2 2 1) (entry_at 2 3 3) → ⊥
changed_between n = absurd (true≢false (n.later 2 (changes (sends one_sent 0 2 1 ∷ one_sent) short) (omega arith) (omega arith) refl))

changed_between_backwards : NoChange sent_thrice (entry_at 2 3 3) (entry_at 2 2 1) → ⊥
changed_between_backwards n = absurd (true≢false (n.earlier 2 (changes (sends one_sent 0 2 1 ∷ one_sent) short) (omega arith) (omega arith) refl))

of_two_routers : NoChange both_sent (entry_at 2 1 0) (entry_at 3 1 1) → ⊥
of_two_routers n = let same : ◌≡◌ {A = ℕ} 2 3 = n.router in absurd (omega (arith, same))

-- unclean: a step before the last one; other bytes between the same addresses as a datagram's
unclean_before : Clean opening (ticks [] 1 1 ∷ step (Event.Junk 0 (local_at 21) (bytes_of first_item)) (Line.Down 0) 0 blank ∷ []) → ⊥
unclean_before clean = sent_by_nobody clean.1

abbrev other_item : Item
other_item = record first_item { message = Registers (registers short 9) }

other_said : IsMessage other_item.message
other_said = fits short 9 (omega arith) (wide_record 60 (omega arith))

other_bytes : Clean opening (step (Event.Junk 0 (local_at 21) (bytes_of other_item)) (Line.Down 0) 0 blank ∷ one_sent) → ⊥
unfolding cut cut_from written
other_bytes clean = no_echo one_sent 0 (local_at 21) other_item refl other_said refl (λ echo.
    let read : ◌≡◌ {A = Result MessageValue ReadFault} (Ok first_item.message) (Ok other_item.message) = sym (item_reads first_item first_said) ∙ ap (λ (i : Item). message_at (bytes_of i)) (sym (only first_item echo.item echo.sent)) ∙ ap message_at echo.same ∙ item_reads other_item other_said in
    let message : registers (mapping wide 1440 ∷ []) 1 ≡ registers short 9 = cc in
    absurd (omega (arith, ap (λ (m : MapRegisterValue). m.nonce) message))) clean.0

-- ---- Which configurations are a network's, and which aren't.

differ : (a b : Addr) → (last_byte a ≡ last_byte b → ⊥) → a ≢ b
differ a b bytes same = bytes (ap last_byte same)

addresses_differ : AllPairs (λ a b. a ≢ b) (addresses network)
addresses_differ zero zero d low high = absurd (omega (arith, low))
addresses_differ zero (suc zero) d low high = differ (local_at 11) (local_at 12) (λ e. absurd (omega (arith, e)))
addresses_differ zero (suc (suc zero)) d low high = differ (local_at 11) (local_at 21) (λ e. absurd (omega (arith, e)))
addresses_differ zero (suc (suc (suc zero))) d low high = differ (local_at 11) (local_at 22) (λ e. absurd (omega (arith, e)))
addresses_differ (suc zero) (suc zero) d low high = absurd (omega (arith, low))
addresses_differ (suc zero) (suc (suc zero)) d low high = differ (local_at 12) (local_at 21) (λ e. absurd (omega (arith, e)))
addresses_differ (suc zero) (suc (suc (suc zero))) d low high = differ (local_at 12) (local_at 22) (λ e. absurd (omega (arith, e)))
addresses_differ (suc (suc zero)) (suc (suc zero)) d low high = absurd (omega (arith, low))
addresses_differ (suc (suc zero)) (suc (suc (suc zero))) d low high = differ (local_at 21) (local_at 22) (λ e. absurd (omega (arith, e)))
addresses_differ i (suc (suc (suc (suc j)))) d low high = absurd (omega (arith, high))
addresses_differ (suc i) zero d low high = absurd (omega (arith, low))
addresses_differ (suc (suc i)) (suc zero) d low high = absurd (omega (arith, low))
addresses_differ (suc (suc (suc i))) _ d low high = absurd (omega (arith, low))

identities_differ : AllPairs (λ a b. a.me ≢ b.me) network.routers
identities_differ zero (suc zero) d low high = λ e. let last : ◌≡◌ {A = ℕ} 10 11 = ap (λ (r : RouterId). slice_index_or r.xtr 15 0) e in absurd (omega (arith, last))
identities_differ zero zero d low high = absurd (omega (arith, low))
identities_differ i (suc (suc j)) d low high = absurd (omega (arith, high))
identities_differ (suc i) _ d low high = absurd (omega (arith, low))

two_servers_differ : AllPairs {X = ℕ} (λ a b. a ≢ b) (0 ∷ 1 ∷ [])
two_servers_differ zero (suc zero) d low high = λ e. absurd (omega (arith, e))
two_servers_differ zero zero d low high = absurd (omega (arith, low))
two_servers_differ i (suc (suc j)) d low high = absurd (omega (arith, high))
two_servers_differ (suc i) _ d low high = absurd (omega (arith, low))

one_server_differs : AllPairs {X = ℕ} (λ a b. a ≢ b) (0 ∷ [])
one_server_differs i zero d low high = absurd (omega (arith, low))
one_server_differs i (suc j) d low high = absurd (omega (arith, high))

-- the small network is one
is_network : IsNetwork network
is_network = record {
  addresses = addresses_differ;
  routers = identities_differ;
  servers = (record { there = (omega arith, (omega arith, tt)); once = two_servers_differ }, (record { there = (omega arith, tt); once = one_server_differs }, tt));
}

-- not one: two nodes of one address; two routers of one identity; a router that names no Map-Server, or one twice
abbrev router_with : Addr → RouterId → List ℕ → ConfigValue
router_with address me servers = record network { routers = router_at network 2 ∷ record (router_at network 3) { address = address; me = me; servers = servers } ∷ [] }

alike_addresses : IsNetwork (router_with (local_at 11) two (0 ∷ [])) → ⊥
alike_addresses n = n.addresses 0 3 (V4 []) (omega arith) (omega arith) refl

alike_routers : IsNetwork (router_with (local_at 22) one (0 ∷ [])) → ⊥
alike_routers n = n.routers 0 1 (router_at network 2) (omega arith) (omega arith) refl

no_such_server : IsNetwork (router_with (local_at 22) two (2 ∷ [])) → ⊥
no_such_server n = let low : 2 < 2 = n.servers.1.0.there.0 in absurd (omega (arith, low))

server_twice : IsNetwork (router_with (local_at 22) two (0 ∷ 0 ∷ [])) → ⊥
server_twice n = n.servers.1.0.once 0 1 0 (omega arith) (omega arith) refl

-- ---- A site that may have one live row: a Map-Register of two records is refused, and leaves nothing behind.

-- ---- the network, and its trace

-- the site may have one live row; the first router has two records
abbrev two_records : List MapRecordValue
two_records = mapping wide 1440 ∷ mapping narrow 1440 ∷ []

abbrev limited : Opening
limited = record opening { config = record network { sites = (record site { limits = record no_limits { most_rows = Some 1 } }) ∷ []; routers = record (router_at network 2) { database = two_records } ∷ [] } }

-- it sends them to the first Map-Server
abbrev limited_sent : List Step
limited_sent = step (Event.Send 2 0 0 Fate.Done) (Line.Sent 2 0 0 1 1 0) 2 (keeps blank (sent_by one) 1) ∷ []

abbrev both_item : Item
both_item = record { from = local_at 21; to = local_at 11; secret = secret; message = Registers (registers two_records 1) }

-- which refuses them; which accepts them
abbrev refuses_both : Refusal → Step
refuses_both why = step (Event.Deliver 0 Fate.Done) (Line.Refused 0 why) 0 blank

abbrev takes_both : Step
takes_both = step (Event.Deliver 0 Fate.Done) (Line.Accepted 0 one 1 1 (Some 1)) 0 (keeps blank (got_from one) 1)

-- the two records are a database of one part
two_are_records : AreRecords two_records
unfolding masked
two_are_records = (
  omega arith,
  (
    record { ttl = omega arith; act = omega arith; version = omega arith; block = (omega arith, refl); eid = record { width = refl; bytes = (omega arith, (omega arith, (omega arith, (omega arith, tt)))) }; count = omega arith; locators = tt },
    (record { ttl = omega arith; act = omega arith; version = omega arith; block = (omega arith, refl); eid = record { width = refl; bytes = (omega arith, (omega arith, (omega arith, (omega arith, tt)))) }; count = omega arith; locators = tt }, tt),
  ),
)

two_whole : IsOnePart two_records
unfolding cut cut_from written repeats_in masked
two_whole = record { database = refl; there = omega arith; alone = refl; records = two_are_records }

limited_sent_legal : LegalTrace limited limited_sent
unfolding cut cut_from written
limited_sent_legal = (
  send_legal (omega arith) refl refl refl refl refl two_whole.database two_whole.there refl None (fresh_value (sent_by one)) refl (omega arith) refl
      (record { nonce = omega arith; key = omega arith; records = two_whole.records; xtr = refl; xtr_bytes = search rules; site = omega arith })
      (saved _ (sent_by one) 1 (λ obeys clash. absurd cc) refl),
  tt,
)

-- it passes the checks up to its nonce
both_admitted : secret_under limited.config.sites both_item.from (bytes_of both_item) (registers two_records 1) ≡ Ok secret
unfolding secret_under masked
both_admitted = let tag : is_authentic (bytes_of both_item) secret ≡ true = item_authentic both_item in rw tag refl

-- what it would hold with them is too much
abbrev both_arrived : Acceptance
both_arrived = arrived two_records 1

keys_differ : AllPairs {X = RouterId × PrefixValue} (λ a b. a ≢ b) ((one, wide) ∷ (one, narrow) ∷ [])
keys_differ zero (suc zero) d low high = λ e. let masks : ◌≡◌ {A = ℕ} 16 24 = ap (λ (k : RouterId × PrefixValue). k.1.mask_len) e in absurd (omega (arith, masks))
keys_differ zero zero d low high = absurd (omega (arith, low))
keys_differ i (suc (suc j)) d low high = absurd (omega (arith, high))
keys_differ (suc i) _ d low high = absurd (omega (arith, low))

both_are_too_many : IsFull None (Some 1) 1 (held_rows [] 0) (held_rows (both_arrived ∷ []) 0) Rows
both_are_too_many = (tt, ((one, narrow), (refl, refl), ((λ was. absurd cc), ((one, wide) ∷ (one, narrow) ∷ [], omega arith, keys_differ, All-from_recursion (HasRow (held_rows (both_arrived ∷ []) 0) 1) ((one, wide) ∷ (one, narrow) ∷ []) ((refl, refl), ((refl, refl), tt))))))

-- ---- it is refused as a whole

refused_as_full : LegalTrace limited (refuses_both (Refusal.Receive (Refused.Full 1 Rows)) ∷ limited_sent)
unfolding cut cut_from written
refused_as_full = (
  legal (omega arith) refl (record {
    item = both_item;
    sent = refl;
    there = refl;
    arrives = (
      record { kind = refl; acts = refl },
      record {
        message = registers two_records 1;
        admits = record { read = refl; secret = secret; checks = both_admitted };
        its = refl;
        fresh = record { base = None; counts = fresh_value (got_from one); above = tt; near = tt; loads = λ none obeys clash. absurd cc };
        lacks = both_are_too_many;
        same = refl;
      },
    );
  }),
  limited_sent_legal,
)

-- it is accepted
accepted_though_full : Legal limited limited_sent takes_both → ⊥
unfolding cut cut_from written
accepted_though_full l =
    let item : both_item ≡ l.row.item = some_same _ _ l.row.sent in
    let message : registers two_records 1 ≡ l.row.arrives.message = register_is _ _ _ _ item refl l.row.arrives.admits.read in
    let t = context_of limited limited_sent takes_both in
    let space : HasSpace t (arrival_of both_item) (registers two_records 1) = subst (λ (i : Item). HasSpace t (arrival_of i) (registers two_records 1)) (sym item) (subst (HasSpace t (arrival_of l.row.item)) (sym message) l.row.arrives.space) in
    full_or_fits None (Some 1) 1 (held_rows [] 0) (held_rows (both_arrived ∷ []) 0) Rows space both_are_too_many

-- its nonce is kept though it is refused
kept_though_full : Legal limited limited_sent (record (refuses_both (Refusal.Receive (Refused.Full 1 Rows))) { shown = keeps blank (got_from one) 1 }) → ⊥
kept_though_full l = nothing_is_no_number (sym (kept_at-empty (got_from one)) ∙ ap (λ (k : Kept). kept_at k (got_from one)) (sym l.row.arrives.1.same) ∙ set_here empty (got_from one) (Some 1 ∷ []))

-- another limit is named
told_of_routers : Legal limited limited_sent (refuses_both (Refusal.Receive (Refused.Full 1 Routers))) → ⊥
unfolding cut cut_from written
told_of_routers l =
    let message : registers two_records 1 ≡ l.row.arrives.1.message = register_is both_item _ _ _ (some_same both_item _ l.row.sent) refl l.row.arrives.1.admits.read in
    let t = context_of limited limited_sent (refuses_both (Refusal.Receive (Refused.Full 1 Routers))) in
    subst (λ (m : MapRegisterValue). LacksSpace t (arrival_of l.row.item) m Routers) (sym message) l.row.arrives.1.lacks

-- another site is named
told_of_another_site : Legal limited limited_sent (refuses_both (Refusal.Receive (Refused.Full 2 Rows))) → ⊥
unfolding cut cut_from written
told_of_another_site l =
    let message : registers two_records 1 ≡ l.row.arrives.1.message = register_is both_item _ _ _ (some_same both_item _ l.row.sent) refl l.row.arrives.1.admits.read in
    absurd (omega (arith, l.row.arrives.1.its ∙ ap (λ (m : MapRegisterValue). m.site) (sym message)))

-- a site without limits is called full
full_though_unlimited : Legal opening one_sent (step (Event.Deliver 0 Fate.Done) (Line.Refused 0 (Refusal.Receive (Refused.Full 1 Rows))) 0 blank) → ⊥
unfolding cut cut_from written
full_though_unlimited l =
    let message : first ≡ l.row.arrives.1.message = register_is first_item _ _ _ (some_same first_item _ l.row.sent) refl l.row.arrives.1.admits.read in
    let t = context_of opening one_sent (step (Event.Deliver 0 Fate.Done) (Line.Refused 0 (Refusal.Receive (Refused.Full 1 Rows))) 0 blank) in
    let lacks : LacksSpace t (arrival_of l.row.item) first Rows = subst (λ (m : MapRegisterValue). LacksSpace t (arrival_of l.row.item) m Rows) (sym message) l.row.arrives.1.lacks in
    lacks.1

-- its save fails, though it comes to none
saved_though_full : Legal limited limited_sent (record (refuses_both (Refusal.Receive (Refused.StoreSave StoreFault.Device))) { shown = record blank { faults = 1 } }) → ⊥
unfolding cut cut_from written
saved_though_full l =
    let item : both_item ≡ l.row.item = some_same _ _ l.row.sent in
    let message : registers two_records 1 ≡ l.row.arrives.1.message = register_is _ _ _ _ item refl l.row.arrives.1.admits.read in
    let t = context_of limited limited_sent (record (refuses_both (Refusal.Receive (Refused.StoreSave StoreFault.Device))) { shown = record blank { faults = 1 } }) in
    let space : HasSpace t (arrival_of both_item) (registers two_records 1) = subst (λ (i : Item). HasSpace t (arrival_of i) (registers two_records 1)) (sym item) (subst (HasSpace t (arrival_of l.row.item)) (sym message) l.row.arrives.1.space) in
    full_or_fits None (Some 1) 1 (held_rows [] 0) (held_rows (both_arrived ∷ []) 0) Rows space both_are_too_many

-- a replay is told as full
abbrev remembers : Opening
remembers = record limited { stores = keeps blank (got_from one) 1 ∷ blank ∷ blank ∷ [] }

full_though_replayed : Legal remembers limited_sent (record (refuses_both (Refusal.Receive (Refused.Full 1 Rows))) { shown = keeps blank (got_from one) 1 }) → ⊥
unfolding cut cut_from written
full_though_replayed l =
    let message : registers two_records 1 ≡ l.row.arrives.1.message = register_is both_item _ _ _ (some_same both_item _ l.row.sent) refl l.row.arrives.1.admits.read in
    let t = context_of remembers limited_sent (record (refuses_both (Refusal.Receive (Refused.Full 1 Rows))) { shown = keeps blank (got_from one) 1 }) in
    let fresh : IsFresh t (registers two_records 1) = subst (IsFresh t) (sym message) l.row.arrives.1.fresh in
    absurd (omega (arith, subst (λ (b : Option ℕ). IsBelow b 1) (only_set_of (got_from one) _ fresh.base (Some 1) fresh.counts) fresh.above))

-- ---- what must be accepted, and what is promised

-- it needn't be accepted
full_need_not_be_accepted : MustAccept IsExcused (context_of limited limited_sent (refuses_both (Refusal.Receive (Refused.Full 1 Rows)))) (Event.Deliver 0 Fate.Done) (Line.Refused 0 (Refusal.Receive (Refused.Full 1 Rows)))
unfolding cut cut_from written
full_need_not_be_accepted a m arrives server admits follows space =
    let t = context_of limited limited_sent (refuses_both (Refusal.Receive (Refused.Full 1 Rows))) in
    let same : arrival_of both_item ≡ a = some_same _ _ arrives in
    let read : ◌≡◌ {A = Result MessageValue ReadFault} (Ok (Registers (registers two_records 1))) (Ok (Registers m)) = ap (λ (x : Arrival). x.read) same ∙ admits.read in
    let message : registers two_records 1 ≡ m = cc in
    absurd (full_or_fits None (Some 1) 1 (held_rows [] 0) (held_rows (both_arrived ∷ []) 0) Rows (subst (λ (x : Arrival). HasSpace t x (registers two_records 1)) (sym same) (subst (HasSpace t a) (sym message) space)) both_are_too_many)

-- a Map-Server that accepted it holds more than the site may have
held_beyond_the_limit : SitesStayWithin limited (takes_both ∷ limited_sent) → ⊥
unfolding cut cut_from written
held_beyond_the_limit within = full_or_fits None (Some 1) 1 (held_rows [] 0) (held_rows (both_arrived ∷ []) 0) Rows (record { routers = tt; rows = inr ((within 0 1).rows 1 refl) }) both_are_too_many
