-- Steps that are illegal: each would be legal but for one thing.
use Rattle.std.proofs.Common.{[], List, None, Ok, Option, Some, ap, false, refl, subst, sym, true, ℕ, ◌∙◌, ◌∷◌, ◌≡◌, arith, slice_index_or, true≢false, Err}
use Rattle.std.specs.FinMap.{insert, empty}
use Rattle.std.specs.List.{Contains}
use Rattle.std.specs.Prelude.{Result, ◌-◌, ◌<◌, ◌^◌, ◌⊎◌, if◌then◌else◌, ◌+◌, ◌≤◌, slice_get, ◌++◌}
use Rattle.lisp_records.specs.Database.{database_of, repeats as repeats_in}
use Rattle.lisp_records.specs.Parts.{cut, cut_from}
use Rattle.lisp_records.specs.Written.{written}
use Rattle.lisp_records.specs.Record.{MapRecordValue}
use Rattle.lisp_records.specs.declared.database.DatabaseFault.{DatabaseFault}
use Rattle.lisp_records.specs.declared.database.DatabaseFault.TheVariants.{RepeatedPrefix}
use Rattle.lisp_nonces.specs.Kept.{Kept, kept_at, number, SameElsewhere, picked, with_value}
use Rattle.lisp_nonces.specs.declared.pair.Pair.{Pair}
use Rattle.lisp_messages.specs.Message.{MapNotifyValue, MapRegisterValue, MessageValue, Notifies, Registers}
use Rattle.lisp_messages.specs.Reading.{kind_at, message_at, records_at, register_at}
use Rattle.lisp_model.specs.Bag.{Item, register_item, arrival_of, bytes_of, since_start, junk_arrival, bag}
use Rattle.lisp_model.specs.Held.{Acceptance, last_of}
use Rattle.lisp_model.specs.Timers.{Notice}
use Rattle.lisp_model.specs.Story.{mapping, opening, wide, at, blank, got_from, keeps, local_at, network, one, one_sent, one_taken, replays, secret, site, step, takes, two, sent_by, sends, counts}
use Rattle.lisp_model.proofs.Examples.Steps.{registers, answered, fails_load, refuses, told, told_to, first_told, foreign, foreign_sent, restarted, sent_twice, was_noticed, failed, repeats, spent, tells, registered_again, spent_taken, told_and_gone, waited, blocks, one_left, one_left_taken, changes, not_started, short, heard_of, notices, told_again, counts_part, doubts, sends_part, parts_sent_again, parts_taken, ticks, answered_elsewhere, Event, Fate, Line, NoticeFault, NotifyFault, PairKind, ReadFault, Refusal, Refused, RotateFault, SendFault, StartFault, StoreFault}
use Rattle.lisp_model.proofs.Examples.Steps.{fits, strange_refused, told_reads, kinds_differ, bad_tag, is_not_allowed, item_authentic, hears, short_heard}
use Rattle.lisp_model.proofs.KeptLemmas.{only_value, set_here, set_others}
use Rattle.std.proofs.lemmas.Option.{none-some}
use Rattle.lisp_records.specs.declared.router.RouterId.{RouterId}
use Rattle.lisp_nonces.proofs.Kept.{kept_at-empty}
use Rattle.lisp_messages.specs.Authentic.{is_authentic}
use Rattle.lisp_admission.specs.Checks.{secret_under}
use Rattle.lisp_admission.specs.Pairs.{pair_of, router_of, notice_pair}
use Rattle.lisp_admission.specs.NoticeTimer.{due_after}
use Rattle.lisp_admission.specs.Nonces.{IsBelow}
use Rattle.lisp_model.specs.Legal.{Legal, context_of}
use Rattle.lisp_model.specs.Receiving.{FailsCheck, IsFresh, IsToAccept, awaiting, has_tag_for}
use Rattle.lisp_model.specs.Trace.{node_at, Step, ShownStore, key, Opening}
use Rattle.lisp_model.specs.Context.{IsBase}
use Rattle.lisp_etr.specs.Sending.{block_end, last_nonce}
use Rattle.lisp_etr.specs.Hearing.{ServerNotify, checked_notify}
use Rattle.lisp_model.specs.Counted.{notify_at}
use Rattle.lisp_model.specs.Hearing.{line_of, Hears, heard_line}
use Rattle.lisp_model.specs.Numbers.{numbers_below}
use Rattle.lisp_model.proofs.HeardLines.{comes_to}
use Rattle.lisp_records.specs.Moment.{max_moment}
use Rattle.lisp_model.proofs.Examples.LegalRows.{back, emptied, keeps_its_key, loses, loses_and_fails, not_emptied, other_number, renewed, rotates, rotating, sends_under, sent_back, shows, started, under, keys_differ}
use Rattle.lisp_model.proofs.ListLemmas.{at_head, in_none, cases, some_same, err_clash}

-- the one value that was set, and none before
pub only_set_of : (pair : Pair) (kept : Kept) (base v : Option ℕ) → Contains (kept_at (insert kept pair (v ∷ [])) pair) base → base ≡ v
only_set_of pair kept base v has = only_value v base (subst (λ (vs : List (Option ℕ)). Contains vs base) (set_here kept pair (v ∷ [])) has)

-- the first router's first Map-Register, as a message and as a datagram
abbrev pub first : MapRegisterValue
first = registers (mapping wide 1440 ∷ []) 1

abbrev pub first_item : Item
first_item = register_item opening [] 2 0 0 1

-- the number of the only value that is kept
pub number_of : {vs : List (Option ℕ)} (v : Option ℕ) {base : Option ℕ} → vs ≡ v ∷ [] → Contains vs base → number base ≡ number v
number_of v {base} one has = ap number (only_value v base (subst (λ (vs : List (Option ℕ)). Contains vs base) one has))

pub nothing_is_no_number : {n : ℕ} → ◌≡◌ {A = List (Option ℕ)} (None ∷ []) (Some n ∷ []) → ⊥
nothing_is_no_number e = absurd cc

-- the Map-Register of what arrives, and the Map-Notify or Map-Notify-Ack
pub register_is : (i j : Item) (m n : MapRegisterValue) → i ≡ j → i.message ≡ Registers m → ◌≡◌ {A = Result MessageValue ReadFault} (Ok j.message) (Ok (Registers n)) → m ≡ n
register_is i j m n same says read = let both : ◌≡◌ {A = Result MessageValue ReadFault} (Ok (Registers m)) (Ok (Registers n)) = ap Ok (sym says) ∙ ap (λ (x : Item). Ok x.message) same ∙ read in cc

-- the message of what the first datagram is taken for
pub is_first : {i : Item} {m : MapRegisterValue} → ◌≡◌ {A = Option Item} (Some first_item) (Some i) → ◌≡◌ {A = Result MessageValue ReadFault} (Ok i.message) (Ok (Registers m)) → first ≡ m
unfolding cut cut_from written
is_first sent read = register_is first_item _ _ _ (some_same first_item _ sent) refl read

pub notify_is : (m n : MapNotifyValue) → ◌≡◌ {A = Result MessageValue ReadFault} (Ok (Notifies m)) (Ok (Notifies n)) → m ≡ n
notify_is m n e = cc

pub same_notify : {r : Result MessageValue ReadFault} {m n : MapNotifyValue} → r ≡ Ok (Notifies m) → r ≡ Ok (Notifies n) → m ≡ n
same_notify one other = notify_is _ _ (sym one ∙ other)

-- what can't be so
pub never : false ≡ true → ⊥
never e = absurd cc

-- a device failed, though no count rose
pub unfailed : (0 < 0) ⊎ (◌≡◌ {A = ℕ} 0 (2 ^ 64 - 1)) → ⊥
unfailed rose = cases rose (λ less. absurd (omega (arith, less))) (λ same. absurd (omega (arith, same)))

pub a_device : StoreFault.Device ≡ StoreFault.OutOfMemory → ⊥
a_device e = absurd cc

-- records that are no database: two of one EID-Prefix
abbrev pub repeated : List MapRecordValue
repeated = mapping wide 60 ∷ mapping wide 30 ∷ []

pub no_database : database_of repeated ≡ Ok repeated → ⊥
unfolding repeats_in
no_database fits = let clash : ◌≡◌ {A = Result (List MapRecordValue) DatabaseFault} (Err RepeatedPrefix) (Ok repeated) = fits in absurd cc

-- 32 bytes of a Map-Register without records, with bit I clear
abbrev pub bare : List ℕ
bare = 48 ∷ 0 ∷ 0 ∷ 0 ∷ 0 ∷ 0 ∷ 0 ∷ 0 ∷ 0 ∷ 0 ∷ 0 ∷ 1 ∷ 1 ∷ 2 ∷ 0 ∷ 16 ∷ 0 ∷ 0 ∷ 0 ∷ 0 ∷ 0 ∷ 0 ∷ 0 ∷ 0 ∷ 0 ∷ 0 ∷ 0 ∷ 0 ∷ 0 ∷ 0 ∷ 0 ∷ 0 ∷ []

pub bare_read : message_at bare ≡ Err ReadFault.NoIds
unfolding message_at kind_at records_at register_at
bare_read = refl

-- a Map-Register that tells of a record, and is cut in its head
abbrev pub cut_short : List ℕ
cut_short = 48 ∷ 0 ∷ 0 ∷ 1 ∷ []

-- ---- Illegal steps of a Map-Server at which a message arrives.

-- a replay
replay_accepted : Legal opening one_taken (takes one_taken 0 0 1 2) → ⊥
replay_accepted l =
    let fresh : IsFresh (context_of opening one_taken (takes one_taken 0 0 1 2)) first = subst (IsFresh (context_of opening one_taken (takes one_taken 0 0 1 2))) (sym (is_first l.row.sent l.row.arrives.admits.read)) l.row.arrives.fresh in
    absurd (omega (arith, subst (λ (b : Option ℕ). IsBelow b 1) fresh.counts fresh.above))

-- a replay after a restart
replay_after_restart : Legal opening restarted (takes restarted 0 0 1 2) → ⊥
replay_after_restart l =
    let fresh : IsFresh (context_of opening restarted (takes restarted 0 0 1 2)) first = subst (IsFresh (context_of opening restarted (takes restarted 0 0 1 2))) (sym (is_first l.row.sent l.row.arrives.admits.read)) l.row.arrives.fresh in
    absurd (omega (arith, subst (λ (b : Option ℕ). IsBelow b 1) (only_set_of (got_from one) _ fresh.base (Some 1) fresh.counts) fresh.above))

-- it is accepted though its nonce isn't kept
accepted_unsaved : Legal opening one_sent (step (Event.Deliver 0 Fate.Done) (Line.Accepted 0 one 1 1 (Some 1)) 0 blank) → ⊥
accepted_unsaved l = nothing_is_no_number (sym (kept_at-empty (got_from one)) ∙ subst (λ (m : MapRegisterValue). kept_at empty (pair_of m) ≡ Some m.nonce ∷ []) (sym (is_first l.row.sent l.row.arrives.admits.read)) l.row.arrives.kept)

-- the Map-Notify that was asked for doesn't go out
accepted_without_reply : Legal opening one_sent (step (Event.Deliver 0 Fate.Done) (Line.Accepted 0 one 1 1 None) 0 (keeps blank (got_from one) 1)) → ⊥
accepted_without_reply l =
    let clash : ◌≡◌ {A = Option ℕ} None (Some 1) = subst (λ (m : MapRegisterValue). None ≡ (if m.want_notify then Some 1 else None)) (sym (is_first l.row.sent l.row.arrives.admits.read)) l.row.arrives.reply in
    absurd cc

-- its reply stands elsewhere than at the end of the bag
replied_elsewhere : Legal opening one_sent (takes one_sent 0 0 1 2) → ⊥
replied_elsewhere l =
    let reply : ◌≡◌ {A = Option ℕ} (Some 2) (Some 1) = subst (λ (m : MapRegisterValue). Some 2 ≡ (if m.want_notify then Some 1 else None)) (sym (is_first l.row.sent l.row.arrives.admits.read)) l.row.arrives.reply in
    let place : ◌≡◌ {A = ℕ} 2 1 = cc in
    absurd (omega (arith, place))

-- the line names another router, key or nonce than the message
accepted_as_another_routers : Legal opening one_sent (step (Event.Deliver 0 Fate.Done) (Line.Accepted 0 two 1 1 (Some 1)) 0 (keeps blank (got_from one) 1)) → ⊥
accepted_as_another_routers l = absurd (omega (arith, ap (λ (r : RouterId). slice_index_or r.xtr 15 0) (l.row.arrives.who ∙ sym (ap router_of (is_first l.row.sent l.row.arrives.admits.read)))))

accepted_under_another_key : Legal opening one_sent (step (Event.Deliver 0 Fate.Done) (Line.Accepted 0 one 2 1 (Some 1)) 0 (keeps blank (got_from one) 1)) → ⊥
accepted_under_another_key l = absurd (omega (arith, l.row.arrives.under ∙ sym (ap (λ (m : MapRegisterValue). m.key_id) (is_first l.row.sent l.row.arrives.admits.read))))

accepted_with_another_nonce : Legal opening one_sent (step (Event.Deliver 0 Fate.Done) (Line.Accepted 0 one 1 2 (Some 1)) 0 (keeps blank (got_from one) 1)) → ⊥
accepted_with_another_nonce l = absurd (omega (arith, l.row.arrives.number ∙ sym (ap (λ (m : MapRegisterValue). m.nonce) (is_first l.row.sent l.row.arrives.admits.read))))

-- another server gets it
delivered_elsewhere : Legal opening one_sent (takes one_sent 0 1 1 1) → ⊥
delivered_elsewhere l =
    let item : first_item ≡ l.row.item = some_same _ _ l.row.sent in
    let there : ◌≡◌ {A = Option ℕ} (Some 0) (Some 1) = subst (λ (i : Item). node_at network i.to ≡ Some 1) (sym item) l.row.there in
    let number : ◌≡◌ {A = ℕ} 0 1 = cc in
    absurd (omega (arith, number))

-- a record of another site is accepted with the others
abbrev foreign_item : Item
foreign_item = record { from = local_at 21; to = local_at 11; secret = secret; message = Registers (registers foreign 1) }

not_allowed : {i : Item} {m : MapRegisterValue} {key : List ℕ} → ◌≡◌ {A = Option Item} (Some foreign_item) (Some i) → ◌≡◌ {A = Result MessageValue ReadFault} (Ok i.message) (Ok (Registers m)) → secret_under network.sites i.from (bytes_of i) m ≡ Ok key → ⊥
not_allowed {i} {m} {key} sent read checks =
    let item = some_same _ _ sent in
    let message = register_is _ _ _ _ item refl read in
    err_clash (sym (is_not_allowed network.sites foreign_item.from (bytes_of foreign_item) (registers foreign 1) site secret 1 refl refl (item_authentic foreign_item) refl refl strange_refused)
    ∙ subst (λ (x : Item). secret_under network.sites x.from (bytes_of x) (registers foreign 1) ≡ Ok key) (sym item) (subst (λ (x : MapRegisterValue). secret_under network.sites i.from (bytes_of i) x ≡ Ok key) (sym message) checks))

foreign_accepted : Legal opening foreign_sent (takes foreign_sent 0 0 1 1) → ⊥
unfolding cut cut_from written
foreign_accepted l = not_allowed l.row.sent l.row.arrives.admits.read l.row.arrives.admits.checks

-- the first reason isn't told: the record is checked before the nonce
wrong_order : Legal opening foreign_sent (replays foreign_sent 0 0 1) → ⊥
unfolding cut cut_from written
wrong_order l = not_allowed l.row.sent l.row.arrives.1.admits.read l.row.arrives.1.admits.checks

-- a replay is told with another number than the last nonce, or of a nonce above it
replay_with_another_number : Legal opening one_taken (replays one_taken 0 0 5) → ⊥
replay_with_another_number l =
    let counts : ◌≡◌ {A = Option ℕ} (Some 5) (Some 1) = subst (λ (m : MapRegisterValue). IsBase (last_of (pair_of m) (since_start opening one_taken 0)) (kept_at (at one_taken 0).kept (pair_of m)) (Some 5)) (sym (is_first l.row.sent l.row.arrives.1.admits.read)) l.row.arrives.1.counts in
    let number : ◌≡◌ {A = ℕ} 5 1 = cc in
    absurd (omega (arith, number))

replay_of_a_fresh_nonce : Legal opening sent_twice (replays sent_twice 2 0 1) → ⊥
unfolding cut cut_from written
replay_of_a_fresh_nonce l =
    let message : registers (mapping wide 1440 ∷ []) 2 ≡ l.row.arrives.1.message = register_is (register_item opening one_taken 2 0 0 2) _ _ _ (some_same (register_item opening one_taken 2 0 0 2) _ l.row.sent) refl l.row.arrives.1.admits.read in
    absurd (omega (arith, subst (λ (m : MapRegisterValue). m.nonce ≤ 1) (sym message) l.row.arrives.1.stale))

-- a load fails though the last nonce is in memory
load_failed_though_known : Legal opening one_taken (fails_load one_taken 0 0) → ⊥
load_failed_though_known l =
    let unknown : ◌≡◌ {A = Option ℕ} (Some 1) None = ap (λ (m : MapRegisterValue). last_of (pair_of m) (since_start opening one_taken 0)) (is_first l.row.sent l.row.arrives.1.admits.read) ∙ l.row.arrives.1.unknown in
    absurd cc

-- memory runs out for bytes whose head can't be read
no_memory_for_no_head : Legal opening [] (refuses [] (Event.Junk 0 (local_at 21) cut_short) 0 (Refusal.Receive Refused.OutOfMemory)) → ⊥
unfolding kind_at
no_memory_for_no_head l = l.row.arrives.1.0 ReadFault.Short refl

-- memory runs out for a message without records that isn't accepted
no_memory_for_no_records : Legal opening [] (refuses [] (Event.Junk 0 (local_at 21) bare) 0 (Refusal.Receive Refused.OutOfMemory)) → ⊥
no_memory_for_no_records l = cases l.row.arrives.1.1 (λ records. absurd (omega (arith, records)))
    (λ (accepts : IsToAccept (context_of opening [] (refuses [] (Event.Junk 0 (local_at 21) bare) 0 (Refusal.Receive Refused.OutOfMemory))) (junk_arrival (local_at 21) bare)).
    let clash : ◌≡◌ {A = Result MessageValue ReadFault} (Err ReadFault.NoIds) (Ok (Registers accepts.message)) = sym bare_read ∙ accepts.admits.read in absurd cc)

-- what isn't authentic is accepted
accepted_without_tag : (bytes : List ℕ) → message_at bytes ≡ Ok (Registers first) → is_authentic bytes secret ≡ false
    → Legal opening [] (step (Event.Junk 0 (local_at 21) bytes) (Line.Accepted 0 one 1 1 (Some 0)) 0 (keeps blank (got_from one) 1)) → ⊥
accepted_without_tag bytes read forged l =
    let both : ◌≡◌ {A = Result MessageValue ReadFault} (Ok (Registers first)) (Ok (Registers l.row.arrives.message)) = sym read ∙ l.row.arrives.admits.read in
    let message : first ≡ l.row.arrives.message = cc in
    let secret_is = l.row.arrives.admits.secret in
    err_clash (sym (bad_tag network.sites (local_at 21) bytes first site secret refl refl forged) ∙ subst (λ (m : MapRegisterValue). secret_under network.sites (local_at 21) bytes m ≡ Ok secret_is) (sym message) l.row.arrives.admits.checks)

-- a Map-Notify is taken for its acknowledgement
abbrev notice_back : Item
notice_back = told (local_at 21) (local_at 11) (2 ^ 63) (mapping wide 1440 ∷ [])

notice_taken_for_acknowledgement : Legal opening first_told (step (Event.Junk 0 (local_at 21) (bytes_of notice_back)) (Line.Done 0 one (2 ^ 63)) 0 (at first_told 0)) → ⊥
notice_taken_for_acknowledgement l =
    never (ap (λ (m : MapNotifyValue). m.ack) (same_notify (told_reads (local_at 21) (local_at 11) (2 ^ 63) 1440 (omega arith) (omega arith)) l.row.arrives.read) ∙ l.row.arrives.ack)

abbrev acknowledgement : MapNotifyValue
acknowledgement = record { ack = true; nonce = 2 ^ 63; key_id = 1; records = mapping wide 1440 ∷ [] }

-- what isn't authentic ends a notice
done_without_tag : (bytes : List ℕ) → message_at bytes ≡ Ok (Notifies acknowledgement) → is_authentic bytes secret ≡ false
    → Legal opening was_noticed (step (Event.Junk 0 (local_at 21) bytes) (Line.Done 0 one (2 ^ 63)) 0 (at was_noticed 0)) → ⊥
done_without_tag bytes read forged l =
    let t = context_of opening was_noticed (step (Event.Junk 0 (local_at 21) bytes) (Line.Done 0 one (2 ^ 63)) 0 (at was_noticed 0)) in
    let stands : awaiting t (local_at 21) acknowledgement ≡ Some l.row.arrives.notice = ap (awaiting t (local_at 21)) (same_notify read l.row.arrives.read) ∙ l.row.arrives.stands in
    true≢false (sym (subst (λ (n : Notice). has_tag_for t (junk_arrival (local_at 21) bytes) n ≡ true) (sym (some_same (told_to one (2 ^ 63) 2 (3000 ∷ 0 ∷ [])) _ stands)) l.row.arrives.authentic) ∙ forged)

-- an acknowledgement from another address ends it
done_from_elsewhere : (bytes : List ℕ) → message_at bytes ≡ Ok (Notifies acknowledgement)
    → Legal opening was_noticed (step (Event.Junk 0 (local_at 22) bytes) (Line.Done 0 one (2 ^ 63)) 0 (at was_noticed 0)) → ⊥
done_from_elsewhere bytes read l =
    let t = context_of opening was_noticed (step (Event.Junk 0 (local_at 22) bytes) (Line.Done 0 one (2 ^ 63)) 0 (at was_noticed 0)) in
    none-some _ (ap (awaiting t (local_at 22)) (same_notify read l.row.arrives.read) ∙ l.row.arrives.stands)

-- an acknowledgement under another key ends it
done_under_another_key : (bytes : List ℕ) → message_at bytes ≡ Ok (Notifies (record { ack = true; nonce = 2 ^ 63; key_id = 2; records = mapping wide 1440 ∷ [] }))
    → Legal opening was_noticed (step (Event.Junk 0 (local_at 21) bytes) (Line.Done 0 one (2 ^ 63)) 0 (at was_noticed 0)) → ⊥
done_under_another_key bytes read l =
    let t = context_of opening was_noticed (step (Event.Junk 0 (local_at 21) bytes) (Line.Done 0 one (2 ^ 63)) 0 (at was_noticed 0)) in
    none-some _ (ap (awaiting t (local_at 21)) (same_notify read l.row.arrives.read) ∙ l.row.arrives.stands)

-- the line names another router or nonce than the notice
its_notice : (router : RouterId) (nonce : ℕ) (l : Legal opening was_noticed (step (Event.Deliver 4 Fate.Done) (Line.Done 0 router nonce) 0 (at was_noticed 0))) → told_to one (2 ^ 63) 2 (3000 ∷ 0 ∷ []) ≡ l.row.arrives.notice
unfolding cut cut_from written
its_notice router nonce l =
    let t = context_of opening was_noticed (step (Event.Deliver 4 Fate.Done) (Line.Done 0 router nonce) 0 (at was_noticed 0)) in
    let item : answered (2 ^ 63) (mapping wide 1440 ∷ []) ≡ l.row.item = some_same _ _ l.row.sent in
    let message : acknowledgement ≡ l.row.arrives.message = notify_is _ _ (ap (λ (i : Item). Ok i.message) item ∙ l.row.arrives.read) in
    some_same _ _ (ap (λ (i : Item). awaiting t i.from acknowledgement) item ∙ ap (awaiting t l.row.item.from) message ∙ l.row.arrives.stands)

done_of_another_router : Legal opening was_noticed (step (Event.Deliver 4 Fate.Done) (Line.Done 0 two (2 ^ 63)) 0 (at was_noticed 0)) → ⊥
done_of_another_router l = absurd (omega (arith, ap (λ (r : RouterId). slice_index_or r.xtr 15 0) (l.row.arrives.who ∙ sym (ap (λ (n : Notice). n.router) (its_notice two (2 ^ 63) l)))))

done_with_another_nonce : Legal opening was_noticed (step (Event.Deliver 4 Fate.Done) (Line.Done 0 one (2 ^ 63 + 1)) 0 (at was_noticed 0)) → ⊥
done_with_another_nonce l = absurd (omega (arith, l.row.arrives.number ∙ sym (ap (λ (n : Notice). n.nonce) (its_notice one (2 ^ 63 + 1) l))))

-- an acknowledgement is refused for its tag, which is right
right_tag_refused : Legal opening was_noticed (refuses was_noticed (Event.Deliver 4 Fate.Done) 0 (Refusal.Receive Refused.BadAuth)) → ⊥
unfolding cut cut_from written
right_tag_refused l =
    let t = context_of opening was_noticed (refuses was_noticed (Event.Deliver 4 Fate.Done) 0 (Refusal.Receive Refused.BadAuth)) in
    let item : answered (2 ^ 63) (mapping wide 1440 ∷ []) ≡ l.row.item = some_same _ _ l.row.sent in
    let fails : FailsCheck t (arrival_of (answered (2 ^ 63) (mapping wide 1440 ∷ []))) (Ok (Notifies acknowledgement)) Refused.BadAuth = subst (λ (i : Item). FailsCheck t (arrival_of i) (Ok i.message) Refused.BadAuth) (sym item) l.row.arrives.1.0 in
    true≢false (sym (item_authentic (answered (2 ^ 63) (mapping wide 1440 ∷ []))) ∙ fails.0)

-- a Map-Notify is refused as an acknowledgement that no notice waits for
notify_refused_as_acknowledgement : Legal opening [] (refuses [] (Event.Junk 0 (local_at 21) (bytes_of notice_back)) 0 (Refusal.Receive Refused.NoNotice)) → ⊥
notify_refused_as_acknowledgement l =
    let t = context_of opening [] (refuses [] (Event.Junk 0 (local_at 21) (bytes_of notice_back)) 0 (Refusal.Receive Refused.NoNotice)) in
    let clash : Refused.NoNotice ≡ Refused.NotMine = subst (λ (r : Result MessageValue ReadFault). FailsCheck t (junk_arrival (local_at 21) (bytes_of notice_back)) r Refused.NoNotice) (told_reads (local_at 21) (local_at 11) (2 ^ 63) 1440 (omega arith) (omega arith)) l.row.arrives.1.0 in
    absurd cc

-- the line names another Map-Server than the one that accepts
accepted_for_another : Legal opening one_sent (step (Event.Deliver 0 Fate.Done) (Line.Accepted 1 one 1 1 (Some 1)) 0 (keeps blank (got_from one) 1)) → ⊥
accepted_for_another l = let acts : ◌≡◌ {A = ℕ} 0 1 = l.row.arrives.acts.acts in absurd (omega (arith, acts))

-- ---- Illegal steps of a Map-Server that sends a notice.

-- a record is told after a restart
told_after_restart : Legal opening told_and_gone (tells told_and_gone (2 ^ 63 + 1) 3) → ⊥
told_after_restart l = l.row.2.tells.some refl

-- the nonces of notices begin again after a restart
notices_begin_again : Legal opening registered_again (tells registered_again (2 ^ 63) 5) → ⊥
notices_begin_again l =
    let kept = set_others (at told_and_gone 0).kept (got_from one) (Some 2 ∷ []) notice_pair (λ e. absurd (kinds_differ e)) ∙ set_here (keeps blank (got_from one) 1).kept notice_pair (Some (2 ^ 63) ∷ []) in
    absurd (omega (arith, number_of (Some (2 ^ 63)) kept l.row.2.counts, l.row.2.next))

-- one goes out again though none stands
resent_without_a_notice : Legal opening one_taken (repeats one_taken 2) → ⊥
resent_without_a_notice l = never l.row.2.due

-- a notice goes out under another key than that of the router's last Map-Register
told_under_another_key : Legal opening one_taken (step (Event.Notice 0 2 Fate.Done) (Line.Notice 0 2 2 (2 ^ 63) 2) 0 (keeps (at one_taken 0) notice_pair (2 ^ 63))) → ⊥
unfolding cut cut_from written
told_under_another_key l =
    let n = l.row.2 in
    let last : record { message = registers (mapping wide 1440 ∷ []) 1; from = local_at 21; moment = 0 } ≡ n.last = some_same _ _ n.heard in
    absurd (omega (arith, n.under ∙ sym (ap (λ (a : Acceptance). a.message.key_id) last)))

-- a notice leaves out a nonce
told_past_a_nonce : Legal opening one_taken (tells one_taken (2 ^ 63 + 1) 2) → ⊥
told_past_a_nonce l =
    let kept = set_others blank.kept (got_from one) (Some 1 ∷ []) notice_pair (λ e. absurd (kinds_differ e)) ∙ kept_at-empty notice_pair in
    absurd (omega (arith, number_of None kept l.row.2.counts, l.row.2.next))

-- a notice stands elsewhere than at the end of the bag
told_elsewhere : Legal opening one_taken (tells one_taken (2 ^ 63) 3) → ⊥
told_elsewhere l = let place : ◌≡◌ {A = ℕ} 3 2 = l.row.2.place in absurd (omega (arith, place))

-- one record is called too large, or nothing
told_too_large : Legal opening one_taken (refuses one_taken (Event.Notice 0 2 Fate.Done) 0 (Refusal.Notice NoticeFault.TooLarge)) → ⊥
unfolding cut cut_from written
told_too_large l = let clash : true ≡ false = l.row.3.1 in absurd cc

told_of_nothing : Legal opening one_taken (refuses one_taken (Event.Notice 0 2 Fate.Done) 0 (Refusal.Notice NoticeFault.NotRegistered)) → ⊥
unfolding cut cut_from written
told_of_nothing l = let clash : ◌≡◌ {A = List MapRecordValue} (mapping wide 1440 ∷ []) [] = l.row.3.0 in absurd cc

-- the nonces of notices are spent before the last one
notices_not_spent : Legal opening one_taken (refuses one_taken (Event.Notice 0 2 Fate.Done) 0 (Refusal.Notice NoticeFault.NonceSpent)) → ⊥
notices_not_spent l =
    let kept = set_others blank.kept (got_from one) (Some 1 ∷ []) notice_pair (λ e. absurd (kinds_differ e)) ∙ kept_at-empty notice_pair in
    let high : 2 ^ 64 - 1 ≤ number l.row.3.1 = l.row.3.4 in absurd (omega (arith, number_of None kept l.row.3.2, high))

-- a load fails though the last nonce is in memory
load_for_a_notice_failed_though_known : Legal opening first_told (step (Event.Notice 0 2 Fate.LoadFails) (Line.Refused 0 (Refusal.Notice (NoticeFault.StoreLoad StoreFault.Device))) 0 (failed (at first_told 0))) → ⊥
load_for_a_notice_failed_though_known l = let clash : ◌≡◌ {A = Option ℕ} (Some (2 ^ 63)) None = l.row.3.1 in absurd cc

-- memory is refused where nothing is held
memory_for_no_notice : Legal opening [] (refuses [] (Event.Notice 0 2 Fate.Done) 0 (Refusal.Notice NoticeFault.OutOfMemory)) → ⊥
memory_for_no_notice l = l.row.3.1.tells.some refl

-- cases are nonces spent there
spent_for_no_notice : Legal spent [] (step (Event.Notice 0 2 Fate.Done) (Line.Refused 0 (Refusal.Notice NoticeFault.NonceSpent)) 0 (keeps blank notice_pair (2 ^ 64 - 1))) → ⊥
spent_for_no_notice l = l.row.3.0.some refl

-- memory is refused where the nonces of notices are spent
memory_before_spent_notices : Legal spent spent_taken (step (Event.Notice 0 3 Fate.Done) (Line.Refused 0 (Refusal.Notice NoticeFault.OutOfMemory)) 0 (keeps (keeps blank notice_pair (2 ^ 64 - 1)) (got_from two) 1)) → ⊥
memory_before_spent_notices l =
    let kept = set_others (keeps blank notice_pair (2 ^ 64 - 1)).kept (got_from two) (Some 1 ∷ []) notice_pair (λ e. absurd (kinds_differ e)) ∙ set_here empty notice_pair (Some (2 ^ 64 - 1) ∷ []) in
    absurd (omega (arith, number_of (Some (2 ^ 64 - 1)) kept l.row.3.1.counts, l.row.3.1.left))

-- a notice is sent again before it is due
resent_too_soon : Legal opening first_told (repeats first_told 3) → ⊥
unfolding due_after
resent_too_soon l = never l.row.2.due

-- so does one that is sent again
repeated_elsewhere : Legal opening waited (repeats waited 4) → ⊥
repeated_elsewhere l = let place : ◌≡◌ {A = ℕ} 4 3 = l.row.2.place in absurd (omega (arith, place))

-- a notice that is due isn't sent again
due_not_resent : Legal opening waited (refuses waited (Event.Resend 0 2) 0 (Refusal.Notice NoticeFault.NotDue)) → ⊥
unfolding due_after
due_not_resent l = let clash : true ≡ false = l.row.3.0 in absurd cc

-- memory is refused where nothing is due
memory_for_none_due : Legal opening first_told (refuses first_told (Event.Resend 0 2) 0 (Refusal.Notice NoticeFault.OutOfMemory)) → ⊥
unfolding due_after
memory_for_none_due l = never l.row.3.0

-- ---- Illegal steps at the ends of the nonces, and of a block of them.

-- a router sends a nonce of the notices
past_the_last_nonce : Legal spent [] (step (Event.Send 2 0 0 Fate.Done) (Line.Sent 2 0 0 1 (2 ^ 63) 0) 2 (keeps blank (sent_by one) (2 ^ 63))) → ⊥
past_the_last_nonce l = let within : 2 ^ 63 ≤ last_nonce = l.row.3.within in absurd (omega (arith, within))

-- it says that its nonces are spent where one is left
spent_with_one_left : Legal one_left [] (step (Event.Send 2 0 0 Fate.Done) (Line.Refused 2 (Refusal.Send SendFault.NonceSpent)) 2 (keeps blank (sent_by one) (2 ^ 63 - 2))) → ⊥
spent_with_one_left l = let high : last_nonce ≤ number l.row.3.1.0 = l.row.3.1.2 in absurd (omega (arith, number_of (Some (2 ^ 63 - 2)) (set_here empty (sent_by one) (Some (2 ^ 63 - 2) ∷ [])) l.row.3.1.1, high))

-- its save fails where none is left to save
save_failed_though_spent : Legal spent [] (step (Event.Send 2 0 0 Fate.Doubt) (Line.Refused 2 (Refusal.Send (SendFault.Store StoreFault.Device))) 2 (failed (keeps blank (sent_by one) (2 ^ 63 - 1)))) → ⊥
save_failed_though_spent l = absurd (omega (arith, number_of (Some (2 ^ 63 - 1)) (set_here empty (sent_by one) (Some (2 ^ 63 - 1) ∷ [])) l.row.3.1.counts, l.row.3.1.left))

-- a notice has a nonce that no message can carry
past_the_last_notice : Legal spent spent_taken (step (Event.Notice 0 3 Fate.Done) (Line.Notice 0 3 1 (2 ^ 64) 2) 0 (keeps (at [] 0) notice_pair (2 ^ 64))) → ⊥
past_the_last_notice l = let bound : 2 ^ 64 < 2 ^ 64 = l.row.2.bound in absurd (omega (arith, bound))

-- a Map-Server says that the nonces of notices are spent where one is left
notices_spent_with_one_left : Legal one_left one_left_taken (step (Event.Notice 0 3 Fate.Done) (Line.Refused 0 (Refusal.Notice NoticeFault.NonceSpent)) 0 (keeps (keeps blank notice_pair (2 ^ 64 - 2)) (got_from two) 1)) → ⊥
notices_spent_with_one_left l =
    let kept = set_others (keeps blank notice_pair (2 ^ 64 - 2)).kept (got_from two) (Some 1 ∷ []) notice_pair (λ e. absurd (kinds_differ e)) ∙ set_here empty notice_pair (Some (2 ^ 64 - 2) ∷ []) in
    let high : 2 ^ 64 - 1 ≤ number l.row.3.1 = l.row.3.4 in absurd (omega (arith, number_of (Some (2 ^ 64 - 2)) kept l.row.3.2, high))

-- a router that saves ten nonces at once saves one
saved_short_of_its_block : Legal blocks [] (step (Event.Send 2 0 0 Fate.Done) (Line.Sent 2 0 0 1 1 0) 2 (keeps blank (sent_by one) 1)) → ⊥
saved_short_of_its_block l = cases l.row.3.saves.here (λ same. nothing_is_no_number (sym (kept_at-empty (sent_by one)) ∙ sym same ∙ shows)) (λ saved.
    let one_value : ◌≡◌ {A = List (Option ℕ)} (Some 1 ∷ []) (Some 10 ∷ []) = sym shows ∙ saved.0 in
    let bound : ◌≡◌ {A = ℕ} 1 10 = cc in
    absurd (omega (arith, bound)))
  where
    shows : kept_at (insert empty (sent_by one) (Some 1 ∷ [])) (sent_by one) ≡ Some 1 ∷ []
    shows = set_here empty (sent_by one) (Some 1 ∷ [])

-- ---- Illegal steps of a router that changes its database or sends.

-- the first nonce is 1
first_is_two : Legal opening [] (sends [] 0 2 0) → ⊥
first_is_two l = absurd (omega (arith, number_of None (kept_at-empty (sent_by one)) l.row.3.counts, l.row.3.next))

-- a Map-Register goes to a Map-Server that isn't in the router's list
sent_to_unlisted : Legal opening [] (step (Event.Send 3 1 0 Fate.Done) (Line.Sent 3 1 0 1 1 0) 3 (keeps blank (sent_by two) 1)) → ⊥
sent_to_unlisted l = never l.row.3.listed

-- it stands elsewhere than at the end of the bag
sent_elsewhere : Legal opening [] (sends [] 0 1 5) → ⊥
sent_elsewhere l = let place : ◌≡◌ {A = ℕ} 5 0 = l.row.3.place in absurd (omega (arith, place))

-- a Map-Server that is in the list is called unlisted
listed_called_unlisted : Legal opening [] (refuses [] (Event.Send 2 0 0 Fate.Done) 2 (Refusal.Send SendFault.NoServer)) → ⊥
listed_called_unlisted l = let clash : true ≡ false = l.row.3.0 in absurd cc

-- the line names another key than the router's
sent_under_another_key : Legal opening [] (step (Event.Send 2 0 0 Fate.Done) (Line.Sent 2 0 0 2 1 0) 2 (keeps blank (sent_by one) 1)) → ⊥
sent_under_another_key l = let under : ◌≡◌ {A = ℕ} 2 1 = l.row.3.under in absurd (omega (arith, under))

-- the line names another router than the event
changed_of_another : Legal opening [] (step (Event.Change 2 short) (Line.Changed 3 1) 2 blank) → ⊥
changed_of_another l = let named : ◌≡◌ {A = ℕ} 3 2 = l.row.names in absurd (omega (arith, named))

-- the line counts other records than the event gives
changed_by_another_count : Legal opening [] (step (Event.Change 2 short) (Line.Changed 2 0) 2 blank) → ⊥
changed_by_another_count l = let count : ◌≡◌ {A = ℕ} 0 1 = l.row.count in absurd (omega (arith, count))

-- a router is given records that are no database
changed_to_no_database : Legal opening [] (step (Event.Change 2 repeated) (Line.Changed 2 2) 2 blank) → ⊥
changed_to_no_database l = no_database l.row.fits

-- a router that is down takes a database
changed_while_down : Legal opening not_started (changes not_started []) → ⊥
changed_while_down l = let clash : false ≡ true = l.row.acts.state in absurd cc

-- the first reason isn't told: the Map-Server is looked for before the nonces are
wrong_order_of_send : Legal opening [] (refuses [] (Event.Send 3 1 0 Fate.Done) 3 (Refusal.Send SendFault.NonceSpent)) → ⊥
wrong_order_of_send l = let clash : false ≡ true = l.row.3.0.0 in absurd cc

-- memory is refused where the Map-Server isn't in the list
memory_for_unlisted : Legal opening [] (refuses [] (Event.Send 3 1 0 Fate.Done) 3 (Refusal.Send SendFault.OutOfMemory)) → ⊥
memory_for_unlisted l = let clash : false ≡ true = l.row.3.0.0 in absurd cc

-- a router's nonces are spent before the last one
sends_not_spent : Legal opening [] (refuses [] (Event.Send 2 0 0 Fate.Done) 2 (Refusal.Send SendFault.NonceSpent)) → ⊥
sends_not_spent l = let high : last_nonce ≤ number l.row.3.1.0 = l.row.3.1.2 in absurd (omega (arith, number_of None (kept_at-empty (sent_by one)) l.row.3.1.1, high))

-- memory is refused where the nonces are spent
memory_before_spent : Legal spent [] (step (Event.Send 2 0 0 Fate.Done) (Line.Refused 2 (Refusal.Send SendFault.OutOfMemory)) 2 (keeps blank (sent_by one) (2 ^ 63 - 1))) → ⊥
memory_before_spent l = absurd (omega (arith, number_of (Some (2 ^ 63 - 1)) (set_here empty (sent_by one) (Some (2 ^ 63 - 1) ∷ [])) l.row.3.2, l.row.3.3))

-- ---- Illegal steps of a router at which a message arrives.

-- the line that a reply or notice of the first Map-Server comes to, or out of memory
comes_as : (T : List Step) (shown : ShownStore) (k nonce : ℕ) (records : List MapRecordValue) (line : Line) → key opening T 2 ≡ 1 → slice_get (bag opening T) k ≡ Some (told (local_at 11) (local_at 21) nonce records) → (i : Item) → slice_get (bag opening T) k ≡ Some i
    → Hears (context_of opening T (step (Event.Deliver k Fate.Done) line 2 shown)) (arrival_of i) line
    → (line ≡ heard_line (context_of opening T (step (Event.Deliver k Fate.Done) line 2 shown)) (heard_of 0 nonce records)) ⊎ (line ≡ Line.Refused 2 (Refusal.Notify NotifyFault.OutOfMemory))
comes_as T shown k nonce records line under is i sent row =
    comes_to _ (arrival_of i) (heard_of 0 nonce records) (subst (λ (j : Item). notify_at opening T 2 (arrival_of j) ≡ Ok (heard_of 0 nonce records)) (some_same _ _ (sym is ∙ sent)) (hears (local_at 11) (local_at 21) nonce records 0 refl T under)) line row

-- a Map-Notify counts as another server's
counted_from_other : Legal opening one_taken (counts one_taken 1 1 1) → ⊥
unfolding cut cut_from written numbers_below
counted_from_other l = cases (comes_as one_taken _ 1 1 (mapping wide 1440 ∷ []) _ refl refl l.row.item l.row.sent l.row.arrives)
    (λ (is : Line.Counted 2 1 0 1 1 ≡ Line.Counted 2 0 0 1 1). let server : ◌≡◌ {A = ℕ} 1 0 = cc in absurd (omega (arith, server))) (λ is. absurd cc)

-- a Map-Notify for an older Map-Register counts
counted_stale : Legal opening sent_twice (counts sent_twice 1 0 1) → ⊥
unfolding cut cut_from written numbers_below
counted_stale l = cases (comes_as sent_twice _ 1 1 (mapping wide 1440 ∷ []) _ refl refl l.row.item l.row.sent l.row.arrives)
    (λ (is : Line.Counted 2 0 0 1 1 ≡ Line.Refused 2 (Refusal.Notify (NotifyFault.Stale 2))). absurd cc) (λ is. absurd cc)

-- a router's answer to a notice stands elsewhere than at the end of the bag
noticed_elsewhere : Legal opening told_again (notices told_again 3 (2 ^ 63) 5) → ⊥
unfolding cut cut_from written
noticed_elsewhere l = cases (comes_as told_again _ 3 (2 ^ 63) (mapping wide 1440 ∷ []) _ refl refl l.row.item l.row.sent l.row.arrives)
    (λ (is : Line.Noticed 2 0 (2 ^ 63) 5 ≡ Line.Noticed 2 0 (2 ^ 63) 4). let place : ◌≡◌ {A = ℕ} 5 4 = cc in absurd (omega (arith, place))) (λ is. absurd cc)

-- no bytes are refused by a router for their tag
refused_otherwise : Legal opening [] (refuses [] (Event.Junk 2 (local_at 11) []) 2 (Refusal.Notify NotifyFault.BadAuth)) → ⊥
unfolding checked_notify
refused_otherwise l = cases l.row.arrives.comes
    (λ (is : Line.Refused 2 (Refusal.Notify NotifyFault.BadAuth) ≡ line_of (context_of opening [] (refuses [] (Event.Junk 2 (local_at 11) []) 2 (Refusal.Notify NotifyFault.BadAuth))) (notify_at opening [] 2 (junk_arrival (local_at 11) []))).
    let clash : Line.Refused 2 (Refusal.Notify NotifyFault.BadAuth) ≡ Line.Refused 2 (Refusal.Notify (NotifyFault.Read ReadFault.Short)) = is ∙ ap (line_of (context_of opening [] (refuses [] (Event.Junk 2 (local_at 11) []) 2 (Refusal.Notify NotifyFault.BadAuth)))) short_heard in absurd cc)
    (λ memory. let clash : Line.Refused 2 (Refusal.Notify NotifyFault.BadAuth) ≡ Line.Refused 2 (Refusal.Notify NotifyFault.OutOfMemory) = memory.2 in absurd cc)

-- memory runs out at a router for bytes whose head can't be read: 4 bytes with a Record Count of 1
cut_heard : notify_at opening [] 2 (junk_arrival (local_at 11) cut_short) ≡ Err (NotifyFault.Read ReadFault.Short)
unfolding checked_notify message_at kind_at
cut_heard = refl

no_memory_for_no_head_at_router : Legal opening [] (refuses [] (Event.Junk 2 (local_at 11) cut_short) 2 (Refusal.Notify NotifyFault.OutOfMemory)) → ⊥
unfolding kind_at
no_memory_for_no_head_at_router l = cases l.row.arrives.comes
    (λ (is : Line.Refused 2 (Refusal.Notify NotifyFault.OutOfMemory) ≡ line_of (context_of opening [] (refuses [] (Event.Junk 2 (local_at 11) cut_short) 2 (Refusal.Notify NotifyFault.OutOfMemory))) (notify_at opening [] 2 (junk_arrival (local_at 11) cut_short))).
    let clash : Line.Refused 2 (Refusal.Notify NotifyFault.OutOfMemory) ≡ Line.Refused 2 (Refusal.Notify (NotifyFault.Read ReadFault.Short)) = is ∙ ap (line_of (context_of opening [] (refuses [] (Event.Junk 2 (local_at 11) cut_short) 2 (Refusal.Notify NotifyFault.OutOfMemory)))) cut_heard in absurd cc)
    (λ memory. memory.0 ReadFault.Short refl)

-- memory runs out at a router for a message without records that isn't a notice
bare_heard : notify_at opening [] 2 (junk_arrival (local_at 11) bare) ≡ Err (NotifyFault.Read ReadFault.NoIds)
unfolding checked_notify
bare_heard = rw bare_read refl

no_memory_for_no_records_at_router : Legal opening [] (refuses [] (Event.Junk 2 (local_at 11) bare) 2 (Refusal.Notify NotifyFault.OutOfMemory)) → ⊥
no_memory_for_no_records_at_router l = cases l.row.arrives.comes
    (λ (is : Line.Refused 2 (Refusal.Notify NotifyFault.OutOfMemory) ≡ line_of (context_of opening [] (refuses [] (Event.Junk 2 (local_at 11) bare) 2 (Refusal.Notify NotifyFault.OutOfMemory))) (notify_at opening [] 2 (junk_arrival (local_at 11) bare))).
    let clash : Line.Refused 2 (Refusal.Notify NotifyFault.OutOfMemory) ≡ Line.Refused 2 (Refusal.Notify (NotifyFault.Read ReadFault.NoIds)) = is ∙ ap (line_of (context_of opening [] (refuses [] (Event.Junk 2 (local_at 11) bare) 2 (Refusal.Notify NotifyFault.OutOfMemory)))) bare_heard in absurd cc)
    (λ memory. cases memory.1 (λ records. absurd (omega (arith, records))) (λ answers.
    let clash : ◌≡◌ {A = Result ServerNotify NotifyFault} (Err (NotifyFault.Read ReadFault.NoIds)) (Ok answers.what) = sym bare_heard ∙ answers.hears in absurd cc))

-- ---- Illegal steps of a router that sends a part, or counts one.

-- a part goes out that the database doesn't have
sent_without_a_part : Legal opening [] (sends_part [] 1 1 0) → ⊥
unfolding cut cut_from written
sent_without_a_part l = let there : 1 < 1 = l.row.3.there in absurd (omega (arith, there))

-- the line names another part than the event
sent_of_another_part : Legal opening [] (step (Event.Send 2 0 0 Fate.Done) (Line.Sent 2 0 1 1 1 0) 2 (keeps blank (sent_by one) 1)) → ⊥
sent_of_another_part l = let part : ◌≡◌ {A = ℕ} 1 0 = l.row.2 in absurd (omega (arith, part))

-- a part that is there is called missing
no_part_though_one : Legal opening [] (refuses [] (Event.Send 2 0 0 Fate.Done) 2 (Refusal.Send SendFault.NoPart)) → ⊥
unfolding cut cut_from written
no_part_though_one l = let none : 1 ≤ 0 = l.row.3.1 in absurd (omega (arith, none))

-- the first reason isn't told: the Map-Server is looked for before the part is
no_part_for_unlisted : Legal opening [] (refuses [] (Event.Send 3 1 1 Fate.Done) 3 (Refusal.Send SendFault.NoPart)) → ⊥
no_part_for_unlisted l = never l.row.3.0

-- and the part before the nonces, memory and the store
spent_without_a_part : Legal spent [] (step (Event.Send 2 0 1 Fate.Done) (Line.Refused 2 (Refusal.Send SendFault.NonceSpent)) 2 (keeps blank (sent_by one) (2 ^ 63 - 1))) → ⊥
unfolding cut cut_from written
spent_without_a_part l = let there : 1 < 1 = l.row.3.0.1 in absurd (omega (arith, there))

memory_without_a_part : Legal opening [] (refuses [] (Event.Send 2 0 1 Fate.Done) 2 (Refusal.Send SendFault.OutOfMemory)) → ⊥
unfolding cut cut_from written
memory_without_a_part l = let there : 1 < 1 = l.row.3.0.1 in absurd (omega (arith, there))

save_failed_without_a_part : Legal opening [] (step (Event.Send 2 0 1 Fate.Doubt) (Line.Refused 2 (Refusal.Send (SendFault.Store StoreFault.Device))) 2 (doubts blank (sent_by one) 1)) → ⊥
unfolding cut cut_from written
save_failed_without_a_part l = let there : 1 < 1 = l.row.3.0.1 in absurd (omega (arith, there))

-- a Map-Notify counts for another part than the one with its nonce
counted_for_another_part : Legal opening one_taken (counts_part one_taken 1 0 1 1) → ⊥
unfolding cut cut_from written numbers_below
counted_for_another_part l = cases (comes_as one_taken _ 1 1 (mapping wide 1440 ∷ []) _ refl refl l.row.item l.row.sent l.row.arrives)
    (λ (is : Line.Counted 2 0 1 1 1 ≡ Line.Counted 2 0 0 1 1). let part : ◌≡◌ {A = ℕ} 1 0 = cc in absurd (omega (arith, part))) (λ is. absurd cc)

-- and one of the second part for the first
counted_for_the_first_part : Legal opening parts_taken (counts_part parts_taken 3 0 0 2) → ⊥
unfolding cut cut_from written numbers_below
counted_for_the_first_part l = cases (comes_as parts_taken _ 3 2 [] _ refl refl l.row.item l.row.sent l.row.arrives)
    (λ (is : Line.Counted 2 0 0 1 2 ≡ Line.Counted 2 0 1 1 2). let part : ◌≡◌ {A = ℕ} 0 1 = cc in absurd (omega (arith, part))) (λ is. absurd cc)

-- a Map-Notify with none of the latest nonces is refused with another number than the greatest of them
stale_with_another_number : Legal opening parts_sent_again (refuses parts_sent_again (Event.Deliver 1 Fate.Done) 2 (Refusal.Notify (NotifyFault.Stale 2))) → ⊥
unfolding cut cut_from written numbers_below
stale_with_another_number l = cases (comes_as parts_sent_again _ 1 1 (mapping wide 1440 ∷ []) _ refl refl l.row.item l.row.sent l.row.arrives)
    (λ (is : Line.Refused 2 (Refusal.Notify (NotifyFault.Stale 2)) ≡ Line.Refused 2 (Refusal.Notify (NotifyFault.Stale 3))). let number : ◌≡◌ {A = ℕ} 2 3 = cc in absurd (omega (arith, number))) (λ is. absurd cc)

-- ---- Illegal steps in which time passes, a node starts again, a router is down, a datagram gets nowhere, or a line names
-- another node than the event.

-- the clock goes its own way
wrong_clock : Legal opening [] (ticks [] 1000 2000) → ⊥
wrong_clock l = let is : ◌≡◌ {A = ℕ} 2000 1000 = l.row.clock in absurd (omega (arith, is))

-- the line says another time than the event
ticked_by_another_time : Legal opening [] (step (Event.Tick 1000) (Line.Ticked 2000 1000) 4 (at [] 4)) → ⊥
ticked_by_another_time l = let passed : ◌≡◌ {A = ℕ} 2000 1000 = l.row.names in absurd (omega (arith, passed))

-- the clock goes past its end
past_the_end : Legal opening [] (ticks [] (max_moment + 1) (max_moment + 1)) → ⊥
past_the_end l = let bound : max_moment + 1 ≤ max_moment = l.row.bound in absurd (omega (arith, bound))

-- a router starts with records that are no database
started_with_no_database : Legal opening [] (step (Event.Restart 2 0 (Some repeated)) (Line.Restarted 2) 2 blank) → ⊥
started_with_no_database l = no_database l.row.fits

-- a Map-Server starts with a database
server_started_with_database : Legal opening [] (step (Event.Restart 0 0 (Some short)) (Line.Restarted 0) 0 blank) → ⊥
server_started_with_database l = cases l.row.kind (λ server. let clash : Some short ≡ None = server.1 in absurd cc) never

-- a Map-Server's start is refused
server_not_started : Legal opening [] (step (Event.Restart 0 0 None) (Line.Refused 0 (Refusal.Start (StartFault.Store StoreFault.Device))) 0 (failed blank)) → ⊥
server_not_started l = never l.row.kind

-- a router's start fails by its store, though the device didn't fail
not_started_unfailed : Legal opening one_sent (step (Event.Restart 2 0 None) (Line.Refused 2 (Refusal.Start (StartFault.Store StoreFault.Device))) 2 (at one_sent 2)) → ⊥
not_started_unfailed l = unfailed (l.row.cause a_device)

-- another router than the one that is down says so: at a change, at a send, where a datagram arrives
another_is_down : Legal opening not_started (step (Event.Change 2 []) (Line.Down 3) 2 (at not_started 2)) → ⊥
another_is_down l = let named : ◌≡◌ {A = ℕ} 3 2 = l.row.names in absurd (omega (arith, named))

another_is_down_at_a_send : Legal opening not_started (step (Event.Send 2 0 0 Fate.Done) (Line.Down 3) 2 (at not_started 2)) → ⊥
another_is_down_at_a_send l = let named : ◌≡◌ {A = ℕ} 3 2 = l.row.1.names in absurd (omega (arith, named))

another_is_down_at_an_arrival : Legal opening not_started (step (Event.Junk 2 (local_at 11) []) (Line.Down 3) 2 (at not_started 2)) → ⊥
another_is_down_at_an_arrival l = let acts : ◌≡◌ {A = ℕ} 2 3 = l.row.arrives.acts.acts in absurd (omega (arith, acts))

-- a datagram is called lost, though a node has its address
nowhere_though_there : Legal opening one_sent (step (Event.Deliver 0 Fate.Done) (Line.Nowhere 0) 4 (at [] 4)) → ⊥
nowhere_though_there l =
    none-some _ (sym (ap (λ (i : Item). node_at network i.to) (some_same first_item _ l.row.sent) ∙ l.row.nobody))

-- the line names another datagram than the event
another_datagram_nowhere : Legal opening answered_elsewhere (step (Event.Deliver 1 Fate.Done) (Line.Nowhere 0) 4 (at [] 4)) → ⊥
another_datagram_nowhere l = let number : ◌≡◌ {A = ℕ} 0 1 = l.row.names in absurd (omega (arith, number))

-- the line names another node than the event: of a send, a notice, a notice that is sent again, a start, a refused send
sent_by_another : Legal opening [] (step (Event.Send 2 0 0 Fate.Done) (Line.Sent 3 0 0 1 1 0) 2 (keeps blank (sent_by one) 1)) → ⊥
sent_by_another l = let router : ◌≡◌ {A = ℕ} 3 2 = l.row.0 in absurd (omega (arith, router))

sent_to_another : Legal opening [] (step (Event.Send 2 0 0 Fate.Done) (Line.Sent 2 1 0 1 1 0) 2 (keeps blank (sent_by one) 1)) → ⊥
sent_to_another l = let server : ◌≡◌ {A = ℕ} 1 0 = l.row.1 in absurd (omega (arith, server))

told_by_another : Legal opening one_taken (step (Event.Notice 0 2 Fate.Done) (Line.Notice 1 2 1 (2 ^ 63) 2) 0 (keeps (at one_taken 0) notice_pair (2 ^ 63))) → ⊥
told_by_another l = let server : ◌≡◌ {A = ℕ} 1 0 = l.row.0 in absurd (omega (arith, server))

told_to_another : Legal opening one_taken (step (Event.Notice 0 2 Fate.Done) (Line.Notice 0 3 1 (2 ^ 63) 2) 0 (keeps (at one_taken 0) notice_pair (2 ^ 63))) → ⊥
told_to_another l = let router : ◌≡◌ {A = ℕ} 3 2 = l.row.1 in absurd (omega (arith, router))

resent_by_another : Legal opening waited (step (Event.Resend 0 2) (Line.Resent 1 2 3) 0 (at waited 0)) → ⊥
resent_by_another l = let server : ◌≡◌ {A = ℕ} 1 0 = l.row.0 in absurd (omega (arith, server))

resent_to_another : Legal opening waited (step (Event.Resend 0 2) (Line.Resent 0 3 3) 0 (at waited 0)) → ⊥
resent_to_another l = let router : ◌≡◌ {A = ℕ} 3 2 = l.row.1 in absurd (omega (arith, router))

another_restarted : Legal opening [] (step (Event.Restart 2 0 None) (Line.Restarted 3) 2 blank) → ⊥
another_restarted l = let named : ◌≡◌ {A = ℕ} 3 2 = l.row.names in absurd (omega (arith, named))

another_refuses_to_send : Legal opening [] (step (Event.Send 3 1 0 Fate.Done) (Line.Refused 2 (Refusal.Send SendFault.NoServer)) 3 blank) → ⊥
another_refuses_to_send l = let named : ◌≡◌ {A = ℕ} 2 3 = l.row.0 in absurd (omega (arith, named))

-- another node takes the bytes than the one that they are thrown at
another_takes_bytes : Legal opening [] (refuses [] (Event.Junk 0 (local_at 21) []) 1 (Refusal.Receive (Refused.Read ReadFault.Short))) → ⊥
another_takes_bytes l = let acts : ◌≡◌ {A = ℕ} 1 0 = l.row.acts in absurd (omega (arith, acts))

-- a router that is down refuses a send, and doesn't say that it is down
abbrev second_not_started : List Step
second_not_started = step (Event.Restart 3 0 None) (Line.Refused 3 (Refusal.Start (StartFault.Store StoreFault.Device))) 3 (failed blank) ∷ []

refused_while_down : Legal opening second_not_started (refuses second_not_started (Event.Send 3 1 0 Fate.Done) 3 (Refusal.Send SendFault.NoServer)) → ⊥
refused_while_down l = let clash : false ≡ true = l.row.2.state in absurd cc

-- a number that no node has acts as a router
none_changed : Legal opening [] (step (Event.Change 7 []) (Line.Changed 7 0) 7 (at [] 7)) → ⊥
none_changed l = never l.row.acts.kind

-- ---- Illegal steps for what they leave of a store.

-- a Map-Register goes out before its nonce is kept
sent_unsaved : Legal opening [] (step (Event.Send 2 0 0 Fate.Done) (Line.Sent 2 0 0 1 1 0) 2 blank) → ⊥
sent_unsaved l = absurd (omega (arith, l.row.3.saves.none_below None (subst (λ (vs : List (Option ℕ)). Contains vs None) (sym (kept_at-empty (sent_by one))) (0, omega arith, refl))))

-- far more is saved than its nonce
saved_far_ahead : Legal opening [] (step (Event.Send 2 0 0 Fate.Done) (Line.Sent 2 0 0 1 1 0) 2 (keeps blank (sent_by one) 1025)) → ⊥
saved_far_ahead l = cases l.row.3.saves.here (λ same. nothing_is_no_number (sym (kept_at-empty (sent_by one)) ∙ sym same ∙ shows)) (λ saved.
    let one_value : ◌≡◌ {A = List (Option ℕ)} (Some 1 ∷ []) (Some 1025 ∷ []) = sym saved.0 ∙ shows in
    let bound : ◌≡◌ {A = ℕ} 1 1025 = cc in
    absurd (omega (arith, bound)))
  where
    shows : kept_at (insert empty (sent_by one) (Some 1025 ∷ [])) (sent_by one) ≡ Some 1025 ∷ []
    shows = set_here empty (sent_by one) (Some 1025 ∷ [])

pairs_differ : {kind : PairKind} → ◌≡◌ {A = Pair} (record { kind = kind; router = two; key = 1 }) (record { kind = kind; router = one; key = 1 }) → ⊥
pairs_differ e = absurd (omega (arith, ap (λ (p : Pair). slice_index_or p.router.xtr 15 0) e))

-- a save moves what is kept for another router
save_moves_another : Legal opening [] (step (Event.Send 2 0 0 Fate.Done) (Line.Sent 2 0 0 1 1 0) 2 (keeps (keeps blank (sent_by two) 7) (sent_by one) 1)) → ⊥
save_moves_another l = nothing_is_no_number (sym (kept_at-empty (sent_by two)) ∙ sym (l.row.3.saves.others (sent_by two) pairs_differ) ∙ set_others (keeps blank (sent_by two) 7).kept (sent_by one) (Some 1 ∷ []) (sent_by two) pairs_differ ∙ set_here empty (sent_by two) (Some 7 ∷ []))

-- stores that do what they are armed with
abbrev obeys : ShownStore
obeys = record { kept = empty; faults = 0; is_obedient = true }

abbrev obedient : Opening
obedient = record { config = network; stores = obeys ∷ obeys ∷ obeys ∷ obeys ∷ [] }

-- a save is answered though the event asks for doubt
saved_in_doubt : Legal obedient [] (step (Event.Send 2 0 0 Fate.Doubt) (Line.Sent 2 0 0 1 1 0) 2 (keeps obeys (sent_by one) 1)) → ⊥
saved_in_doubt l = cases l.row.3.saves.here (λ same. nothing_is_no_number (sym (kept_at-empty (sent_by one)) ∙ sym same ∙ set_here empty (sent_by one) (Some 1 ∷ []))) (λ saved. saved.1 refl refl)

-- a save fails though the event asks for nothing
failed_unasked : Legal obedient [] (step (Event.Send 2 0 0 Fate.Done) (Line.Refused 2 (Refusal.Send (SendFault.Store StoreFault.Device))) 2 (doubts obeys (sent_by one) 1)) → ⊥
failed_unasked l = let clash : Fate.Done ≡ Fate.Doubt = l.row.3.1.fails.may a_device refl in absurd cc

-- a longer list is another one
one_longer : (vs : List (Option ℕ)) (v : Option ℕ) → vs ++ v ∷ [] ≡ vs → ⊥
one_longer [] v same = absurd cc
one_longer (w ∷ vs) v same = one_longer vs v cc

-- a failed save forgets what was kept, or leaves another nonce in doubt
doubt_forgets : Legal opening one_sent (step (Event.Send 2 0 0 Fate.Doubt) (Line.Refused 2 (Refusal.Send (SendFault.Store StoreFault.Device))) 2 (failed blank)) → ⊥
doubt_forgets l = cases l.row.3.1.fails.here (λ same. nothing_is_no_number (sym (kept_at-empty (sent_by one)) ∙ same ∙ was)) (λ more.
    let two : ◌≡◌ {A = List (Option ℕ)} (None ∷ []) (Some 1 ∷ Some (block_end (number l.row.3.1.base + 1) 1) ∷ []) = sym (kept_at-empty (sent_by one)) ∙ more ∙ ap (λ (vs : List (Option ℕ)). vs ++ Some (block_end (number l.row.3.1.base + 1) 1) ∷ []) was in absurd cc)
  where
    was : kept_at (insert empty (sent_by one) (Some 1 ∷ [])) (sent_by one) ≡ Some 1 ∷ []
    was = set_here empty (sent_by one) (Some 1 ∷ [])

doubt_of_another_nonce : Legal opening [] (step (Event.Send 2 0 0 Fate.Doubt) (Line.Refused 2 (Refusal.Send (SendFault.Store StoreFault.Device))) 2 (doubts blank (sent_by one) 7)) → ⊥
doubt_of_another_nonce l = cases l.row.3.1.fails.here (λ same. one_longer (kept_at empty (sent_by one)) (Some 7) (sym after ∙ same)) (λ more.
    let another : kept_at empty (sent_by one) ++ Some 7 ∷ [] ≡ kept_at empty (sent_by one) ++ Some (block_end (number l.row.3.1.base + 1) 1) ∷ [] = sym after ∙ more in
    let nonces : ◌≡◌ {A = List (Option ℕ)} (None ∷ Some 7 ∷ []) (None ∷ Some (block_end (number l.row.3.1.base + 1) 1) ∷ []) = subst (λ (vs : List (Option ℕ)). vs ++ Some 7 ∷ [] ≡ vs ++ Some (block_end (number l.row.3.1.base + 1) 1) ∷ []) (kept_at-empty (sent_by one)) another in
    let nonce : 7 ≡ block_end (number l.row.3.1.base + 1) 1 = cc in
    absurd (omega (arith, nonce, number_of None (kept_at-empty (sent_by one)) l.row.3.1.counts)))
  where
    after : kept_at (doubts blank (sent_by one) 7).kept (sent_by one) ≡ kept_at empty (sent_by one) ++ Some 7 ∷ []
    after = set_here empty (sent_by one) (kept_at empty (sent_by one) ++ Some 7 ∷ [])

-- a save for which memory was refused leaves a doubt: of a send, of a message
abbrev adds : ShownStore → Pair → ℕ → ShownStore
adds s pair nonce = record s { kept = insert s.kept pair (kept_at s.kept pair ++ Some nonce ∷ []) }

adds_is_not_same : (s : ShownStore) (pair : Pair) (nonce : ℕ) → (adds s pair nonce).kept ≡ s.kept → ⊥
adds_is_not_same s pair nonce same = one_longer (kept_at s.kept pair) (Some nonce) (sym (set_here s.kept pair (kept_at s.kept pair ++ Some nonce ∷ [])) ∙ ap (λ (kept : Kept). kept_at kept pair) same)

doubt_without_memory : Legal opening [] (step (Event.Send 2 0 0 Fate.Done) (Line.Refused 2 (Refusal.Send (SendFault.Store StoreFault.OutOfMemory))) 2 (adds blank (sent_by one) 1)) → ⊥
doubt_without_memory l = adds_is_not_same blank (sent_by one) 1 (l.row.3.1.fails.memory refl)

doubt_of_a_message_without_memory : Legal opening one_sent (step (Event.Deliver 0 Fate.Done) (Line.Refused 0 (Refusal.Receive (Refused.StoreSave StoreFault.OutOfMemory))) 0 (adds blank (got_from one) 1)) → ⊥
doubt_of_a_message_without_memory l = adds_is_not_same blank (got_from one) 1 (l.row.arrives.1.fails.memory refl)

-- a save says damaged, which is of a load
save_damaged : Legal opening [] (step (Event.Send 2 0 0 Fate.Doubt) (Line.Refused 2 (Refusal.Send (SendFault.Store StoreFault.Damaged))) 2 (doubts blank (sent_by one) 1)) → ⊥
save_damaged l = l.row.3.1.fails.sound refl

-- a store counts fewer faults than before, and nothing restarted
fewer_faults : Legal opening not_started (step (Event.Restart 2 0 None) (Line.Refused 2 (Refusal.Start (StartFault.Store StoreFault.Device))) 2 (at one_sent 2)) → ⊥
fewer_faults l = let more : 1 ≤ 0 = l.faults refl in absurd (omega (arith, more))

-- a store is another one after its call
other_store : Legal obedient [] (step (Event.Change 2 []) (Line.Changed 2 0) 2 blank) → ⊥
other_store l = let clash : false ≡ true = l.obedient in absurd cc

-- a Map-Server forgets, at a restart, what its store keeps
forgot_at_a_restart : Legal opening one_taken (step (Event.Restart 0 0 None) (Line.Restarted 0) 0 blank) → ⊥
forgot_at_a_restart l =
    none-some _ (only_set_of (got_from one) empty None (Some 1) ((l.row.narrows (got_from one)).each None (subst (λ (vs : List (Option ℕ)). Contains vs None) (sym (kept_at-empty (got_from one))) (0, omega arith, refl))))

-- a restart leaves another value than the one that is picked
abbrev in_doubt : List Step
in_doubt = step (Event.Send 2 0 0 Fate.Doubt) (Line.Refused 2 (Refusal.Send (SendFault.Store StoreFault.Device))) 2 (doubts obeys (sent_by one) 1) ∷ []

other_picked : Legal obedient in_doubt (step (Event.Restart 2 1 None) (Line.Restarted 2) 2 (record { kept = insert (doubts obeys (sent_by one) 1).kept (sent_by one) (None ∷ []); faults = 1; is_obedient = true })) → ⊥
other_picked l =
    let before : kept_at (doubts obeys (sent_by one) 1).kept (sent_by one) ≡ None ∷ Some 1 ∷ [] = set_here empty (sent_by one) (kept_at empty (sent_by one) ++ Some 1 ∷ []) ∙ ap (λ (vs : List (Option ℕ)). vs ++ Some 1 ∷ []) (kept_at-empty (sent_by one)) in
    let after : ◌≡◌ {A = List (Option ℕ)} (None ∷ []) (Some 1 ∷ []) = sym (set_here (doubts obeys (sent_by one) 1).kept (sent_by one) (None ∷ [])) ∙ l.row.picks refl (sent_by one) ∙ ap (λ (vs : List (Option ℕ)). picked vs 1 ∷ []) before in
    nothing_is_no_number after

-- a load or a save fails, though the device didn't fail
load_failed_without_cause : Legal opening one_sent (step (Event.Deliver 0 Fate.LoadFails) (Line.Refused 0 (Refusal.Receive (Refused.StoreLoad StoreFault.Device))) 0 (at one_sent 0)) → ⊥
load_failed_without_cause l = unfailed (l.row.arrives.1.fails.cause a_device)

save_failed_without_cause : Legal opening [] (step (Event.Send 2 0 0 Fate.Doubt) (Line.Refused 2 (Refusal.Send (SendFault.Store StoreFault.Device))) 2 (adds blank (sent_by one) 1)) → ⊥
save_failed_without_cause l = unfailed (l.row.3.1.fails.cause a_device)

-- a failed save, or an accepted message, moves what is kept for another router
failed_save_moves_another : Legal opening [] (step (Event.Send 2 0 0 Fate.Doubt) (Line.Refused 2 (Refusal.Send (SendFault.Store StoreFault.Device))) 2 (doubts (keeps blank (sent_by two) 7) (sent_by one) 1)) → ⊥
failed_save_moves_another l = nothing_is_no_number (sym (kept_at-empty (sent_by two)) ∙ sym (l.row.3.1.fails.others (sent_by two) pairs_differ) ∙ set_others (keeps blank (sent_by two) 7).kept (sent_by one) (kept_at (keeps blank (sent_by two) 7).kept (sent_by one) ++ Some 1 ∷ []) (sent_by two) pairs_differ ∙ set_here empty (sent_by two) (Some 7 ∷ []))

message_moves_another : Legal opening one_sent (step (Event.Deliver 0 Fate.Done) (Line.Accepted 0 one 1 1 (Some 1)) 0 (keeps (keeps blank (got_from two) 7) (got_from one) 1)) → ⊥
message_moves_another l =
    let others : SameElsewhere empty (keeps (keeps blank (got_from two) 7) (got_from one) 1).kept (got_from one) = subst (λ (m : MapRegisterValue). SameElsewhere empty (keeps (keeps blank (got_from two) 7) (got_from one) 1).kept (pair_of m)) (sym (is_first l.row.sent l.row.arrives.admits.read)) l.row.arrives.others in
    nothing_is_no_number (sym (kept_at-empty (got_from two)) ∙ sym (others (got_from two) pairs_differ) ∙ set_others (keeps blank (got_from two) 7).kept (got_from one) (Some 1 ∷ []) (got_from two) pairs_differ ∙ set_here empty (got_from two) (Some 7 ∷ []))

-- a store keeps more after what saves nothing: a replay, a change, a notice that is sent again, a reply that counts, a
-- load that failed, a refusal
replay_saves : Legal opening one_taken (step (Event.Deliver 0 Fate.Done) (Line.Refused 0 (Refusal.Receive (Refused.Replay 1))) 0 (adds (at one_taken 0) (got_from one) 7)) → ⊥
replay_saves l = adds_is_not_same (at one_taken 0) (got_from one) 7 l.row.arrives.1.same

change_saves : Legal opening [] (step (Event.Change 2 short) (Line.Changed 2 1) 2 (adds blank (sent_by one) 7)) → ⊥
change_saves l = adds_is_not_same blank (sent_by one) 7 l.row.same

resend_saves : Legal opening waited (step (Event.Resend 0 2) (Line.Resent 0 2 3) 0 (adds (at waited 0) notice_pair 7)) → ⊥
resend_saves l = adds_is_not_same (at waited 0) notice_pair 7 l.row.2.same

count_saves : Legal opening one_taken (step (Event.Deliver 1 Fate.Done) (Line.Counted 2 0 0 1 1) 2 (adds (at one_taken 2) (sent_by one) 7)) → ⊥
count_saves l = adds_is_not_same (at one_taken 2) (sent_by one) 7 l.row.arrives.same

failed_load_saves : Legal opening one_sent (step (Event.Deliver 0 Fate.LoadFails) (Line.Refused 0 (Refusal.Receive (Refused.StoreLoad StoreFault.Device))) 0 (failed (adds blank (got_from one) 7))) → ⊥
failed_load_saves l = adds_is_not_same blank (got_from one) 7 l.row.arrives.1.fails.same

refusal_saves : Legal opening foreign_sent (step (Event.Deliver 0 Fate.Done) (Line.Refused 0 (Refusal.Receive (Refused.NotAllowed 1))) 0 (adds blank (got_from one) 7)) → ⊥
refusal_saves l = adds_is_not_same blank (got_from one) 7 l.row.arrives.1.1

-- a message is accepted though the event asks for a failed load, or for doubt
abbrev obedient_sent : List Step
obedient_sent = step (Event.Send 2 0 0 Fate.Done) (Line.Sent 2 0 0 1 1 0) 2 (keeps obeys (sent_by one) 1) ∷ []

accepted_without_load : Legal obedient obedient_sent (step (Event.Deliver 0 Fate.LoadFails) (Line.Accepted 0 one 1 1 (Some 1)) 0 (keeps obeys (got_from one) 1)) → ⊥
accepted_without_load l = l.row.arrives.fresh.loads refl refl refl

accepted_in_doubt : Legal obedient obedient_sent (step (Event.Deliver 0 Fate.Doubt) (Line.Accepted 0 one 1 1 (Some 1)) 0 (keeps obeys (got_from one) 1)) → ⊥
accepted_in_doubt l = l.row.arrives.may refl refl

-- a load fails though the event asks for nothing
load_failed_unasked : Legal obedient obedient_sent (step (Event.Deliver 0 Fate.Done) (Line.Refused 0 (Refusal.Receive (Refused.StoreLoad StoreFault.Device))) 0 (failed obeys)) → ⊥
load_failed_unasked l = let clash : Fate.Done ≡ Fate.LoadFails = l.row.arrives.1.fails.may a_device refl in absurd cc

-- the nonce isn't kept after a save that the event asks to be in doubt
doubt_not_kept : Legal obedient [] (step (Event.Send 2 0 0 Fate.Doubt) (Line.Refused 2 (Refusal.Send (SendFault.Store StoreFault.Device))) 2 (failed obeys)) → ⊥
doubt_not_kept l =
    let two : ◌≡◌ {A = List (Option ℕ)} (None ∷ []) (None ∷ Some (block_end (number l.row.3.1.base + 1) 1) ∷ []) = sym (kept_at-empty (sent_by one)) ∙ l.row.3.1.fails.doubted a_device refl ∙ ap (λ (vs : List (Option ℕ)). with_value vs (block_end (number l.row.3.1.base + 1) 1)) (kept_at-empty (sent_by one)) in
    absurd cc

-- a notice is told though the event asks for doubt
told_in_doubt : Legal obedient (step (Event.Deliver 0 Fate.Done) (Line.Accepted 0 one 1 1 (Some 1)) 0 (keeps obeys (got_from one) 1) ∷ obedient_sent) (step (Event.Notice 0 2 Fate.Doubt) (Line.Notice 0 2 1 (2 ^ 63) 2) 0 (keeps (keeps obeys (got_from one) 1) notice_pair (2 ^ 63))) → ⊥
told_in_doubt l = cases l.row.2.saves.here (λ same. nothing_is_no_number (sym before ∙ sym same ∙ set_here (keeps obeys (got_from one) 1).kept notice_pair (Some (2 ^ 63) ∷ []))) (λ saved. saved.1 refl refl)
  where
    before : kept_at (keeps obeys (got_from one) 1).kept notice_pair ≡ None ∷ []
    before = set_others empty (got_from one) (Some 1 ∷ []) notice_pair (λ e. absurd (kinds_differ e)) ∙ kept_at-empty notice_pair

-- ---- Illegal steps of a router that goes over to another key, or whose store is lost.

-- after it went over to another key, a router counts on from its nonce under the old one
counts_from_the_old_key : Legal rotating renewed (sends_under renewed 2 2 1) → ⊥
counts_from_the_old_key l =
    let none = set_others empty (sent_by one) (Some 1 ∷ []) (under 2 (sent_by one)) (keys_differ (sent_by one) 2 1 (other_number 2 1 refl)) ∙ kept_at-empty (under 2 (sent_by one)) in
    absurd (omega (arith, number_of None none l.row.3.counts, l.row.3.next))

-- back under the first key, it sends its first nonce again
starts_again_at_one : Legal rotating back (sends_under back 1 1 4) → ⊥
starts_again_at_one l =
    let same = set_others (keeps blank (sent_by one) 1).kept (under 2 (sent_by one)) (Some 1 ∷ []) (sent_by one) (keys_differ (sent_by one) 1 2 (other_number 1 2 refl)) ∙ set_here empty (sent_by one) (Some 1 ∷ []) in
    absurd (omega (arith, number_of (Some 1) same l.row.3.counts, l.row.3.next))

-- it goes on under the old key
sent_under_the_old_key : Legal rotating renewed (sends_under renewed 1 2 1) → ⊥
sent_under_the_old_key l = let key : ◌≡◌ {A = ℕ} 1 2 = l.row.3.under in absurd (omega (arith, key))

-- it goes over to a key that its site doesn't have
rotated_to_no_key : Legal rotating started (rotates started 9) → ⊥
rotated_to_no_key l = l.row.may.known refl

-- to its own
rotated_to_its_own : Legal rotating started (rotates started 1) → ⊥
rotated_to_its_own l = l.row.other refl

-- to one that it used before its store was lost; so it does where it is down, and where it keeps its key
rotated_to_a_lost_key : Legal rotating emptied (rotates emptied 1) → ⊥
rotated_to_a_lost_key l = l.row.may.unused (at_head 1 (2 ∷ 1 ∷ []))

rotated_to_a_lost_key_while_down : Legal rotating not_emptied (step (Event.Rotate 2 1 Fate.Done) (Line.Down 2) 2 (shows not_emptied 2)) → ⊥
rotated_to_a_lost_key_while_down l = l.row.0.unused (at_head 1 [])

refused_a_lost_key : Legal rotating emptied (step (Event.Rotate 2 1 Fate.LoadFails) (Line.Refused 2 (Refusal.Rotate (RotateFault.Store StoreFault.Device))) 2 (failed (shows emptied 2))) → ⊥
refused_a_lost_key l = l.row.2.unused (at_head 1 (2 ∷ 1 ∷ []))

-- another key is called its own, and its own another
another_called_its_own : Legal rotating started (keeps_its_key started 2 RotateFault.SameKey) → ⊥
another_called_its_own l = let same : ◌≡◌ {A = ℕ} 2 1 = l.row.3.0 in absurd (omega (arith, same))

its_own_asked_for : Legal rotating started (step (Event.Rotate 2 1 Fate.LoadFails) (Line.Refused 2 (Refusal.Rotate (RotateFault.Store StoreFault.Device))) 2 (failed (shows started 2))) → ⊥
its_own_asked_for l = l.row.3.0 refl

-- the line names another router, or another key
rotated_another : Legal rotating started (step (Event.Rotate 2 2 Fate.Done) (Line.Rotated 3 2) 2 (shows started 2)) → ⊥
rotated_another l = let names : ◌≡◌ {A = ℕ} 3 2 = l.row.names in absurd (omega (arith, names))

rotated_to_another_key : Legal rotating started (step (Event.Rotate 2 2 Fate.Done) (Line.Rotated 2 3) 2 (shows started 2)) → ⊥
rotated_to_another_key l = let to : ◌≡◌ {A = ℕ} 3 2 = l.row.to in absurd (omega (arith, to))

another_keeps_its_key : Legal rotating started (step (Event.Rotate 2 1 Fate.Done) (Line.Refused 3 (Refusal.Rotate RotateFault.SameKey)) 2 (shows started 2)) → ⊥
another_keeps_its_key l = let names : ◌≡◌ {A = ℕ} 3 2 = l.row.0 in absurd (omega (arith, names))

another_is_down_at_a_rotation : Legal rotating not_emptied (step (Event.Rotate 2 2 Fate.Done) (Line.Down 3) 2 (shows not_emptied 2)) → ⊥
another_is_down_at_a_rotation l = let names : ◌≡◌ {A = ℕ} 3 2 = l.row.1.names in absurd (omega (arith, names))

-- a router that is down goes over to a key, or says that it has it; one that is up says that it is down
rotated_while_down : Legal rotating not_emptied (rotates not_emptied 2) → ⊥
rotated_while_down l = let clash : false ≡ true = l.row.acts.state in absurd cc

kept_its_key_while_down : Legal rotating not_emptied (keeps_its_key not_emptied 3 RotateFault.SameKey) → ⊥
kept_its_key_while_down l = let clash : false ≡ true = l.row.1.state in absurd cc

up_and_down_at_a_rotation : Legal rotating started (step (Event.Rotate 2 2 Fate.Done) (Line.Down 2) 2 (shows started 2)) → ⊥
up_and_down_at_a_rotation l = let clash : true ≡ false = l.row.1.acts.state in absurd cc

-- a Map-Server changes its key
server_rotated : Legal rotating [] (step (Event.Rotate 0 2 Fate.Done) (Line.Rotated 0 2) 0 blank) → ⊥
server_rotated l = never l.row.acts.kind

-- a change of the key moves what the store keeps
rotation_forgets : Legal rotating started (step (Event.Rotate 2 2 Fate.Done) (Line.Rotated 2 2) 2 blank) → ⊥
rotation_forgets l = nothing_is_no_number (sym (kept_at-empty (sent_by one)) ∙ ap (λ (kept : Kept). kept_at kept (sent_by one)) l.row.same ∙ set_here empty (sent_by one) (Some 1 ∷ []))

refused_rotation_forgets : Legal rotating started (step (Event.Rotate 2 1 Fate.Done) (Line.Refused 2 (Refusal.Rotate RotateFault.SameKey)) 2 blank) → ⊥
refused_rotation_forgets l = nothing_is_no_number (sym (kept_at-empty (sent_by one)) ∙ ap (λ (kept : Kept). kept_at kept (sent_by one)) l.row.3.1 ∙ set_here empty (sent_by one) (Some 1 ∷ []))

-- what is kept under the new key is loaded, though the event asks for a failed load; and the other way round
abbrev obedient_rotation : Opening
obedient_rotation = record rotating { stores = obeys ∷ obeys ∷ obeys ∷ obeys ∷ [] }

rotated_without_load : Legal obedient_rotation [] (step (Event.Rotate 2 2 Fate.LoadFails) (Line.Rotated 2 2) 2 obeys) → ⊥
rotated_without_load l = l.row.loads refl refl

rotation_failed_unasked : Legal obedient_rotation [] (step (Event.Rotate 2 2 Fate.Done) (Line.Refused 2 (Refusal.Rotate (RotateFault.Store StoreFault.Device))) 2 (failed obeys)) → ⊥
rotation_failed_unasked l = let clash : Fate.Done ≡ Fate.LoadFails = l.row.3.1.may a_device refl in absurd cc

-- the load, or the start, fails though the device didn't fail
rotation_failed_without_cause : Legal rotating started (step (Event.Rotate 2 2 Fate.LoadFails) (Line.Refused 2 (Refusal.Rotate (RotateFault.Store StoreFault.Device))) 2 (shows started 2)) → ⊥
rotation_failed_without_cause l = unfailed (l.row.3.1.cause a_device)

loss_failed_without_cause : Legal rotating started (step (Event.Lose 2 3 None) (Line.Refused 2 (Refusal.Start (StartFault.Store StoreFault.Device))) 2 blank) → ⊥
loss_failed_without_cause l = unfailed (l.row.cause a_device)

-- once its store is lost, a router starts under a key that its site doesn't have; under its own; under one that it used
-- before, though it started again since; before another loss; under one that it was to start under, and didn't
lost_to_no_key : Legal rotating started (loses started 9) → ⊥
lost_to_no_key l = l.row.lost.may.known refl

lost_to_its_own : Legal rotating started (loses started 1) → ⊥
lost_to_its_own l = l.row.lost.may.unused (at_head 1 [])

abbrev restarted_under : List Step
restarted_under = step (Event.Restart 2 0 None) (Line.Restarted 2) 2 (shows renewed 2) ∷ renewed

lost_to_a_used_key : Legal rotating restarted_under (loses restarted_under 1) → ⊥
lost_to_a_used_key l = l.row.lost.may.unused (1, omega arith, refl)

lost_to_a_lost_key : Legal rotating emptied (loses emptied 2) → ⊥
lost_to_a_lost_key l = l.row.lost.may.unused (2, omega arith, refl)

lost_to_a_key_that_failed : Legal rotating not_emptied (loses not_emptied 3) → ⊥
lost_to_a_key_that_failed l = l.row.lost.may.unused (at_head 3 (1 ∷ []))

fails_under_a_used_key : Legal rotating sent_back (loses_and_fails sent_back 2) → ⊥
fails_under_a_used_key l = l.row.lost.may.unused (1, omega arith, refl)

-- it goes on under its old key
goes_on_under_the_old_key : Legal rotating started (step (Event.Lose 2 3 None) (Line.Emptied 2 1) 2 blank) → ⊥
goes_on_under_the_old_key l = let to : ◌≡◌ {A = ℕ} 1 3 = l.row.to in absurd (omega (arith, to))

-- the line names another router; another one acts
lost_another : Legal rotating started (step (Event.Lose 2 3 None) (Line.Emptied 3 3) 2 blank) → ⊥
lost_another l = let names : ◌≡◌ {A = ℕ} 3 2 = l.row.names in absurd (omega (arith, names))

not_started_another : Legal rotating started (step (Event.Lose 2 3 None) (Line.Refused 3 (Refusal.Start (StartFault.Store StoreFault.Device))) 2 (failed blank)) → ⊥
not_started_another l = let names : ◌≡◌ {A = ℕ} 3 2 = l.row.names in absurd (omega (arith, names))

anothers_store_lost : Legal rotating started (step (Event.Lose 2 3 None) (Line.Emptied 2 3) 3 blank) → ⊥
anothers_store_lost l = let acts : ◌≡◌ {A = ℕ} 3 2 = l.row.lost.acts in absurd (omega (arith, acts))

-- a Map-Server loses its store
server_lost : Legal rotating [] (step (Event.Lose 0 2 None) (Line.Emptied 0 2) 0 blank) → ⊥
server_lost l = never l.row.lost.kind

-- the router is given records that are no database
lost_with_anything : Legal rotating started (step (Event.Lose 2 3 (Some repeated)) (Line.Emptied 2 3) 2 blank) → ⊥
lost_with_anything l = no_database l.row.lost.fits

-- its store is left with no value for a pair
lost_whole : Legal rotating started (step (Event.Lose 2 3 None) (Line.Emptied 2 3) 2 (record blank { kept = insert empty (sent_by one) [] })) → ⊥
lost_whole l =
    let some = l.row.lost.some (sent_by one) in
    in_none some.0 (subst (λ (vs : List (Option ℕ)). Contains vs some.0) (set_here empty (sent_by one) []) some.1)
