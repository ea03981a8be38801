-- What the meanings make of traces of the small network.
use Rattle.std.proofs.Common.{[], List, None, Some, false, refl, true, ◌∷◌, ◌≡◌, arith, subst, sym, ℕ, ◌<◌, map, true≢false, Bor, ap, inl, inr, suc, zero, ◌∙◌, ◌≢◌, ◌⊎◌}
use Rattle.std.specs.Prelude.{slice_get, ◌+◌, ◌^◌}
use Rattle.lisp_etr.specs.Timers.{due_after}
use Rattle.lisp_admission.specs.NoticeTimer.{due_after as notice_due_after}
use Rattle.lisp_model.specs.Bag.{bag, since_start, register_item, reply_item}
use Rattle.lisp_model.specs.Counted.{acked, counted_nonces, latest_nonce}
use Rattle.lisp_model.specs.Held.{held_row, rows, Acceptance, heard_last, last_of}
use Rattle.lisp_model.specs.History.{history, SentRegister, record_in, sent_records}
use Rattle.lisp_model.specs.Timers.{due, is_due, notice_to, notices as standing, due_part, round, last_notice, notices}
use Rattle.lisp_model.specs.Trace.{Step, database, fate_of, is_up, etr_config, key, sites}
use Rattle.lisp_model.specs.Story.{at, counts, local_at, mapping, narrow, one, one_counted, one_sent, one_taken, opening, restarts, sends, step, takes, two, wide, blank, got_from, keeps, secret, sent_by, network, site}
use Rattle.lisp_model.specs.Legal.{context_of, Legal}
use Rattle.lisp_model.specs.Must.{IsExcused, MustSend}
use Rattle.lisp_model.specs.Numbers.{numbers_below, part_numbers}
use Rattle.lisp_model.specs.Accepted.{acceptances}
use Rattle.lisp_model.specs.Faults.{world_fault_number}
use Rattle.lisp_model.specs.Life.{began}
use Rattle.lisp_model.specs.Sending.{last_sent, start_values}
use Rattle.lisp_model.proofs.Examples.Steps.{acknowledged, changes, row_of, tells, ticks, told, told_to, both_heard, both_sent, both_taken, first_told, newer_taken, short, told_anew, two_sent, refuses, registers, first_entry, parts_sent, second_counted, vanished, vanished_counted, answered, arrived, blocks, repeats, two_keys, not_started, refused_changed, restarted_changed, row_of_one, row_of_two, Event, Fate, Line, NoticeFault, NotifyFault, Refusal, Refused, RotateFault, SendFault, StartFault, StoreFault}
use Rattle.lisp_records.specs.Parts.{cut, cut_from, part_count}
use Rattle.lisp_records.specs.Written.{written}
use Rattle.lisp_records.specs.Database.{record_for}
use Rattle.lisp_records.specs.Record.{MapRecordValue}
use Rattle.lisp_messages.specs.Message.{Registers}
use Rattle.lisp_model.specs.declared.world_fault.WorldFault.TheVariants as world_faults
use Rattle.std.specs.FinMap.{empty, insert}
use Rattle.lisp_nonces.specs.Kept.{kept_at}
use Rattle.lisp_model.specs.Change.{gives_database}
use Rattle.lisp_model.specs.Clean.{secrets_of}
use Rattle.lisp_model.specs.Keys.{keys_before_loss, keys_since_loss}
use Rattle.lisp_model.proofs.Examples.LegalRows.{emptied, kept_key, loses, new_secret, not_emptied, not_loaded, renewed, rotating, sent_anew, shows, started, under}
use Rattle.lisp_model.specs.Memory.{MayTell, is_node_memory, is_store_memory}
use Rattle.lisp_policy.specs.Site.{SiteValue}
use Rattle.std.specs.List.{Contains}
use Rattle.std.specs.declared.cmp.Ordering.TheVariants.{Equal, Greater, Less}
use Rattle.lisp_records.specs.Address.{masked}
use Rattle.lisp_records.specs.Row.{RowValue}
use Rattle.lisp_records.specs.declared.address.Addr.TheVariants.{V4}
use Rattle.lisp_lookup.specs.Answer.{IsBest, greater, may_answer, rank_cmp}
use Rattle.lisp_lookup.specs.declared.answer.Answer.TheVariants.{Forward, NoSite, NotRegistered, Reply}
use Rattle.lisp_model.specs.Answer.{IsAnswer}
use Rattle.lisp_model.proofs.ListLemmas.{at_head, in_none, only, cases}

-- a later record takes the place of an earlier one
newer_held : held_row (since_start opening newer_taken 0) one wide 0 ≡ Some (row_of (mapping wide 60) 2 0)
unfolding cut cut_from written
newer_held = refl

-- each entry has the database of its moment
entries : history opening two_sent ≡ record { router = 2; key = 1; nonce = 2; server = 0; database = mapping wide 60 ∷ []; part = 0; position = 2 } ∷ record { router = 2; key = 1; nonce = 1; server = 0; database = mapping wide 1440 ∷ []; part = 0; position = 0 } ∷ []
entries = refl

-- a record that isn't named again stays
abbrev narrowed : List Step
narrowed = changes one_taken (mapping narrow 5 ∷ []) ∷ one_taken

both_held : rows (since_start opening (takes (sends narrowed 0 2 2 ∷ narrowed) 2 0 2 3 ∷ sends narrowed 0 2 2 ∷ narrowed) 0) 0 ≡ row_of (mapping wide 1440) 1 0 ∷ row_of (mapping narrow 5) 2 0 ∷ []
unfolding cut cut_from written
both_held = refl

-- two servers hold equal records of one database
held_by_both : held_row (since_start opening both_taken 0) one wide 0 ≡ Some (row_of (mapping wide 1440) 1 0)
unfolding cut cut_from written
held_by_both = refl

held_by_other : held_row (since_start opening both_taken 1) one wide 0 ≡ Some (row_of (mapping wide 1440) 2 0)
unfolding cut cut_from written
held_by_other = refl

-- what a router counted; its restart forgets the last, and not that it was
counted_over_a_restart : (counted_nonces one_counted 2 0 ≡ acknowledged 0 1 1 ∷ []) × (acked (restarts one_counted 2 ∷ one_counted) 2 0 0 ≡ None) × (counted_nonces (restarts one_counted 2 ∷ one_counted) 2 0 ≡ acknowledged 0 1 1 ∷ [])
counted_over_a_restart = (refl, refl, refl)

abbrev late_taken : List Step
late_taken = takes (ticks one_sent 500 500 ∷ one_sent) 0 0 1 1 ∷ ticks one_sent 500 500 ∷ one_sent

due_counted_late : due (counts late_taken 1 0 1 ∷ late_taken) 2 0 0 ≡ 60000
unfolding due_after
due_counted_late = refl

-- timers: at once; a second after the first send; a minute after the counted one; at once after a change
due_times : (due [] 2 0 0 ≡ 0) × (due one_sent 2 0 0 ≡ 1000) × (due (sends (ticks one_sent 1000 1000 ∷ one_sent) 0 2 1 ∷ ticks one_sent 1000 1000 ∷ one_sent) 2 0 0 ≡ 3000) × (due one_counted 2 0 0 ≡ 60000) × (due (changes (ticks one_counted 5 5 ∷ one_counted) short ∷ ticks one_counted 5 5 ∷ one_counted) 2 0 0 ≡ 5) × (due one_counted 2 1 0 ≡ 0)
unfolding due_after
due_times = (refl, refl, refl, refl, refl, refl)

-- a notice is due after three seconds, not before
not_due : is_due (notice_to opening first_told 0 one) 2999 ≡ false
unfolding notice_due_after
not_due = refl

now_due : is_due (notice_to opening first_told 0 one) 3000 ≡ true
unfolding notice_due_after
now_due = refl

-- it carries the records of its own router, and of no other
notice_of_one : slice_get (bag opening (tells both_heard (2 ^ 63) 4 ∷ both_heard)) 4 ≡ Some (told (local_at 11) (local_at 21) (2 ^ 63) (mapping wide 1440 ∷ []))
unfolding cut cut_from written
notice_of_one = refl

-- a newer one stands in its place
newer_stands : standing opening told_anew 0 ≡ record { router = one; key = 1; nonce = 2 ^ 63 + 1; datagram = 3; moments = 0 ∷ [] } ∷ []
newer_stands = refl

-- a notice that is sent again moves its own timer alone, and one that is acknowledged leaves the others
abbrev two_told : List Step
two_told = step (Event.Notice 0 3 Fate.Done) (Line.Notice 0 3 1 (2 ^ 63 + 1) 8) 0 (at [] 0) ∷ step (Event.Notice 0 2 Fate.Done) (Line.Notice 0 2 1 (2 ^ 63) 7) 0 (at [] 0) ∷ []

resent_alone : standing opening (step (Event.Resend 0 2) (Line.Resent 0 2 9) 0 (at [] 0) ∷ two_told) 0 ≡ told_to two (2 ^ 63 + 1) 8 (0 ∷ []) ∷ told_to one (2 ^ 63) 7 (0 ∷ 0 ∷ []) ∷ []
resent_alone = refl

done_alone : standing opening (step (Event.Deliver 0 Fate.Done) (Line.Done 0 one (2 ^ 63)) 0 (at [] 0) ∷ two_told) 0 ≡ told_to two (2 ^ 63 + 1) 8 (0 ∷ []) ∷ []
done_alone = refl

-- of two rows of a router and a prefix the later one is listed
abbrev older_taken : List Step
older_taken = takes two_sent 0 0 1 2 ∷ two_sent

newer_listed : rows (since_start opening (takes older_taken 1 0 2 3 ∷ older_taken) 0) 0 ≡ row_of (mapping wide 60) 2 0 ∷ []
unfolding cut cut_from written
newer_listed = refl

-- the reply to the last Map-Register to each Map-Server counts, though another one was sent to another Map-Server since
latest_of_each : latest_nonce both_sent 2 0 0 ≡ 1
latest_of_each = refl

-- ---- What the meanings make of the parts of a router's database: each part has its own nonce, round and acknowledgement.

-- the numbers of parts are those from 0 to 15
all_numbers : part_numbers ≡ 0 ∷ 1 ∷ 2 ∷ 3 ∷ 4 ∷ 5 ∷ 6 ∷ 7 ∷ 8 ∷ 9 ∷ 10 ∷ 11 ∷ 12 ∷ 13 ∷ 14 ∷ 15 ∷ []
unfolding numbers_below
all_numbers = refl

-- a Map-Register has the records of its part alone, and the entry tells which; what its database has for a prefix doesn't
-- depend on the part
abbrev of_the_second : SentRegister
of_the_second = record first_entry { part = 1 }

records_of_a_part : sent_records of_the_second ≡ []
unfolding cut cut_from written
records_of_a_part = refl

message_of_a_part : (register_item opening [] 2 0 1 1).message ≡ Registers (registers [] 1)
unfolding cut cut_from written
message_of_a_part = refl

record_beside_the_part : record_in of_the_second wide ≡ Some (mapping wide 1440)
unfolding cut cut_from written
record_beside_the_part = refl

entries_of_parts : history opening parts_sent ≡ record { router = 2; key = 1; nonce = 2; server = 0; database = mapping wide 1440 ∷ []; part = 1; position = 1 } ∷ first_entry ∷ []
entries_of_parts = refl

-- the latest nonce of each part
latest_of_the_first : latest_nonce parts_sent 2 0 0 ≡ 1
latest_of_the_first = refl

-- what was counted of each, and ever
not_acked_of_the_first : acked second_counted 2 0 0 ≡ None
not_acked_of_the_first = refl

-- each has its own timer: what is counted or sent of one moves no other
due_of_the_first : due second_counted 2 0 0 ≡ 1000
unfolding due_after
due_of_the_first = refl

-- the latest nonce of the second part, and what was counted of it, and ever, also once it vanished
of_the_second_part : (latest_nonce parts_sent 2 0 1 ≡ 2) × (acked second_counted 2 0 1 ≡ Some (1, 2)) × (counted_nonces second_counted 2 0 ≡ acknowledged 1 1 2 ∷ []) × (due second_counted 2 0 1 ≡ 60000) × (acked vanished_counted 2 0 1 ≡ Some (1, 2))
unfolding due_after
of_the_second_part = (refl, refl, refl, refl, refl)

due_of_a_part_that_rests : due second_counted 2 0 2 ≡ 0
unfolding due_after
due_of_a_part_that_rests = refl

-- the first part that is due, of those that the database has
first_part_due : due_part opening [] 2 0 ≡ Some 0
unfolding cut cut_from written numbers_below due_after
first_part_due = refl

no_part_due : due_part opening one_sent 2 0 ≡ None
unfolding cut cut_from written numbers_below due_after
no_part_due = refl

-- a part that vanished may still be counted, and that moves no timer
vanished_rests : round vanished_counted 2 0 1 ≡ record { begin = 5; moments = [] }
vanished_rests = refl

vanished_moves_no_timer : due vanished_counted 2 0 1 ≡ due vanished 2 0 1
unfolding due_after
vanished_moves_no_timer = refl

-- a part that isn't there needn't be sent
abbrev no_part : Step
no_part = refuses [] (Event.Send 2 0 1 Fate.Done) 2 (Refusal.Send SendFault.NoPart)

need_not_be_sent : MustSend IsExcused (context_of opening [] no_part) no_part.event no_part.line
unfolding cut cut_from written
need_not_be_sent router server part fate is up listed there below =
    let r : ◌≡◌ {A = ℕ} 2 router = cc in
    let p : ◌≡◌ {A = ℕ} 1 part = cc in
    absurd (omega (arith, subst (λ (n : ℕ). n < 1) (sym p) (subst (λ (x : ℕ). part < part_count (database opening [] x)) (sym r) there)))

-- ---- What the meanings make of other nodes, and of the latest of several: each looks at its own.

-- where a router was heard last: of two messages the later one
heard_latest : heard_last one (record (arrived short 2) { from = local_at 99 } ∷ arrived short 1 ∷ []) ≡ Some (record (arrived short 2) { from = local_at 99 })
heard_latest = refl

-- the last nonce of a pair is that of its key
last_of_the_key : last_of (got_from one) (record (arrived short 2) { message = record (registers short 2) { key_id = 2 } } ∷ []) ≡ None
last_of_the_key = refl

-- of two records of one prefix in a message the later one is held, and is a database's
abbrev twice : List MapRecordValue
twice = mapping wide 1440 ∷ mapping wide 60 ∷ []

later_held : held_row (arrived twice 1 ∷ []) one wide 0 ≡ Some (row_of (mapping wide 60) 1 0)
later_held = refl

later_recorded : record_for twice wide ≡ Some (mapping wide 60)
later_recorded = refl

-- a record that lives for a minute hides an older one for good
abbrev a_minute : Acceptance
a_minute = record { message = record (registers (mapping wide 1 ∷ []) 2) { use_ttl = true }; from = local_at 21; moment = 0 }

gone_after_a_minute : held_row (a_minute ∷ arrived (mapping wide 1440 ∷ []) 1 ∷ []) one wide 60000 ≡ None
gone_after_a_minute = refl

none_listed_after_a_minute : rows (a_minute ∷ arrived (mapping wide 1440 ∷ []) 1 ∷ []) 60000 ≡ []
none_listed_after_a_minute = refl

listed_before : rows (a_minute ∷ []) 59999 ≡ record { router = one; key = 1; nonce = 2; mapping = mapping wide 1; accepted = 0; life = 60000; proxy = true; from = local_at 21 } ∷ []
listed_before = refl

-- a router's database: the one that it was given, at a start too, whether or not that was refused; not while it is down, and not
-- another router's
given_at_a_start : database opening (restarted_changed ∷ one_sent) 2 ≡ short
given_at_a_start = refl

given_at_a_refused_start : database opening (refused_changed ∷ one_sent) 2 ≡ short
given_at_a_refused_start = refl

given_while_down : database opening (step (Event.Change 2 short) (Line.Down 2) 2 (at not_started 2) ∷ not_started) 2 ≡ mapping wide 1440 ∷ []
given_while_down = refl

given_to_another : database opening (changes [] short ∷ []) 3 ≡ mapping narrow 1440 ∷ []
given_to_another = refl

-- a router is down whose start was refused, until its own start, which gives another one no database
up_beside_it : is_up not_started 3 ≡ true
up_beside_it = refl

up_again : (is_up (restarts not_started 2 ∷ not_started) 2 ≡ true) × (database opening (restarted_changed ∷ one_sent) 3 ≡ mapping narrow 1440 ∷ [])
up_again = (refl, refl)

down_though_another_starts : is_up (step (Event.Restart 3 0 None) (Line.Restarted 3) 3 blank ∷ not_started) 2 ≡ false
down_though_another_starts = refl

-- what a restart forgets
latest_after_restart : latest_nonce (restarts one_counted 2 ∷ one_counted) 2 0 0 ≡ 0
latest_after_restart = refl

noticed_after_restart : last_notice (restarts first_told 0 ∷ first_told) 0 ≡ None
noticed_after_restart = refl

abbrev later : List Step
later = ticks one_counted 5 5 ∷ one_counted

due_after_restart : due (restarts later 2 ∷ later) 2 0 0 ≡ 5
unfolding due_after
due_after_restart = refl

-- and another node's restart doesn't
abbrev others_restarted : List Step
others_restarted = step (Event.Restart 3 0 None) (Line.Restarted 3) 3 blank ∷ step (Event.Restart 1 0 None) (Line.Restarted 1) 1 blank ∷ first_told

since_stays : since_start opening others_restarted 0 ≡ since_start opening first_told 0
since_stays = refl

notices_stay : standing opening others_restarted 0 ≡ told_to one (2 ^ 63) 2 (0 ∷ []) ∷ []
notices_stay = refl

latest_stays : latest_nonce others_restarted 2 0 0 ≡ 1
latest_stays = refl

-- a restart ends a notice, and forgets what was sent; what was told, sent and counted outlasts another node's
beside_a_restart : (standing opening (restarts first_told 0 ∷ first_told) 0 ≡ []) × (last_sent (restarts one_counted 2 ∷ one_counted) 2 ≡ None) × (last_notice others_restarted 0 ≡ Some (2 ^ 63)) × (last_sent others_restarted 2 ≡ Some 1) × (acked (step (Event.Restart 3 0 None) (Line.Restarted 3) 3 blank ∷ one_counted) 2 0 0 ≡ Some (1, 1))
beside_a_restart = (refl, refl, refl, refl, refl)

-- a life begins at the moment of the node's last restart, and at 0 where there was none
abbrev begun : List Step
begun = ticks (restarts later 0 ∷ later) 1000 1005 ∷ restarts later 0 ∷ later

began_at_first : began later 0 ≡ 0
began_at_first = refl

began_at_a_restart : began begun 0 ≡ 5
began_at_a_restart = refl

began_at_the_last_restart : began (restarts begun 0 ∷ begun) 0 ≡ 1005
began_at_the_last_restart = refl

began_beside_it : began begun 1 ≡ 0
began_beside_it = refl

-- a meaning of one node or pair of nodes isn't another's
none_told_by_another : standing opening first_told 1 ≡ []
none_told_by_another = refl

last_notice_of_another : last_notice first_told 1 ≡ None
last_notice_of_another = refl

due_of_another : due one_sent 3 0 0 ≡ 0
unfolding due_after
due_of_another = refl

due_of_another_after_a_change : due (changes later short ∷ later) 3 0 0 ≡ 0
unfolding due_after
due_of_another_after_a_change = refl

latest_of_another : latest_nonce one_sent 3 0 0 ≡ 0
latest_of_another = refl

last_sent_of_another : last_sent one_sent 3 ≡ None
last_sent_of_another = refl

acked_from_another : acked one_counted 2 1 0 ≡ None
acked_from_another = refl

-- what another one counted, and accepted
of_another : (acked one_counted 3 0 0 ≡ None) × (counted_nonces one_counted 3 0 ≡ []) × (counted_nonces one_counted 2 1 ≡ []) × (acceptances opening one_taken 1 ≡ []) × (since_start opening one_taken 1 ≡ [])
of_another = (refl, refl, refl, refl, refl)

done_at_another : standing opening (step (Event.Deliver 4 Fate.Done) (Line.Done 1 one (2 ^ 63)) 1 blank ∷ first_told) 0 ≡ told_to one (2 ^ 63) 2 (0 ∷ []) ∷ []
done_at_another = refl

nothing_due_for_another : notice_to opening first_told 0 two ≡ None
nothing_due_for_another = refl

-- a round ends with the last of its sends that is counted
abbrev sent_a_second_later : List Step
sent_a_second_later = sends (ticks one_sent 1000 1000 ∷ one_sent) 0 2 1 ∷ ticks one_sent 1000 1000 ∷ one_sent

due_after_the_last : due (counts sent_a_second_later 1 0 2 ∷ sent_a_second_later) 2 0 0 ≡ 61000
unfolding due_after
due_after_the_last = refl

-- a message has the moment of its arrival
taken_late : held_row (since_start opening (takes (ticks one_sent 500 500 ∷ one_sent) 0 0 1 1 ∷ ticks one_sent 500 500 ∷ one_sent) 0) one wide 500 ≡ Some (row_of (mapping wide 1440) 1 500)
unfolding cut cut_from written
taken_late = refl

-- a line without a datagram adds nothing to the bag; what is sent again is what was sent
none_replied : bag opening (step (Event.Deliver 0 Fate.Done) (Line.Accepted 0 one 1 1 None) 0 blank ∷ one_sent) ≡ register_item opening [] 2 0 0 1 ∷ []
none_replied = refl

abbrev renewed_told : List Step
renewed_told = takes (sends (changes first_told short ∷ first_told) 0 2 3 ∷ changes first_told short ∷ first_told) 3 0 2 4 ∷ sends (changes first_told short ∷ first_told) 0 2 3 ∷ changes first_told short ∷ first_told

sent_again_as_it_was : slice_get (bag opening (repeats renewed_told 5 ∷ renewed_told)) 5 ≡ Some (told (local_at 11) (local_at 21) (2 ^ 63) (mapping wide 1440 ∷ []))
unfolding cut cut_from written
sent_again_as_it_was = refl

-- a router's answer to a notice goes to its source
abbrev told_by_other : List Step
told_by_other = step (Event.Notice 1 2 Fate.Done) (Line.Notice 1 2 1 (2 ^ 63) 3) 1 blank ∷ takes both_sent 1 1 2 2 ∷ both_sent

answered_to_its_source : slice_get (bag opening (step (Event.Deliver 3 Fate.Done) (Line.Noticed 2 1 (2 ^ 63) 4) 2 blank ∷ told_by_other)) 4 ≡ Some (record (answered (2 ^ 63) (mapping wide 1440 ∷ [])) { to = local_at 12 })
unfolding cut cut_from written
answered_to_its_source = refl

-- what becomes of the calls of a store is what the event asks for
asked_for : fate_of (Event.Send 2 0 0 Fate.Doubt) ≡ Fate.Doubt
asked_for = refl

asked_at_an_arrival : fate_of (Event.Deliver 0 Fate.LoadFails) ≡ Fate.LoadFails
asked_at_an_arrival = refl

asked_of_a_notice : fate_of (Event.Notice 0 2 Fate.Doubt) ≡ Fate.Doubt
asked_of_a_notice = refl

-- the numbers of what a network doesn't take
numbers : map world_fault_number (world_faults.NoNode ∷ world_faults.WrongKind ∷ world_faults.NoDatagram ∷ world_faults.Clock ∷ world_faults.Repeated ∷ world_faults.OutOfMemory ∷ world_faults.Start 2 StartFault.OutOfMemory ∷ world_faults.KeyUsed ∷ world_faults.UnknownKey ∷ [])
    ≡ 70 ∷ 71 ∷ 72 ∷ 73 ∷ 74 ∷ 75 ∷ 76 ∷ 77 ∷ 78 ∷ []
numbers = refl

-- a router's settings are those of its configuration
its_settings : etr_config blocks [] 2 ≡ record { me = one; key_id = 1; secret = secret; servers = local_at 11 ∷ local_at 12 ∷ []; proxy = true; use_ttl = true; nonce_block = 10 }
its_settings = refl

-- what a router's store kept at its start, another node's start doesn't change
kept_at_its_start : start_values opening (step (Event.Restart 2 0 None) (Line.Restarted 2) 2 (keeps blank (sent_by two) 7) ∷ []) 3 ≡ start_values opening [] 3
kept_at_its_start = refl

-- a reply goes out under the key of its message
replied_under_its_key : (reply_item two_keys.config two_keys.config.sites 0 (record (arrived short 1) { message = record (registers short 1) { key_id = 2 } })).secret ≡ 1 ∷ []
replied_under_its_key = refl

-- ---- What the meanings make of a router's keys, and of its lost store.

-- a router's key: the configured one; the one that it went over to, or was to start under once its store was lost; not where
-- it keeps its key, or is down; and it stays over a restart
key_after_rotation : key rotating renewed 2 ≡ 2
key_after_rotation = refl

key_after_refusal : key rotating (not_loaded ∷ started) 2 ≡ 1
key_after_refusal = refl

abbrev is_down : Step
is_down = step (Event.Rotate 2 2 Fate.Done) (Line.Down 2) 2 (shows started 2)

key_while_down : key rotating (is_down ∷ started) 2 ≡ 1
key_while_down = refl

key_after_loss : key rotating emptied 2 ≡ 3
key_after_loss = refl

key_after_refused_loss : key rotating not_emptied 2 ≡ 3
key_after_refused_loss = refl

abbrev restarted : List Step
restarted = step (Event.Restart 2 0 None) (Line.Restarted 2) 2 (shows renewed 2) ∷ renewed

key_at_first_and_after_restart : (key rotating [] 2 ≡ 1) × (key rotating restarted 2 ≡ 2)
key_at_first_and_after_restart = (refl, refl)

-- not another router's
key_of_another : key rotating renewed 3 ≡ 1
key_of_another = refl

key_of_another_after_loss : key rotating emptied 3 ≡ 1
key_of_another_after_loss = refl

-- its settings, and the secret that it has, are those of its key
settings_after_rotation : etr_config rotating renewed 2 ≡ record { me = one; key_id = 2; secret = new_secret; servers = local_at 11 ∷ local_at 12 ∷ []; proxy = true; use_ttl = false; nonce_block = 1 }
settings_after_rotation = refl

secrets_after_rotation : secrets_of rotating renewed 2 ≡ new_secret ∷ []
secrets_after_rotation = refl

-- the keys that it used since its store was lost, over a restart too, and those before
used_since_start : keys_since_loss rotating kept_key 2 ≡ 1 ∷ 2 ∷ 1 ∷ []
used_since_start = refl

used_over_restart : keys_since_loss rotating restarted 2 ≡ 2 ∷ 1 ∷ []
used_over_restart = refl

used_since_loss : keys_since_loss rotating emptied 2 ≡ 3 ∷ []
used_since_loss = refl

used_before_loss : keys_before_loss rotating emptied 2 ≡ 1 ∷ 2 ∷ 1 ∷ []
used_before_loss = refl

used_before_two_losses : keys_before_loss rotating (loses not_emptied 2 ∷ not_emptied) 2 ≡ 3 ∷ 1 ∷ []
used_before_two_losses = refl

used_by_refused_loss : keys_since_loss rotating not_emptied 2 ≡ 3 ∷ []
used_by_refused_loss = refl

unused_after_refusal : keys_since_loss rotating (not_loaded ∷ started) 2 ≡ 1 ∷ []
unused_after_refusal = refl

used_beside_a_rotation : keys_since_loss rotating renewed 3 ≡ 1 ∷ []
used_beside_a_rotation = refl

used_beside_a_loss : keys_since_loss rotating not_emptied 3 ≡ 1 ∷ []
used_beside_a_loss = refl

used_before_beside_a_loss : keys_before_loss rotating emptied 3 ≡ []
used_before_beside_a_loss = refl

-- the next nonce counts from what the store keeps for the new key, not from the last one under the old
last_after_rotation : last_sent renewed 2 ≡ None
last_after_rotation = refl

start_after_rotation : start_values rotating renewed 2 ≡ kept_at (insert empty (sent_by one) (Some 1 ∷ [])) (under 2 (sent_by one))
start_after_rotation = refl

start_of_another_after_rotation : start_values rotating renewed 3 ≡ start_values rotating [] 3
start_of_another_after_rotation = refl

last_after_loss : last_sent emptied 2 ≡ None
last_after_loss = refl

start_after_loss : start_values rotating emptied 2 ≡ kept_at empty (under 3 (sent_by one))
start_after_loss = refl

start_of_another_after_loss : start_values rotating (step (Event.Lose 2 3 None) (Line.Emptied 2 3) 2 (keeps blank (sent_by one) 7) ∷ []) 3 ≡ start_values rotating [] 3
start_of_another_after_loss = refl

last_of_another : last_sent (step (Event.Rotate 3 2 Fate.Done) (Line.Rotated 3 2) 3 blank ∷ started) 2 ≡ Some 1
last_of_another = refl

last_of_another_after_loss : last_sent (step (Event.Lose 3 2 None) (Line.Emptied 3 2) 3 blank ∷ started) 2 ≡ Some 1
last_of_another_after_loss = refl

-- entries are under the key of their moment
keys_of_entries : map (λ e. e.key) (history rotating sent_anew) ≡ 2 ∷ 1 ∷ []
keys_of_entries = refl

-- no Map-Register was sent since it went over to its key, or started; what was counted last stays where it went over
abbrev over : Step
over = step (Event.Rotate 2 2 Fate.Done) (Line.Rotated 2 2) 2 blank

abbrev lost : Step
lost = step (Event.Lose 2 2 None) (Line.Emptied 2 2) 2 blank

latest_after_rotation : latest_nonce (over ∷ one_counted) 2 0 0 ≡ 0
latest_after_rotation = refl

latest_after_loss : latest_nonce (lost ∷ one_counted) 2 0 0 ≡ 0
latest_after_loss = refl

acked_after_rotation : acked (over ∷ one_counted) 2 0 0 ≡ Some (1, 1)
acked_after_rotation = refl

acked_after_loss : acked (lost ∷ one_counted) 2 0 0 ≡ None
acked_after_loss = refl

counted_after_loss : (counted_nonces (lost ∷ one_counted) 2 0 ≡ acknowledged 0 1 1 ∷ []) × (database rotating emptied 2 ≡ mapping wide 1440 ∷ []) × (keys_before_loss rotating kept_key 2 ≡ [])
counted_after_loss = (refl, refl, refl)

-- not another router's
abbrev over_another : Step
over_another = step (Event.Rotate 3 2 Fate.Done) (Line.Rotated 3 2) 3 blank

abbrev lost_another : Step
lost_another = step (Event.Lose 3 2 None) (Line.Emptied 3 2) 3 blank

latest_over_another : latest_nonce (over_another ∷ one_counted) 2 0 0 ≡ 1
latest_over_another = refl

latest_over_anothers_loss : latest_nonce (lost_another ∷ one_counted) 2 0 0 ≡ 1
latest_over_anothers_loss = refl

acked_over_anothers_loss : acked (lost_another ∷ one_counted) 2 0 0 ≡ Some (1, 1)
acked_over_anothers_loss = refl

-- a round begins
due_after_rotation : due (over ∷ later) 2 0 0 ≡ 5
unfolding due_after
due_after_rotation = refl

due_after_loss : due (lost ∷ later) 2 0 0 ≡ 5
unfolding due_after
due_after_loss = refl

due_over_another : due (over_another ∷ later) 2 0 0 ≡ 60000
unfolding due_after
due_over_another = refl

due_over_anothers_loss : due (lost_another ∷ later) 2 0 0 ≡ 60000
unfolding due_after
due_over_anothers_loss = refl

-- a router is down whose start after the loss failed, and up after one that didn't
down_after_refused_loss : is_up not_emptied 2 ≡ false
down_after_refused_loss = refl

up_beside_a_refused_loss : is_up not_emptied 3 ≡ true
up_beside_a_refused_loss = refl

up_after_loss : is_up (loses not_emptied 2 ∷ not_emptied) 2 ≡ true
up_after_loss = refl

down_though_anothers_store_is_lost : is_up (lost_another ∷ not_emptied) 2 ≡ false
down_though_anothers_store_is_lost = refl

-- its database is the one that it was given there, whether or not the start failed
abbrev lost_changed : Step
lost_changed = step (Event.Lose 2 3 (Some short)) (Line.Emptied 2 3) 2 blank

given_at_a_loss : database rotating (lost_changed ∷ started) 2 ≡ short
given_at_a_loss = refl

given_at_a_refused_loss : database rotating ((step (Event.Lose 2 3 (Some short)) (Line.Refused 2 (Refusal.Start (StartFault.Store StoreFault.Device))) 2 blank) ∷ started) 2 ≡ short
given_at_a_refused_loss = refl

given_to_another_at_a_loss : database rotating (lost_changed ∷ started) 3 ≡ mapping narrow 1440 ∷ []
given_to_another_at_a_loss = refl

-- and that is a change; a loss without one isn't, nor is a change of the key
changed_at_a_loss : gives_database lost_changed.event 2 ≡ true
changed_at_a_loss = refl

unchanged_at_a_loss : gives_database lost.event 2 ≡ false
unchanged_at_a_loss = refl

unchanged_at_anothers_loss : gives_database lost_changed.event 3 ≡ false
unchanged_at_anothers_loss = refl

unchanged_at_a_rotation : gives_database over.event 2 ≡ false
unchanged_at_a_rotation = refl

-- what becomes of the load is what the event asks for
asked_of_a_rotation : fate_of (Event.Rotate 2 2 Fate.LoadFails) ≡ Fate.LoadFails
asked_of_a_rotation = refl

-- ---- Which lines say that memory was refused: a node's, or its store's.

abbrev by_nodes : List Refusal
by_nodes = Refusal.Send SendFault.OutOfMemory ∷ Refusal.Notify NotifyFault.OutOfMemory ∷ Refusal.Receive Refused.OutOfMemory ∷ Refusal.Notice NoticeFault.OutOfMemory ∷ Refusal.Start StartFault.OutOfMemory ∷ []

abbrev by_stores : StoreFault → List Refusal
by_stores fault = Refusal.Send (SendFault.Store fault) ∷ Refusal.Receive (Refused.StoreLoad fault) ∷ Refusal.Receive (Refused.StoreSave fault) ∷ Refusal.Notice (NoticeFault.StoreLoad fault) ∷ Refusal.Notice (NoticeFault.StoreSave fault) ∷ Refusal.Start (StartFault.Store fault) ∷ Refusal.Rotate (RotateFault.Store fault) ∷ []

-- a node's memory, and no store's
of_nodes : (map is_node_memory by_nodes ≡ true ∷ true ∷ true ∷ true ∷ true ∷ []) × (map is_store_memory by_nodes ≡ false ∷ false ∷ false ∷ false ∷ false ∷ [])
of_nodes = (refl, refl)

stores_lines : map is_store_memory (by_stores StoreFault.OutOfMemory) ≡ true ∷ true ∷ true ∷ true ∷ true ∷ true ∷ true ∷ []
stores_lines = refl

not_nodes : map is_node_memory (by_stores StoreFault.OutOfMemory) ≡ false ∷ false ∷ false ∷ false ∷ false ∷ false ∷ false ∷ []
not_nodes = refl

device_lines : map is_store_memory (by_stores StoreFault.Device) ≡ false ∷ false ∷ false ∷ false ∷ false ∷ false ∷ false ∷ []
device_lines = refl

-- a line doesn't say so where the one, or the other, can't be refused
node_may_not_tell : MayTell ⊥ (Unit {0}) (Line.Refused 2 (Refusal.Send SendFault.OutOfMemory)) → ⊥
node_may_not_tell may = may.0 refl

store_may_not_tell : MayTell (Unit {0}) ⊥ (Line.Refused 2 (Refusal.Send (SendFault.Store StoreFault.OutOfMemory))) → ⊥
store_may_not_tell may = may.1 refl

-- and other lines always may
others_may_tell : MayTell ⊥ ⊥ (Line.Refused 2 (Refusal.Send SendFault.NonceSpent))
others_may_tell = (λ e. absurd (true≢false (sym e)), λ e. absurd (true≢false (sym e)))

-- ---- A Map-Server takes other sites: one more, after which it holds what it held; and without a key, after which it starts
-- anew.

-- another site
abbrev pub other : SiteValue
other = record site { id = 2 }

abbrev pub more : List SiteValue
more = site ∷ other ∷ []

-- the site without its key
abbrev pub keyless : List SiteValue
keyless = record site { keys = [] } ∷ []

-- the first Map-Server takes sites, after it accepted a Map-Register
abbrev pub reloads : List SiteValue → Line → Step
reloads given line = step (Event.Reload 0 given) line 0 (at one_taken 0)

abbrev pub kept : Step
kept = reloads more (Line.Reloaded 0 2)

abbrev pub anew : Step
anew = reloads keyless (Line.Renewed 0 1)

kept_is_legal : Legal opening one_taken kept
kept_is_legal = record { faults = λ other. omega arith; obedient = refl; row = record { acts = record { kind = refl; acts = refl }; names = refl; counts = refl; keeps = refl; same = refl } }

anew_is_legal : Legal opening one_taken anew
anew_is_legal = record { faults = λ other. omega arith; obedient = refl; row = record { acts = record { kind = refl; acts = refl }; names = refl; counts = refl; keeps = refl; same = refl } }

-- whose sites they are from then on, and what it may check tags with
its_sites_then : sites opening (kept ∷ one_taken) 0 ≡ more
its_sites_then = refl

others_sites_then : sites opening (kept ∷ one_taken) 1 ≡ network.sites
others_sites_then = refl

-- what it may check tags with, then
secrets_of_its_sites : (secrets_of opening (kept ∷ one_taken) 0 ≡ secret ∷ secret ∷ []) × (secrets_of opening (anew ∷ one_taken) 0 ≡ [])
secrets_of_its_sites = (refl, refl)

-- what it holds then: all, and its life goes on; or nothing
rows_kept : (since_start opening (kept ∷ one_taken) 0 ≡ since_start opening one_taken 0) × (began (kept ∷ step (Event.Tick 5) (Line.Ticked 5 5) 9 (at [] 9) ∷ []) 0 ≡ 0)
rows_kept = (refl, refl)

rows_gone : since_start opening (anew ∷ one_taken) 0 ≡ []
rows_gone = refl

-- another Map-Server's start is its own
others_rows_stay : since_start opening (step (Event.Reload 1 keyless) (Line.Renewed 1 1) 1 (at one_taken 1) ∷ one_taken) 0 ≡ since_start opening one_taken 0
others_rows_stay = refl

-- its notices and their last nonce, and when its life began
module _ (T : List Step) where
  notices_kept : notices opening (kept ∷ T) 0 ≡ notices opening T 0
  notices_kept = refl

  notices_gone : notices opening (anew ∷ T) 0 ≡ []
  notices_gone = refl

  last_notice_kept : last_notice (kept ∷ T) 0 ≡ last_notice T 0
  last_notice_kept = refl

  last_notice_gone : last_notice (anew ∷ T) 0 ≡ None
  last_notice_gone = refl

  others_last_notice : last_notice (step (Event.Reload 1 keyless) (Line.Renewed 1 1) 1 (at one_taken 1) ∷ T) 0 ≡ last_notice T 0
  others_last_notice = refl

life_begins : began (anew ∷ step (Event.Tick 5) (Line.Ticked 5 5) 9 (at [] 9) ∷ []) 0 ≡ 5
life_begins = refl

-- it doesn't go on where a key, its secret or a prefix is gone; nor starts anew where sites were only added
kept_without_key : Legal opening one_taken (reloads keyless (Line.Reloaded 0 1)) → ⊥
kept_without_key l = true≢false (sym l.row.keeps)

kept_with_another_secret : Legal opening one_taken (reloads (record site { keys = record { id = 1; secret = 0x6e ∷ 0x65 ∷ 0x77 ∷ [] } ∷ [] } ∷ []) (Line.Reloaded 0 1)) → ⊥
kept_with_another_secret l = true≢false (sym l.row.keeps)

kept_without_prefix : Legal opening one_taken (reloads (record site { prefixes = [] } ∷ []) (Line.Reloaded 0 1)) → ⊥
kept_without_prefix l = true≢false (sym l.row.keeps)

anew_with_more : Legal opening one_taken (reloads more (Line.Renewed 0 2)) → ⊥
anew_with_more l = true≢false l.row.keeps

-- its line has its own number, and how many sites there are; its store isn't used; and routers take none
names_another : Legal opening one_taken (reloads more (Line.Reloaded 1 2)) → ⊥
names_another l = let clash : ◌≡◌ {A = ℕ} 1 0 = l.row.names in absurd (omega (arith, clash))

miscounted : Legal opening one_taken (reloads more (Line.Reloaded 0 1)) → ⊥
miscounted l = let clash : ◌≡◌ {A = ℕ} 1 2 = l.row.counts in absurd (omega (arith, clash))

at_router : Legal opening one_taken (step (Event.Reload 2 more) (Line.Reloaded 2 2) 2 (at one_taken 2)) → ⊥
at_router l = true≢false (sym l.row.acts.kind)

-- ---- Who answers for an address: what is so, and what isn't.

-- who answers: no site has the address; a site has it, and nobody registered it
nobody_has_it : IsAnswer {A = Unit {0}} opening [] 0 (V4 (11 ∷ 0 ∷ 0 ∷ 1 ∷ [])) NoSite
unfolding masked
nobody_has_it = (λ h has. absurd (in_none h has), refl)

a_site_has_it : IsAnswer {A = Unit {0}} opening [] 0 (V4 (10 ∷ 1 ∷ 2 ∷ 3 ∷ [])) NotRegistered
unfolding masked
a_site_has_it = (λ h has. absurd (in_none h has), refl)

two_rows : rows (since_start opening both_heard 0) 0 ≡ row_of_one ∷ row_of_two ∷ []
unfolding cut cut_from written
two_rows = refl

among : (x : RowValue) → Contains (row_of_one ∷ row_of_two ∷ []) x → (x ≡ row_of_one) ⊎ (x ≡ row_of_two)
among x (zero, lt, is) = inl (sym is)
among x (suc zero, lt, is) = inr (sym is)
among x (suc (suc k), lt, is) = absurd (omega (arith, lt))

-- its own router answers for an address of the longer prefix; for another one the server does, with the
-- first router's record
its_router_answers : IsAnswer {A = Unit {0}} opening both_heard 0 (V4 (10 ∷ 1 ∷ 2 ∷ 3 ∷ [])) (Forward (local_at 22))
unfolding cut cut_from written masked
its_router_answers = (row_of_two, record { held = (1, omega arith, refl); may = refl; most = λ x has may. by (among x has) }, refl, refl)
  where
    by : {x : RowValue} → (x ≡ row_of_one) ⊎ (x ≡ row_of_two) → rank_cmp x row_of_two ≢ Greater
    by (inl is) = subst (λ (h : RowValue). rank_cmp h row_of_two ≢ Greater) (sym is) (λ e. let clash : Less ≡ Greater = e in absurd cc)
    by (inr is) = subst (λ (h : RowValue). rank_cmp h row_of_two ≢ Greater) (sym is) (λ e. let clash : Equal ≡ Greater = e in absurd cc)

the_server_answers : (answer : Bor MapRecordValue) → answer.now ≡ mapping wide 1440 → IsAnswer {A = Unit {0}} opening both_heard 0 (V4 (10 ∷ 1 ∷ 3 ∷ 4 ∷ [])) (Reply answer)
unfolding cut cut_from written masked
the_server_answers answer is = (row_of_one, record { held = (0, omega arith, refl); may = refl; most = λ x has may. by (among x has) may }, refl, is)
  where
    by : {x : RowValue} → (x ≡ row_of_one) ⊎ (x ≡ row_of_two) → may_answer (V4 (10 ∷ 1 ∷ 3 ∷ 4 ∷ [])) 0 x ≡ true → rank_cmp x row_of_one ≢ Greater
    by (inl is) may = subst (λ (h : RowValue). rank_cmp h row_of_one ≢ Greater) (sym is) (λ e. let clash : Equal ≡ Greater = e in absurd cc)
    by (inr is) may = absurd (let clash : false ≡ true = ap (may_answer (V4 (10 ∷ 1 ∷ 3 ∷ 4 ∷ [])) 0) (sym is) ∙ may in cc)

-- the router asked for proxy replies: the server replies with its record
the_row : (h : RowValue) → Contains (rows (since_start opening one_taken 0) 0) h → h ≡ row_of (mapping wide 1440) 1 0
unfolding cut cut_from written
the_row h has = only (row_of (mapping wide 1440) 1 0) h has

equal_is_not_greater : Equal ≢ Greater
equal_is_not_greater e = absurd cc

replies : IsBest (rows (since_start opening one_taken 0) 0) (V4 (10 ∷ 1 ∷ 2 ∷ 3 ∷ [])) 0 (row_of (mapping wide 1440) 1 0)
unfolding cut cut_from written masked
replies = record {
  held = at_head (row_of (mapping wide 1440) 1 0) [];
  may = refl;
  most = λ other has may. subst (λ (h : RowValue). rank_cmp h (row_of (mapping wide 1440) 1 0) ≢ Greater) (sym (the_row other has)) equal_is_not_greater;
}

answers_by_proxy : (record_of : Bor MapRecordValue) → record_of.now ≡ mapping wide 1440 → IsAnswer {A = Unit {0}} opening one_taken 0 (V4 (10 ∷ 1 ∷ 2 ∷ 3 ∷ [])) (Reply record_of)
answers_by_proxy record_of is = (row_of (mapping wide 1440) 1 0, replies, refl, is)

-- what isn't so: a shorter prefix answers; another address than the best row's source; another record than the best row's; the
-- wrong of the two where no row has the address
shorter_answers : (r : Bor MapRecordValue) → IsAnswer {A = Unit {0}} opening both_heard 0 (V4 (10 ∷ 1 ∷ 2 ∷ 3 ∷ [])) (Reply r) → ⊥
unfolding cut cut_from written masked
shorter_answers r (h, best, proxy, is) = cases (among h best.held)
    (λ one. best.most row_of_two (1, omega arith, refl) refl (subst (λ (x : RowValue). rank_cmp row_of_two x ≡ Greater) (sym one) refl))
    (λ two. true≢false (sym proxy ∙ ap (λ (x : RowValue). x.proxy) two))

forwards_elsewhere : IsAnswer {A = Unit {0}} opening both_heard 0 (V4 (10 ∷ 1 ∷ 2 ∷ 3 ∷ [])) (Forward (local_at 21)) → ⊥
unfolding cut cut_from written
forwards_elsewhere (h, best, proxy, is) = cases (among h best.held)
    (λ one. true≢false (sym (ap (λ (x : RowValue). x.proxy) one) ∙ proxy))
    (λ two. let from : local_at 21 ≡ local_at 22 = is ∙ ap (λ (x : RowValue). x.from) two in let last : ◌≡◌ {A = ℕ} 21 22 = cc in absurd (omega (arith, last)))

replies_otherwise : (r : Bor MapRecordValue) → r.now ≡ mapping wide 60 → IsAnswer {A = Unit {0}} opening one_taken 0 (V4 (10 ∷ 1 ∷ 2 ∷ 3 ∷ [])) (Reply r) → ⊥
replies_otherwise r other (h, best, proxy, is) =
    let same : mapping wide 60 ≡ mapping wide 1440 = sym other ∙ is ∙ ap (λ (x : RowValue). x.mapping) (the_row h best.held) in
    absurd (omega (arith, ap (λ (m : MapRecordValue). m.ttl) same))

not_registered_without_site : IsAnswer {A = Unit {0}} opening [] 0 (V4 (11 ∷ 0 ∷ 0 ∷ 1 ∷ [])) NotRegistered → ⊥
unfolding masked
not_registered_without_site answers = true≢false (sym answers.1)

no_site_though_one : IsAnswer {A = Unit {0}} opening [] 0 (V4 (10 ∷ 1 ∷ 2 ∷ 3 ∷ [])) NoSite → ⊥
unfolding masked
no_site_though_one answers = true≢false answers.1

not_registered_though_held : IsAnswer {A = Unit {0}} opening one_taken 0 (V4 (10 ∷ 1 ∷ 2 ∷ 3 ∷ [])) NotRegistered → ⊥
unfolding cut cut_from written masked
not_registered_though_held answers = true≢false (answers.0 (row_of (mapping wide 1440) 1 0) (at_head (row_of (mapping wide 1440) 1 0) []))

forwards_though_proxy : IsAnswer {A = Unit {0}} opening one_taken 0 (V4 (10 ∷ 1 ∷ 2 ∷ 3 ∷ [])) (Forward (local_at 21)) → ⊥
forwards_though_proxy (h, best, proxy, is) = true≢false (sym (ap (λ (x : RowValue). x.proxy) (the_row h best.held)) ∙ proxy)

-- the order of rows of one prefix length: with proxy replies, then the later one, then the greater router
with_proxy_first : rank_cmp row_of_one (record row_of_one { proxy = false; accepted = 7; router = two }) ≡ Greater
with_proxy_first = refl

later_then : rank_cmp (record row_of_one { accepted = 7 }) (record row_of_one { router = two }) ≡ Greater
later_then = refl

router_then : rank_cmp (record row_of_one { router = two }) row_of_one ≡ Greater
router_then = refl

-- a row replies for no address outside of its prefix, and not when it is dead
replies_for_another : (r : Bor MapRecordValue) → IsAnswer {A = Unit {0}} opening one_taken 0 (V4 (11 ∷ 0 ∷ 0 ∷ 1 ∷ [])) (Reply r) → ⊥
unfolding masked
replies_for_another r (h, best, proxy, is) = true≢false (sym best.may ∙ ap (may_answer (V4 (11 ∷ 0 ∷ 0 ∷ 1 ∷ [])) 0) (the_row h best.held))

dead_answers : may_answer (V4 (10 ∷ 1 ∷ 2 ∷ 3 ∷ [])) 180000 row_of_one ≡ false
unfolding masked
dead_answers = refl

-- of two rows the greater one
greater_first : greater (Some row_of_two) row_of_one ≡ row_of_two
greater_first = refl

greater_second : greater (Some row_of_one) row_of_two ≡ row_of_two
greater_second = refl
