-- Legal traces of the small network: what each meaning makes of them.
use Rattle.std.proofs.Common.{[], rules, List, None, Option, Some, ap, arith, inl, inr, map, refl, subst, sym, true, true≢false, ℕ, ◌-◌, ◌∷◌, ◌≡◌, ◌≤◌, Bool, Ok, false, length, suc, zero, ◌∙◌, replicate}
use Rattle.std.specs.FinMap.{empty}
use Rattle.std.specs.List.{Contains, AllByRecursion}
use Rattle.std.specs.Prelude.{Result, slice_get, ◌+◌, ◌^◌, Err, ◌<◌, ◌==◌, ◌≢◌, nat_le, position, slice_index_or, take}
use Rattle.lisp_records.specs.Parts.{cut, cut_from, fits_message, part_at}
use Rattle.lisp_records.specs.Moment.{max_moment}
use Rattle.lisp_records.specs.Record.{MapRecordValue, IsLocator}
use Rattle.lisp_records.specs.Written.{written}
use Rattle.lisp_nonces.specs.Kept.{number, SameElsewhere, kept_at}
use Rattle.lisp_messages.specs.Message.{MessageValue, AreRecords, MapNotifyValue, Notifies, Registers}
use Rattle.lisp_etr.specs.Sending.{last_nonce, block_end, map_register_of}
use Rattle.lisp_admission.specs.NoticeTimer.{due_after}
use Rattle.lisp_admission.specs.Pairs.{notice_pair}
use Rattle.lisp_model.specs.Bag.{Item, bag, bytes_of, register_item, reply_item, since_start, acceptances_in, junk_arrival, arrival_of}
use Rattle.lisp_model.specs.Held.{held_row, last_of}
use Rattle.lisp_model.specs.Legal.{Legal, LegalTrace, context_of}
use Rattle.lisp_model.specs.Receiving.{FailsCheck, IsFresh}
use Rattle.lisp_model.specs.Trace.{Step, Opening, ShownStore, sites, database, etr_config, etr_config_under, is_up, key as key_of, router_at, shown_store}
use Rattle.lisp_model.specs.Story.{at, blank, counts, got_from, keeps, local_at, mapping, narrow, network, one, one_counted, one_sent, one_taken, opening, replays, restarts, sends, sent_by, step, takes, two, wide, replay_refused, server_restarted, six_steps, secret, site, xtr_of}
use Rattle.lisp_model.specs.Numbers.{numbers_below, part_numbers}
use Rattle.lisp_model.proofs.Examples.Steps.{answered, blocks, changes, counts_part, fails_load, refuses, spent, tells, ticks, told, aged, answered_elsewhere, both_sent, both_taken, doubted, ended, first_told, foreign, foreign_sent, forgot, held_at, is_down, kept_it, newer_taken, not_started, older_noticed, parts_sent_again, parts_taken, registered_again, restarted, second_counted, sent_after, sent_twice, short, spent_taken, told_again, told_and_gone, told_anew, two_sent, unsure, unsure_forgot, unsure_kept, vanished, waited, was_noticed, failed, registers, sends_part, parts_sent, strange, Event, Fate, Line, NoticeFault, NotifyFault, ReadFault, Refusal, Refused, RotateFault, SendFault, StartFault, StoreFault}
use Rattle.lisp_model.proofs.Examples.Steps.{hears, kinds_differ, registers_read, short_heard, short_message, strange_refused, changes_legal, counts_part_legal, doubts_send_legal, doubts_take_legal, ends_legal, fails_load_legal, notices_legal, refuses_record, repeats_legal, replays_legal, restarts_legal, restarts_to_legal, sends_legal, takes_legal, tells_legal, ticks_legal, foreign_whole, short_whole, wide_whole, legal, send_legal, doubted_end, doubted_new, doubted_old, fresh_value, other_value, set_value, IsOnePart, block_of_one, fits_under, saved, item_authentic, passes}
use Rattle.lisp_model.proofs.KeptLemmas.{empty_full, insert_full, only_value, set_full, set_here, set_others, stays}
use Rattle.std.proofs.lemmas.Bool.Decides.{Decides-eqb}
use Rattle.lisp_records.specs.Result.{◌>>=◌}
use Rattle.lisp_policy.specs.Site.{SiteValue, secret_of}
use Rattle.lisp_nonces.specs.declared.pair.Pair.{Pair}
use Rattle.lisp_etr.specs.Hearing.{ServerNotify, check, checked_notify}
use Rattle.lisp_admission.specs.Checks.{first_not_allowed, most_jump_at, secret_under}
use Rattle.lisp_admission.specs.Nonces.{IsBelow, IsNear}
use Rattle.lisp_model.specs.Counted.{notify_at}
use Rattle.lisp_model.specs.Context.{IsBase, Saves}
use Rattle.lisp_model.specs.Keys.{KnowsKey, MayRotate}
use Rattle.lisp_model.specs.Sending.{CountsFrom}
use Rattle.lisp_model.proofs.ListLemmas.{in_none}
use Rattle.lisp_records.specs.Database.{database_of, repeats as repeats_in}
use Rattle.lisp_records.specs.Address.{PrefixValue, masked}
use Rattle.lisp_records.specs.declared.address.Addr.TheVariants.{V6}
use Rattle.lisp_records.specs.declared.locator.Locator.{Locator}
use Rattle.lisp_etr.specs.Timers.{due_after as send_due_after}
use Rattle.lisp_model.specs.Timers.{due, due_part}

pub one_sent_legal : LegalTrace opening one_sent
one_sent_legal = (sends_legal [] 0 1 0 None refl refl refl refl (fresh_value (sent_by one)) refl (omega arith) wide_whole refl, tt)

pub one_taken_legal : LegalTrace opening one_taken
unfolding cut cut_from written
one_taken_legal = (takes_legal one_sent 0 0 1 1 _ _ None refl refl refl refl refl refl refl (fresh_value (got_from one)) tt refl, one_sent_legal)

pub acceptance : LegalTrace opening one_counted
unfolding numbers_below
acceptance = (counts_part_legal one_taken 1 0 0 1 _ _ refl refl refl refl (omega arith) refl, one_taken_legal)

-- the datagram arrives again
pub replay : LegalTrace opening (replays one_taken 0 0 1 ∷ one_taken)
unfolding cut cut_from written
replay = (replays_legal one_taken 0 0 1 1 _ _ refl refl refl refl refl refl refl refl (omega arith), one_taken_legal)

two_sent_legal : LegalTrace opening two_sent
two_sent_legal = (
  sends_legal (changes one_sent short ∷ one_sent) 0 2 1 (Some 1) refl refl refl refl refl refl (omega arith) short_whole refl,
  (
    changes_legal one_sent short short_whole.database refl,
    one_sent_legal,
  ),
)

pub older_after_newer : LegalTrace opening (replays newer_taken 0 0 2 ∷ newer_taken)
unfolding cut cut_from written
older_after_newer = (
  replays_legal newer_taken 0 0 1 2 _ _ refl refl refl refl refl refl refl refl (omega arith),
  (
    takes_legal two_sent 1 0 2 2 _ _ None refl refl refl refl refl refl refl (fresh_value (got_from one)) tt refl,
    two_sent_legal,
  ),
)

pub restarted_legal : LegalTrace opening restarted
restarted_legal = (restarts_legal one_taken 0 (inl refl) (set_full _ _ _ empty_full) refl, one_taken_legal)

pub restart_remembers : LegalTrace opening (replays restarted 0 0 1 ∷ restarted)
unfolding cut cut_from written
restart_remembers = (replays_legal restarted 0 0 1 1 _ _ refl refl refl refl refl refl refl (set_value _ _ _) (omega arith), restarted_legal)

restart_holds_nothing : held_row (since_start opening restarted 0) one wide 0 ≡ None
restart_holds_nothing = refl

doubted_legal : LegalTrace opening doubted
doubted_legal = (doubts_send_legal one_sent 0 (Some 1) refl refl refl refl wide_whole.there refl (omega arith) refl, one_sent_legal)

pub doubtful_send : LegalTrace opening (sends forgot 0 2 1 ∷ forgot)
doubtful_send = (
  sends_legal forgot 0 2 1 (Some 1) refl refl refl refl (set_value _ _ _) refl (omega arith) wide_whole refl,
  (
    restarts_to_legal doubted 2 (sent_by one) (Some 1) (inr refl) (doubted_old _ _ 2 (Some 1) (set_value _ _ _)) (insert_full _ _ _ (set_full _ _ _ empty_full) (Some 2, doubted_end _ 2)) refl,
    doubted_legal,
  ),
)

pub doubtful_send_kept : LegalTrace opening (sends kept_it 0 3 1 ∷ kept_it)
doubtful_send_kept = (
  sends_legal kept_it 0 3 1 (Some 2) refl refl refl refl (set_value _ _ _) refl (omega arith) wide_whole refl,
  (
    restarts_to_legal doubted 2 (sent_by one) (Some 2) (inr refl) (doubted_new _ _ 2) (insert_full _ _ _ (set_full _ _ _ empty_full) (Some 2, doubted_end _ 2)) refl,
    doubted_legal,
  ),
)

unsure_legal : LegalTrace opening unsure
unfolding cut cut_from written
unsure_legal = (doubts_take_legal one_sent 0 0 1 _ _ None refl refl refl refl refl refl refl (fresh_value (got_from one)) tt refl, one_sent_legal)

pub doubtful_take : LegalTrace opening (takes unsure_forgot 0 0 1 1 ∷ unsure_forgot)
unfolding cut cut_from written
doubtful_take = (
  takes_legal unsure_forgot 0 0 1 1 _ _ None refl refl refl refl refl refl refl (set_value _ _ _) tt refl,
  (
    restarts_to_legal unsure 0 (got_from one) None (inl refl) (doubted_old _ _ 1 None (fresh_value (got_from one))) (insert_full _ _ _ empty_full (Some 1, doubted_end _ 1)) refl,
    unsure_legal,
  ),
)

pub doubtful_take_kept : LegalTrace opening (replays unsure_kept 0 0 1 ∷ unsure_kept)
unfolding cut cut_from written
doubtful_take_kept = (
  replays_legal unsure_kept 0 0 1 1 _ _ refl refl refl refl refl refl refl (set_value _ _ _) (omega arith),
  (
    restarts_to_legal unsure 0 (got_from one) (Some 1) (inl refl) (doubted_new _ _ 1) (insert_full _ _ _ empty_full (Some 1, doubted_end _ 1)) refl,
    unsure_legal,
  ),
)

pub load_that_fails : LegalTrace opening (fails_load one_sent 0 0 ∷ one_sent)
unfolding cut cut_from written
load_that_fails = (fails_load_legal one_sent 0 0 1 _ _ refl refl refl refl refl refl refl refl, one_sent_legal)

pub life : LegalTrace opening (ticks (aged 179999) 1 180000 ∷ aged 179999)
life = (
  ticks_legal (aged 179999) 1 180000 refl (omega arith),
  (
    ticks_legal one_counted 179999 179999 refl (omega arith),
    acceptance,
  ),
)

alive_before : held_at (aged 179999) ≡ Some (record { router = one; key = 1; nonce = 1; mapping = mapping wide 1440; accepted = 0; life = 180000; proxy = true; from = local_at 21 })
unfolding cut cut_from written
alive_before = refl

dead_after : held_at (ticks (aged 179999) 1 180000 ∷ aged 179999) ≡ None
unfolding cut cut_from written
dead_after = refl

pub two_servers : LegalTrace opening both_taken
unfolding cut cut_from written
two_servers = (
  takes_legal (takes both_sent 0 0 1 2 ∷ both_sent) 1 1 2 3 _ _ None refl refl refl refl refl refl refl (fresh_value (got_from one)) tt refl,
  (
    takes_legal both_sent 0 0 1 2 _ _ None refl refl refl refl refl refl refl (fresh_value (got_from one)) tt refl,
    (
      sends_legal one_sent 1 2 1 (Some 1) refl refl refl refl refl refl (omega arith) wide_whole refl,
      one_sent_legal,
    ),
  ),
)

pub first_told_legal : LegalTrace opening first_told
unfolding cut cut_from written
first_told_legal = (tells_legal one_taken (2 ^ 63) 2 _ None refl refl refl (other_value _ (got_from one) notice_pair _ None (λ e. absurd (kinds_differ e)) (fresh_value notice_pair)) refl (omega arith) refl, one_taken_legal)

waited_legal : LegalTrace opening waited
waited_legal = (ticks_legal first_told 3000 3000 refl (omega arith), first_told_legal)

was_noticed_legal : LegalTrace opening was_noticed
unfolding due_after
was_noticed_legal = (
  notices_legal told_again 3 (2 ^ 63) 4 _ refl refl refl (omega arith) refl,
  (
    repeats_legal waited 3 refl refl,
    waited_legal,
  ),
)

pub notice_ends : LegalTrace opening ended
notice_ends = (ends_legal was_noticed 4 (2 ^ 63) _ _ refl refl refl refl refl refl, was_noticed_legal)

-- the answer arrives again
pub notice_ended : LegalTrace opening (refuses ended (Event.Deliver 4 Fate.Done) 0 (Refusal.Receive Refused.NoNotice) ∷ ended)
unfolding cut cut_from written
notice_ended = (record { faults = λ other. omega arith; obedient = refl; row = record { item = answered (2 ^ 63) (mapping wide 1440 ∷ []); sent = refl; there = refl; arrives = (record { kind = refl; acts = refl }, (refl, refl)) } }, notice_ends)

pub older_notice_ended : LegalTrace opening (refuses older_noticed (Event.Deliver 4 Fate.Done) 0 (Refusal.Receive Refused.NoNotice) ∷ older_noticed)
unfolding cut cut_from written
older_notice_ended = (
  record { faults = λ other. omega arith; obedient = refl; row = record { item = answered (2 ^ 63) (mapping wide 1440 ∷ []); sent = refl; there = refl; arrives = (record { kind = refl; acts = refl }, (refl, refl)) } },
  (
    notices_legal told_anew 2 (2 ^ 63) 4 _ refl refl refl (omega arith) refl,
    (tells_legal first_told (2 ^ 63 + 1) 3 _ (Some (2 ^ 63)) refl refl refl refl refl (omega arith) refl, first_told_legal),
  ),
)

pub stale : LegalTrace opening (refuses sent_twice (Event.Deliver 1 Fate.Done) 2 (Refusal.Notify (NotifyFault.Stale 2)) ∷ sent_twice)
unfolding cut cut_from written numbers_below
stale = (
  legal (omega arith) refl (record {
    item = told (local_at 11) (local_at 21) 1 (mapping wide 1440 ∷ []);
    sent = refl;
    there = refl;
    arrives = record { acts = record { kind = refl; acts = refl; state = refl }; same = refl; comes = inl (rw (hears (local_at 11) (local_at 21) 1 (mapping wide 1440 ∷ []) 0 refl sent_twice refl) refl) };
  }),
  (sends_legal one_taken 0 2 2 (Some 1) refl refl refl refl refl refl (omega arith) wide_whole refl, one_taken_legal),
)

-- the greatest of the latest nonces is told
pub stale_of_parts : Legal opening parts_sent_again (refuses parts_sent_again (Event.Deliver 1 Fate.Done) 2 (Refusal.Notify (NotifyFault.Stale 3)))
unfolding cut cut_from written numbers_below
stale_of_parts = legal (omega arith) refl (record {
  item = told (local_at 11) (local_at 21) 1 (mapping wide 1440 ∷ []);
  sent = refl;
  there = refl;
  arrives = record { acts = record { kind = refl; acts = refl; state = refl }; same = refl; comes = inl (rw (hears (local_at 11) (local_at 21) 1 (mapping wide 1440 ∷ []) 0 refl parts_sent_again refl) refl) };
})

-- each part counts by its own nonce, also one that the database doesn't have any more
pub second_part_counts : Legal opening parts_taken (counts_part parts_taken 3 0 1 2)
unfolding cut cut_from written numbers_below
second_part_counts = counts_part_legal parts_taken 3 0 1 2 (local_at 11) [] refl refl refl refl (omega arith) refl

pub first_part_counts : Legal opening second_counted (counts_part second_counted 2 0 0 1)
unfolding cut cut_from written numbers_below
first_part_counts = counts_part_legal second_counted 2 0 0 1 (local_at 11) (mapping wide 1440 ∷ []) refl refl refl refl (omega arith) refl

pub vanished_part_counts : Legal opening vanished (counts_part vanished 3 0 1 2)
unfolding cut cut_from written numbers_below
vanished_part_counts = counts_part_legal vanished 3 0 1 2 (local_at 11) [] refl refl refl refl (omega arith) refl

-- a router sends a part that its database doesn't have
pub no_part : LegalTrace opening (refuses [] (Event.Send 2 0 1 Fate.Done) 2 (Refusal.Send SendFault.NoPart) ∷ [])
unfolding cut cut_from written
no_part = (record { faults = λ other. omega arith; obedient = refl; row = (refl, refl, record { kind = refl; acts = refl; state = refl }, (refl, omega arith, refl)) }, tt)

-- a router sends to a server that it isn't told
pub no_server : LegalTrace opening (refuses [] (Event.Send 3 1 0 Fate.Done) 3 (Refusal.Send SendFault.NoServer) ∷ [])
no_server = (record { faults = λ other. omega arith; obedient = refl; row = (refl, refl, record { kind = refl; acts = refl; state = refl }, (refl, refl)) }, tt)

pub nothing_thrown : LegalTrace opening (refuses [] (Event.Junk 0 (local_at 21) []) 0 (Refusal.Receive (Refused.Read ReadFault.Short)) ∷ [])
nothing_thrown = (record { faults = λ other. omega arith; obedient = refl; row = record { acts = refl; arrives = (record { kind = refl; acts = refl }, (subst (λ (r : Result MessageValue ReadFault). FailsCheck (context_of opening [] (refuses [] (Event.Junk 0 (local_at 21) []) 0 (Refusal.Receive (Refused.Read ReadFault.Short)))) (junk_arrival (local_at 21) []) r (Refused.Read ReadFault.Short)) (sym short_message) refl, refl)) } }, tt)

pub nothing_thrown_at_router : LegalTrace opening (refuses [] (Event.Junk 2 (local_at 11) []) 2 (Refusal.Notify (NotifyFault.Read ReadFault.Short)) ∷ [])
nothing_thrown_at_router = (record { faults = λ other. omega arith; obedient = refl; row = record { acts = refl; arrives = record { acts = record { kind = refl; acts = refl; state = refl }; same = refl; comes = inl (rw short_heard refl) } } }, tt)

pub foreign_sent_legal : LegalTrace opening foreign_sent
foreign_sent_legal = (sends_legal (changes [] foreign ∷ []) 0 1 0 None refl refl refl refl (fresh_value (sent_by one)) refl (omega arith) foreign_whole refl, (changes_legal [] foreign foreign_whole.database refl, tt))

pub foreign_refused : LegalTrace opening (refuses foreign_sent (Event.Deliver 0 Fate.Done) 0 (Refusal.Receive (Refused.NotAllowed 1)) ∷ foreign_sent)
unfolding cut cut_from written
foreign_refused = (refuses_record foreign_sent 0 0 1 1 _ _ refl refl refl refl refl refl strange_refused, foreign_sent_legal)

told_and_gone_legal : LegalTrace opening told_and_gone
told_and_gone_legal = (restarts_legal first_told 0 (inl refl) (set_full _ _ _ (set_full _ _ _ empty_full)) refl, first_told_legal)

pub nothing_to_tell : LegalTrace opening (refuses told_and_gone (Event.Notice 0 2 Fate.Done) 0 (Refusal.Notice NoticeFault.NotRegistered) ∷ told_and_gone)
nothing_to_tell = (record { faults = λ other. omega arith; obedient = refl; row = (refl, record { kind = refl; acts = refl }, refl, (refl, refl)) }, told_and_gone_legal)

pub registered_again_legal : LegalTrace opening registered_again
unfolding cut cut_from written
registered_again_legal = (
  takes_legal sent_after 3 0 2 4 _ _ (Some 1) refl refl refl refl refl refl refl (other_value _ notice_pair (got_from one) _ (Some 1) (λ e. absurd (kinds_differ (sym e))) (set_value _ _ _)) (omega arith) refl,
  (sends_legal told_and_gone 0 2 3 (Some 1) refl refl refl refl refl refl (omega arith) wide_whole refl, told_and_gone_legal),
)

pub notices_go_on : LegalTrace opening (tells registered_again (2 ^ 63 + 1) 5 ∷ registered_again)
unfolding cut cut_from written
notices_go_on = (tells_legal registered_again (2 ^ 63 + 1) 5 _ (Some (2 ^ 63)) refl refl refl (other_value _ (got_from one) notice_pair _ (Some (2 ^ 63)) (λ e. absurd (kinds_differ e)) (set_value _ _ _)) refl (omega arith) refl, registered_again_legal)

pub not_started_legal : LegalTrace opening not_started
not_started_legal = (record { faults = λ other. omega arith; obedient = refl; row = record { names = refl; acts = refl; kind = refl; fits = tt; narrows = stays (at one_sent 2).kept (set_full _ _ _ empty_full); picks = λ obeys. absurd (true≢false (sym obeys)); cause = λ other. inl (omega arith) } }, one_sent_legal)

-- a store that was opened anew counts its faults anew
pub counted_anew : Legal opening not_started (step (Event.Restart 2 0 None) (Line.Restarted 2) 2 (at one_sent 2))
counted_anew = record { faults = λ same. absurd (true≢false same); obedient = refl; row = record { names = refl; acts = refl; kind = inr refl; fits = tt; narrows = stays (at one_sent 2).kept (set_full _ _ _ empty_full); picks = λ obeys. absurd (true≢false (sym obeys)) } }

pub down_and_up : LegalTrace opening (sends (restarts (is_down ∷ not_started) 2 ∷ is_down ∷ not_started) 0 2 1 ∷ restarts (is_down ∷ not_started) 2 ∷ is_down ∷ not_started)
down_and_up = (
  sends_legal (restarts (is_down ∷ not_started) 2 ∷ is_down ∷ not_started) 0 2 1 (Some 1) refl refl refl refl (set_value _ _ _) refl (omega arith) wide_whole refl,
  (
    restarts_legal (is_down ∷ not_started) 2 (inr refl) (set_full _ _ _ empty_full) refl,
    (record { faults = λ other. omega arith; obedient = refl; row = record { acts = record { kind = refl; acts = refl; state = refl }; names = refl; same = refl } }, not_started_legal),
  ),
)

-- a datagram that was overheard is thrown in from an address that no node has: it is accepted, and the reply gets nowhere
lost_item : bag opening answered_elsewhere ≡ register_item opening [] 2 0 0 1 ∷ told (local_at 11) (local_at 99) 1 (mapping wide 1440 ∷ []) ∷ []
unfolding cut cut_from written
lost_item = ap (λ (r : Result MessageValue ReadFault). register_item opening [] 2 0 0 1 ∷ map (reply_item network network.sites 0) (acceptances_in (Some (record { from = local_at 99; bytes = bytes_of (register_item opening [] 2 0 0 1); read = r })) 0)) (registers_read (register_item opening [] 2 0 0 1) 1440 1 refl (omega arith) (omega arith))

pub lost : Legal opening answered_elsewhere (step (Event.Deliver 1 Fate.Done) (Line.Nowhere 1) 4 (at [] 4))
lost = legal (omega arith) refl (record {
  item = told (local_at 11) (local_at 99) 1 (mapping wide 1440 ∷ []);
  sent = ap (λ (items : List Item). slice_get items 1) lost_item;
  nobody = refl;
  names = refl;
  idle = record { server = refl; router = refl; same = refl };
})

-- each Map-Server's reply counts, though a Map-Register went to the other one since
pub counted_of_each : Legal opening both_taken (counts both_taken 2 0 1)
unfolding numbers_below
counted_of_each = counts_part_legal both_taken 2 0 0 1 _ _ refl refl refl refl (omega arith) refl

-- the clock goes to its end; the last nonce of the routers counts; nonces are spent, and those of notices
pub to_the_end : Legal opening [] (ticks [] max_moment max_moment)
to_the_end = ticks_legal [] max_moment max_moment refl (omega arith)

abbrev last_taken : List Step
last_taken = step (Event.Deliver 0 Fate.Done) (Line.Accepted 0 one 1 last_nonce (Some 1)) 0 blank ∷ step (Event.Send 2 0 0 Fate.Done) (Line.Sent 2 0 0 1 last_nonce 0) 2 blank ∷ []

pub last_counts : Legal opening last_taken (counts last_taken 1 0 last_nonce)
unfolding numbers_below
last_counts = counts_part_legal last_taken 1 0 0 last_nonce _ _ refl refl refl refl (omega arith) refl

pub spent_told : Legal spent [] (step (Event.Send 2 0 0 Fate.Done) (Line.Refused 2 (Refusal.Send SendFault.NonceSpent)) 2 (keeps blank (sent_by one) (2 ^ 63 - 1)))
spent_told = record { faults = λ other. omega arith; obedient = refl; row = (refl, refl, record { kind = refl; acts = refl; state = refl }, ((refl, wide_whole.there), (Some (2 ^ 63 - 1), set_value _ _ _, omega arith), refl)) }

narrow_fits : fits_message (mapping narrow 1440 ∷ []) ≡ true
unfolding written
narrow_fits = refl

pub notices_spent_told : Legal spent spent_taken (step (Event.Notice 0 3 Fate.Done) (Line.Refused 0 (Refusal.Notice NoticeFault.NonceSpent)) 0 (keeps (keeps blank notice_pair (2 ^ 64 - 1)) (got_from two) 1))
unfolding cut cut_from written
notices_spent_told = legal (omega arith) refl (
  refl,
  record { kind = refl; acts = refl },
  refl,
  (record { some = λ e. let clash : ◌≡◌ {A = List MapRecordValue} (mapping narrow 1440 ∷ []) [] = e in absurd cc; fits = narrow_fits }, Some (2 ^ 64 - 1), other_value _ (got_from two) notice_pair _ (Some (2 ^ 64 - 1)) (λ e. absurd (kinds_differ e)) (set_value _ _ _), λ none obeys clash. absurd cc, omega arith, refl),
)

-- a router that saves ten nonces at once keeps the last of them
pub saved_its_block : Legal blocks [] (step (Event.Send 2 0 0 Fate.Done) (Line.Sent 2 0 0 1 1 0) 2 (keeps blank (sent_by one) 10))
unfolding cut cut_from written
saved_its_block = legal (omega arith) refl (
  refl,
  refl,
  refl,
  record {
    acts = record { kind = refl; acts = refl; state = refl };
    kind = refl;
    listed = refl;
    fits = wide_whole.database;
    there = wide_whole.there;
    under = refl;
    base = None;
    counts = fresh_value (sent_by one);
    next = refl;
    within = omega arith;
    message = record { nonce = omega arith; key = omega arith; records = wide_whole.records; xtr = refl; xtr_bytes = search rules; site = omega arith };
    place = refl;
    saves = record {
      here = inr (set_here empty (sent_by one) (Some 10 ∷ []), λ obeys clash. absurd cc);
      none_below = λ v has. subst (λ (w : Option ℕ). 1 ≤ number w) (sym (only_value (Some 10) v (subst (λ (vs : List (Option ℕ)). Contains vs v) (set_here empty (sent_by one) (Some 10 ∷ [])) has))) (omega arith);
      others = set_others empty (sent_by one) (Some 10 ∷ []);
    };
  },
)

-- ---- The story.

server_restarted_legal : LegalTrace opening server_restarted
server_restarted_legal = (restarts_legal one_counted 0 (inl refl) (set_full _ _ _ empty_full) refl, acceptance)

replay_legal : LegalTrace opening replay_refused
unfolding cut cut_from written
replay_legal = (replays_legal server_restarted 0 0 1 1 _ _ refl refl refl refl refl refl refl (set_value _ _ _) (omega arith), server_restarted_legal)

pub six_steps_legal : LegalTrace opening six_steps
six_steps_legal = (sends_legal replay_refused 0 2 2 (Some 1) refl refl refl refl refl refl (omega arith) wide_whole refl, replay_legal)

-- ---- A router of a site with three keys goes over to the second, and back to the first; its store is lost, and it starts
-- under the third.

-- the text `new`; the secret of the third key is the text `third`
abbrev pub new_secret : List ℕ
new_secret = 0x6e ∷ 0x65 ∷ 0x77 ∷ []

abbrev pub three_keys : SiteValue
three_keys = record site { keys = record { id = 1; secret = secret } ∷ record { id = 2; secret = new_secret } ∷ record { id = 3; secret = 0x74 ∷ 0x68 ∷ 0x69 ∷ 0x72 ∷ 0x64 ∷ [] } ∷ [] }

abbrev pub rotating : Opening
rotating = record opening { config = record network { sites = three_keys ∷ [] } }

abbrev pub shows : List Step → ℕ → ShownStore
shows T node = shown_store rotating T node

-- the same under another key
abbrev pub under : ℕ → Pair → Pair
under key pair = record pair { key = key }

pub keys_differ : (pair : Pair) (key other : ℕ) → key ≢ other → under key pair ≢ under other pair
keys_differ pair key other differ e = differ (ap (λ (p : Pair). p.key) e)

-- the first router sends to the first Map-Server, which accepts it
abbrev pub sends_under : List Step → ℕ → ℕ → ℕ → Step
sends_under T key nonce datagram = step (Event.Send 2 0 0 Fate.Done) (Line.Sent 2 0 0 key nonce datagram) 2 (keeps (shows T 2) (under key (sent_by one)) nonce)

abbrev pub takes_under : List Step → ℕ → ℕ → ℕ → ℕ → Step
takes_under T k key nonce datagram = step (Event.Deliver k Fate.Done) (Line.Accepted 0 one key nonce (Some datagram)) 0 (keeps (shows T 0) (under key (got_from one)) nonce)

-- the router goes over to a key; it doesn't
abbrev pub rotates : List Step → ℕ → Step
rotates T key = step (Event.Rotate 2 key Fate.Done) (Line.Rotated 2 key) 2 (shows T 2)

abbrev pub keeps_its_key : List Step → ℕ → RotateFault → Step
keeps_its_key T key fault = step (Event.Rotate 2 key Fate.Done) (Line.Refused 2 (Refusal.Rotate fault)) 2 (shows T 2)

-- its store is lost, and it starts under a key; it doesn't
abbrev pub loses : List Step → ℕ → Step
loses T key = step (Event.Lose 2 key None) (Line.Emptied 2 key) 2 (record (shows T 2) { kept = empty })

abbrev pub loses_and_fails : List Step → ℕ → Step
loses_and_fails T key = step (Event.Lose 2 key None) (Line.Refused 2 (Refusal.Start (StartFault.Store StoreFault.Device))) 2 (failed (record (shows T 2) { kept = empty }))

-- a Map-Register under the first key; another one under the second, which is accepted and counted, as is that under the
-- first; but its reply doesn't count
abbrev pub started : List Step
started = sends_under [] 1 1 0 ∷ []

abbrev pub renewed : List Step
renewed = rotates started 2 ∷ started

abbrev pub sent_anew : List Step
sent_anew = sends_under renewed 2 1 1 ∷ renewed

abbrev pub taken_anew : List Step
taken_anew = takes_under sent_anew 1 2 1 2 ∷ sent_anew

abbrev pub taken_late : List Step
taken_late = takes_under taken_anew 0 1 1 3 ∷ taken_anew

abbrev pub replied_late : List Step
replied_late = step (Event.Deliver 3 Fate.Done) (Line.Refused 2 (Refusal.Notify NotifyFault.WrongKey)) 2 (shows taken_late 2) ∷ taken_late

abbrev pub counted_under : List Step
counted_under = step (Event.Deliver 2 Fate.Done) (Line.Counted 2 0 0 2 1) 2 (shows replied_late 2) ∷ replied_late

-- back to the first key, where it goes on; it has that key; its store is lost, and it starts under the third
abbrev pub back : List Step
back = rotates counted_under 1 ∷ counted_under

abbrev pub sent_back : List Step
sent_back = sends_under back 1 2 4 ∷ back

abbrev pub kept_key : List Step
kept_key = keeps_its_key sent_back 1 RotateFault.SameKey ∷ sent_back

abbrev pub emptied : List Step
emptied = loses kept_key 3 ∷ kept_key

-- it doesn't start under the third
abbrev pub not_emptied : List Step
not_emptied = loses_and_fails started 3 ∷ started

-- a Map-Register goes out under the router's key
sends_under_legal : (T : List Step) (key nonce datagram : ℕ) (base : Option ℕ) → key_of rotating T 2 ≡ key → is_up T 2 ≡ true → CountsFrom rotating T 2 base → nonce ≡ number base + 1 → key < 256 → nonce < 2 ^ 63 → IsOnePart (database rotating T 2) → datagram ≡ length (bag rotating T)
    → Legal rotating T (sends_under T key nonce datagram)
sends_under_legal T key nonce datagram base is up counted next small low whole place = send_legal (omega arith) refl refl up refl refl whole.database whole.there (sym is) base counted next (omega (arith, low)) place
    (record { nonce = omega (arith, low); key = subst (λ (k : ℕ). k < 256) (sym is) small; records = subst AreRecords (sym whole.alone) whole.records; xtr = refl; xtr_bytes = search rules; site = omega arith })
    (subst (λ (k : ℕ). Saves (context_of rotating T (sends_under T key nonce datagram)) (under k (sent_by one)) nonce (block_end nonce 1)) (sym is)
    (subst (Saves (context_of rotating T (sends_under T key nonce datagram)) (under key (sent_by one)) nonce) (sym (block_of_one nonce (omega (arith, low)))) (saved _ (under key (sent_by one)) nonce (λ obeys clash. absurd cc) refl)))

-- it is accepted
takes_under_legal : (T before : List Step) (k key nonce datagram : ℕ) (base : Option ℕ) → sites rotating T 0 ≡ rotating.config.sites → slice_get (bag rotating T) k ≡ Some (register_item rotating before 2 0 0 nonce) → key_of rotating before 2 ≡ key → secret_of three_keys key ≡ Some (etr_config rotating before 2).secret
    → first_not_allowed three_keys (part_at (database rotating before 2) 0) ≡ None → IsBase (last_of (under key (got_from one)) (since_start rotating T 0)) (kept_at (shows T 0).kept (under key (got_from one))) base → IsBelow base nonce → datagram ≡ length (bag rotating T)
    → Legal rotating T (takes_under T k key nonce datagram)
takes_under_legal T before k key nonce datagram base has sent is known allowed counted below place = legal (omega arith) refl (record {
  item = register_item rotating before 2 0 0 nonce;
  sent = sent;
  there = refl;
  arrives = record {
    acts = record { kind = refl; acts = refl };
    message = _;
    admits = record { read = refl; secret = (etr_config rotating before 2).secret; checks = ap (λ (sites : List SiteValue). secret_under sites (register_item rotating before 2 0 0 nonce).from (bytes_of (register_item rotating before 2 0 0 nonce)) (map_register_of (etr_config rotating before 2) (part_at (database rotating before 2) 0) nonce)) has ∙ passes rotating.config.sites (register_item rotating before 2 0 0 nonce).from (bytes_of (register_item rotating before 2 0 0 nonce)) (map_register_of (etr_config rotating before 2) (part_at (database rotating before 2) 0) nonce) three_keys (etr_config rotating before 2).secret refl (ap (secret_of three_keys) is ∙ known) (item_authentic (register_item rotating before 2 0 0 nonce)) refl refl allowed };
    who = refl;
    under = sym is;
    number = refl;
    fresh = subst (λ (k : ℕ). IsFresh (context_of rotating T (takes_under T k key nonce datagram)) (map_register_of (etr_config_under rotating.config (router_at rotating.config 2) k) (part_at (database rotating before 2) 0) nonce)) (sym is) (record { base = base; counts = counted; above = below; near = subst (λ (sites : List SiteValue). IsNear (most_jump_at sites 1) base nonce) (sym has) tt; loads = λ none obeys clash. absurd cc });
    space = fits_under rotating T 0 rotating.config.sites _ _ has (record { routers = tt; rows = tt });
    may = λ obeys clash. absurd cc;
    kept = subst (λ (k : ℕ). kept_at (keeps (shows T 0) (under key (got_from one)) nonce).kept (under k (got_from one)) ≡ Some nonce ∷ []) (sym is) (set_here (shows T 0).kept (under key (got_from one)) (Some nonce ∷ []));
    others = subst (λ (k : ℕ). SameElsewhere (shows T 0).kept (keeps (shows T 0) (under key (got_from one)) nonce).kept (under k (got_from one))) (sym is) (set_others (shows T 0).kept (under key (got_from one)) (Some nonce ∷ []));
    reply = ap Some place;
  };
})

-- the keys of the site
keys_known : KnowsKey rotating.config 2 1 × KnowsKey rotating.config 2 2 × KnowsKey rotating.config 2 3
keys_known = (λ e. absurd cc, λ e. absurd cc, λ e. absurd cc)

-- the router goes over to a key
rotates_legal : (T : List Step) (key : ℕ) → is_up T 2 ≡ true → MayRotate rotating T 2 key → key ≢ key_of rotating T 2 → Legal rotating T (rotates T key)
rotates_legal T key up may other = record { faults = λ other. omega arith; obedient = refl; row = record { acts = record { kind = refl; acts = refl; state = up }; names = refl; to = refl; may = may; other = other; loads = λ obeys clash. absurd cc; same = refl } }

pub other_number : (n other : ℕ) → (n == other) ≡ false → n ≢ other
other_number n other differ same = true≢false (sym ((Decides-eqb n other).1 same) ∙ differ)

-- what it kept under a key stays when it saves under another
pub fresh_under : (key other nonce : ℕ) → key ≢ other → Contains (kept_at (keeps blank (under other (sent_by one)) nonce).kept (under key (sent_by one))) None
fresh_under key other nonce differ = other_value empty (under other (sent_by one)) (under key (sent_by one)) (Some nonce ∷ []) None (keys_differ (sent_by one) key other differ) (fresh_value (under key (sent_by one)))

pub started_legal : LegalTrace rotating started
started_legal = (sends_under_legal [] 1 1 0 None refl refl (fresh_value (sent_by one)) refl (omega arith) (omega arith) wide_whole refl, tt)

pub renewed_legal : LegalTrace rotating renewed
renewed_legal = (rotates_legal started 2 refl (record { known = keys_known.1; unused = in_none 2 }) (other_number 2 1 refl), started_legal)

pub sent_anew_legal : LegalTrace rotating sent_anew
sent_anew_legal = (sends_under_legal renewed 2 1 1 None refl refl (fresh_under 2 1 1 (other_number 2 1 refl)) refl (omega arith) (omega arith) wide_whole refl, renewed_legal)

-- both Map-Registers are accepted, each under its key
pub taken_late_legal : LegalTrace rotating taken_late
unfolding cut cut_from written
taken_late_legal = (
  takes_under_legal taken_anew [] 0 1 1 3 None refl refl refl refl refl (other_value empty (under 2 (got_from one)) (got_from one) (Some 1 ∷ []) None (keys_differ (got_from one) 1 2 (other_number 1 2 refl)) (fresh_value (got_from one))) tt refl,
  (takes_under_legal sent_anew renewed 1 2 1 2 None refl refl refl refl refl (fresh_value (under 2 (got_from one))) tt refl, sent_anew_legal),
)

-- the reply under the first key doesn't count; that under the second does
abbrev reply_under : ℕ → List ℕ → Item
reply_under key secret = record { from = local_at 11; to = local_at 21; secret = secret; message = Notifies (record { ack = false; nonce = 1; key_id = key; records = mapping wide 1440 ∷ [] }) }

heard_wrong : notify_at rotating taken_late 2 (arrival_of (reply_under 1 secret)) ≡ Err NotifyFault.WrongKey
unfolding checked_notify
heard_wrong = refl

abbrev heard_under : MapNotifyValue → ServerNotify
heard_under m = record { server = 0; message = m }

passed : (m : MapNotifyValue) (b : Bool) → b ≡ true → check b NotifyFault.BadAuth >>= (λ _. Ok (heard_under m)) ≡ Ok (heard_under m)
passed m b tag = rw tag refl

heard_anew : notify_at rotating replied_late 2 (arrival_of (reply_under 2 new_secret)) ≡ Ok (heard_under (record { ack = false; nonce = 1; key_id = 2; records = mapping wide 1440 ∷ [] }))
unfolding checked_notify
heard_anew = passed _ _ (item_authentic (reply_under 2 new_secret))

pub counted_under_legal : LegalTrace rotating counted_under
unfolding cut cut_from written numbers_below
counted_under_legal = (
  record { faults = λ other. omega arith; obedient = refl; row = record { item = reply_under 2 new_secret; sent = refl; there = refl; arrives = record { acts = record { kind = refl; acts = refl; state = refl }; same = refl; comes = inl (rw heard_anew refl) } } },
  (
    record { faults = λ other. omega arith; obedient = refl; row = record { item = reply_under 1 secret; sent = refl; there = refl; arrives = record { acts = record { kind = refl; acts = refl; state = refl }; same = refl; comes = inl (rw heard_wrong refl) } } },
    taken_late_legal,
  ),
)

-- back under the first key, the router goes on after the nonce that it sent under it
pub sent_back_legal : LegalTrace rotating sent_back
sent_back_legal = (
  sends_under_legal back 1 2 4 (Some 1) refl refl (other_value (keeps blank (sent_by one) 1).kept (under 2 (sent_by one)) (sent_by one) (Some 1 ∷ []) (Some 1) (keys_differ (sent_by one) 1 2 (other_number 1 2 refl)) (set_value empty (sent_by one) (Some 1))) refl (omega arith) (omega arith) wide_whole refl,
  (rotates_legal counted_under 1 refl (record { known = keys_known.0; unused = in_none 1 }) (other_number 1 2 refl), counted_under_legal),
)

pub kept_key_legal : LegalTrace rotating kept_key
kept_key_legal = (record { faults = λ other. omega arith; obedient = refl; row = (refl, record { kind = refl; acts = refl; state = refl }, record { known = keys_known.0; unused = in_none 1 }, (refl, refl)) }, sent_back_legal)

-- it used the first two keys alone
pub not_third : Contains {X = ℕ} (1 ∷ 2 ∷ 1 ∷ []) 3 → ⊥
not_third (zero, lt, is) = let clash : ◌≡◌ {A = ℕ} 1 3 = is in absurd (omega (arith, clash))
not_third (suc zero, lt, is) = let clash : ◌≡◌ {A = ℕ} 2 3 = is in absurd (omega (arith, clash))
not_third (suc (suc zero), lt, is) = let clash : ◌≡◌ {A = ℕ} 1 3 = is in absurd (omega (arith, clash))
not_third (suc (suc (suc k)), lt, is) = absurd (omega (arith, lt))

pub sent_at_last_legal : LegalTrace rotating (sends_under emptied 3 1 5 ∷ emptied)
sent_at_last_legal = (
  sends_under_legal emptied 3 1 5 None refl refl (fresh_value (under 3 (sent_by one))) refl (omega arith) (omega arith) wide_whole refl,
  (
    record { faults = λ other. omega arith; obedient = refl; row = record { lost = record { acts = refl; kind = refl; may = record { known = keys_known.2; unused = not_third }; fits = tt; some = empty_full }; names = refl; to = refl } },
    kept_key_legal,
  ),
)

-- the start under the third key fails: the router is down, under that key; it says so, and starts again under it
not_started_under : (key : ℕ) → 1 ≢ key → Contains {X = ℕ} (1 ∷ []) key → ⊥
not_started_under key differ (zero, lt, is) = differ is
not_started_under key differ (suc k, lt, is) = absurd (omega (arith, lt))

not_emptied_legal : LegalTrace rotating not_emptied
not_emptied_legal = (record { faults = λ other. omega arith; obedient = refl; row = record { lost = record { acts = refl; kind = refl; may = record { known = keys_known.2; unused = not_started_under 3 (other_number 1 3 refl) }; fits = tt; some = empty_full }; names = refl; cause = λ other. inl (omega arith) } }, started_legal)

pub down_at_a_rotation : LegalTrace rotating (step (Event.Rotate 2 3 Fate.Done) (Line.Down 2) 2 (shows not_emptied 2) ∷ not_emptied)
down_at_a_rotation = (record { faults = λ other. omega arith; obedient = refl; row = (record { known = keys_known.2; unused = not_started_under 3 (other_number 1 3 refl) }, record { acts = record { kind = refl; acts = refl; state = refl }; names = refl; same = refl }) }, not_emptied_legal)

abbrev pub started_at_last : List Step
started_at_last = step (Event.Restart 2 0 None) (Line.Restarted 2) 2 (shows not_emptied 2) ∷ not_emptied

pub sent_after_both : LegalTrace rotating (sends_under started_at_last 3 1 1 ∷ started_at_last)
sent_after_both = (
  sends_under_legal started_at_last 3 1 1 None refl refl (fresh_value (under 3 (sent_by one))) refl (omega arith) (omega arith) wide_whole refl,
  (record { faults = λ other. omega arith; obedient = refl; row = record { names = refl; acts = refl; kind = inr refl; fits = tt; narrows = stays empty empty_full; picks = λ obeys. absurd (true≢false (sym obeys)) } }, not_emptied_legal),
)

-- what its store keeps under the second key can't be loaded
abbrev pub not_loaded : Step
not_loaded = step (Event.Rotate 2 2 Fate.LoadFails) (Line.Refused 2 (Refusal.Rotate (RotateFault.Store StoreFault.Device))) 2 (failed (shows started 2))

pub not_loaded_legal : LegalTrace rotating (not_loaded ∷ started)
not_loaded_legal = (record { faults = λ other. omega arith; obedient = refl; row = (refl, record { kind = refl; acts = refl; state = refl }, record { known = keys_known.1; unused = in_none 2 }, (other_number 2 1 refl, record { same = refl; cause = λ other. inl (omega arith); may = λ other obeys. refl })) }, started_legal)

-- ---- A database of two parts: each is sent in a message of its own, and has its own turn.

-- the small network, whose first router has another database
abbrev pub of_database : List MapRecordValue → Opening
of_database db = record opening { config = record network { routers = record (router_at network 2) { database = db } ∷ [] } }

module _ (db first second : List MapRecordValue) (cuts : cut db ≡ first ∷ second ∷ []) where
  -- the second part is sent, with its records alone; there is no third one
  pub second_sent : database_of db ≡ Ok db → AreRecords second → Legal (of_database db) [] (sends_part [] 1 1 0)
  second_sent known records = send_legal (omega arith) refl refl refl refl refl known (subst (λ (parts : List (List MapRecordValue)). 1 < length parts) (sym cuts) (omega arith)) refl None (fresh_value (sent_by one)) refl (omega arith) refl
      (record { nonce = omega arith; key = omega arith; records = subst (λ (parts : List (List MapRecordValue)). AreRecords (slice_index_or parts 1 [])) (sym cuts) records; xtr = refl; xtr_bytes = search rules; site = omega arith })
      (subst (Saves (context_of (of_database db) [] (sends_part [] 1 1 0)) (sent_by one) 1) (sym (block_of_one 1 (omega arith))) (saved _ (sent_by one) 1 (λ obeys clash. absurd cc) refl))

  pub second_message : (register_item (of_database db) [] 2 0 1 1).message ≡ Registers (registers second 1)
  second_message = ap (λ (parts : List (List MapRecordValue)). Registers (registers (slice_index_or parts 1 []) 1)) cuts

  pub no_third : Legal (of_database db) [] (refuses [] (Event.Send 2 0 2 Fate.Done) 2 (Refusal.Send SendFault.NoPart))
  no_third = record { faults = λ other. omega arith; obedient = refl; row = (refl, refl, record { kind = refl; acts = refl; state = refl }, (refl, subst (λ (parts : List (List MapRecordValue)). length parts ≤ 2) (sym cuts) (omega arith), refl)) }

  -- once the first part was sent, the second one is due; and then none
  pub second_due : due_part (of_database db) one_sent 2 0 ≡ Some 1
  unfolding numbers_below send_due_after
  second_due = ap (λ (parts : List (List MapRecordValue)). position (λ part. nat_le (due one_sent 2 0 part) 0) (take (length parts) part_numbers)) cuts

  pub none_due : due_part (of_database db) parts_sent 2 0 ≡ None
  unfolding numbers_below send_due_after
  none_due = ap (λ (parts : List (List MapRecordValue)). position (λ part. nat_le (due parts_sent 2 0 part) 0) (take (length parts) part_numbers)) cuts

-- ---- A database that is cut in two by the bytes of its records.

abbrev locator : Locator
locator = record { priority = 1; weight = 100; m_priority = 255; m_weight = 0; local = true; probe = false; reachable = true; addr = V6 (xtr_of 1) }

-- 6,136 bytes: 16, and 255 locators of 24 each
abbrev pub large : PrefixValue → MapRecordValue
large eid = record (mapping eid 1440) { locators = replicate 255 locator }

abbrev pub three : List MapRecordValue
three = large wide ∷ large narrow ∷ large strange ∷ []

-- two of them fit one message, three don't
pub cut_in_two : cut three ≡ (large wide ∷ large narrow ∷ []) ∷ (large strange ∷ []) ∷ []
unfolding cut cut_from written
cut_in_two = refl

pub three_known : database_of three ≡ Ok three
unfolding cut cut_from written repeats_in
three_known = refl

is_locator : IsLocator locator
is_locator = record { priority = omega arith; weight = omega arith; m_priority = omega arith; m_weight = omega arith; addr = record { width = refl; bytes = (omega arith, (omega arith, (omega arith, (omega arith, (omega arith, (omega arith, (omega arith, (omega arith, (omega arith, (omega arith, (omega arith, (omega arith, (omega arith, (omega arith, (omega arith, (omega arith, tt)))))))))))))))) } }

all_alike : (n : ℕ) → AllByRecursion IsLocator (replicate n locator)
all_alike zero = tt
all_alike (suc n) = (is_locator, all_alike n)

last_record : AreRecords (large strange ∷ [])
unfolding masked
last_record = (omega arith, (record { ttl = omega arith; act = omega arith; version = omega arith; block = (omega arith, refl); eid = record { width = refl; bytes = (omega arith, (omega arith, (omega arith, (omega arith, tt)))) }; count = omega arith; locators = all_alike 255 }, tt))

-- so the third record is sent as the second part
pub third_record_sent : Legal (of_database three) [] (sends_part [] 1 1 0)
third_record_sent = second_sent three (large wide ∷ large narrow ∷ []) (large strange ∷ []) cut_in_two three_known last_record
