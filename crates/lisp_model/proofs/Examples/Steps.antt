-- The small network: what the checks make of an item, which is authentic under its secret; its steps and traces; and that they are legal.
use Rattle.std.proofs.Common.{◌≡◌, ℕ, true, false, List, Some, None, Ok, Err, refl, ◌∙◌, true≢false, ◌≤◌, [], ◌∷◌, Option, sym, ap, subst, inl, inr, arith, length, ◌+◌, ◌-◌, ◌^◌, Bool, rules}
use Rattle.std.proofs.lemmas.Bool.{and_from, le-leb, leb-true, false_from_ne_true}
use Rattle.std.proofs.lemmas.Slice.Eq.{bytes_eq-Decides}
use Rattle.lisp_messages.specs.Message.{MessageValue, MapRegisterValue, Registers, Notifies, AreRecords, IsMapRegister, IsMessage}
use Rattle.lisp_messages.specs.Authentic.{IsAuthentic, is_authentic, signed}
use Rattle.lisp_messages.specs.Written.{written as message_written}
use Rattle.lisp_messages.proofs.AuthenticLaws.{signed_is_authentic, signed_register_is_authentic}
use Rattle.lisp_records.specs.declared.address.Addr.{Addr}
use Rattle.lisp_policy.specs.Limits.{no_limits}
use Rattle.lisp_policy.specs.Site.{SiteValue, site_of, secret_of}
use Rattle.lisp_admission.specs.Checks.{secret_under, first_not_allowed, most_jump_at, most_routers_at, most_rows_at}
use Rattle.lisp_admission.proofs.Unlimited.{unlimited}
use Rattle.lisp_model.specs.Bag.{Item, bytes_of, register_item, since_start, arrival_of, junk_arrival, bag}
use Rattle.std.specs.Prelude.{◌≢◌, ◌<◌, ◌++◌, ok_or, nat_le, slice_get, ◌⊎◌}
use Rattle.std.proofs.lemmas.List.Elements.{Contains-append_left, Contains-append_right}
use Rattle.std.specs.FinMap.{insert, empty}
use Rattle.std.specs.List.{Contains}
use Rattle.lisp_nonces.specs.declared.pair.Pair.{Pair}
use Rattle.lisp_nonces.specs.Kept.{Kept, kept_at, number}
use Rattle.lisp_model.specs.Context.{Context, values, values_after, MaySave, Saves, SaveFails, IsBase}
use Rattle.lisp_nonces.proofs.Kept.{kept_at-empty}
use Rattle.lisp_model.proofs.KeptLemmas.{set_here, set_others, only_value, IsFull, narrows, stays}
use Rattle.lisp_records.specs.Address.{PrefixValue, masked}
use Rattle.lisp_records.specs.Record.{MapRecordValue}
use Rattle.lisp_records.specs.Row.{RowValue}
use Rattle.lisp_records.specs.declared.address.Addr.TheVariants.{V4}
use Rattle.lisp_records.specs.declared.router.RouterId.{RouterId}
use Rattle.lisp_etr.specs.Hearing.{ServerNotify, check, checked_notify, first_notice}
use Rattle.lisp_etr.specs.Sending.{map_register_of, block_end, last_nonce}
use Rattle.lisp_admission.specs.Pairs.{notice_pair}
use Rattle.lisp_model.specs.Counted.{Acknowledged, notify_at, server_from, latest_nonces}
use Rattle.lisp_model.specs.Held.{Acceptance, held_row, heard_last, last_of, records_of}
use Rattle.lisp_model.specs.Story.{at, blank, got_from, keeps, local_at, network, one, opening, secret, sent_by, site, step, mapping, narrow, one_counted, one_sent, one_taken, restarts, sends, takes, two, wide, counts, replays}
use Rattle.lisp_model.specs.Timers.{Notice, due, is_due, last_notice, notice_to}
use Rattle.lisp_model.specs.Trace.{EventValue, Opening, ShownStore, Step, router_at, etr_config_of, clock, etr_config_under, key, database, sites, key as key_of, is_listed, is_router, is_server, is_up, node_at, shown_store, etr_config}
use Rattle.lisp_model.specs.History.{SentRegister}
use Rattle.lisp_hmac.proofs.TagLemmas.{length-tag}
use Rattle.lisp_records.specs.Result.{◌>>=◌}
use Rattle.lisp_records.specs.Database.{database_of, repeats as repeats_in}
use Rattle.lisp_records.specs.Parts.{cut, cut_from, part_at, part_count, fits_message}
use Rattle.lisp_records.specs.Written.{written}
use Rattle.lisp_records.specs.Moment.{max_moment}
use Rattle.lisp_messages.proofs.WrittenLaws.{reads_back}
use Rattle.lisp_messages.specs.Reading.{kind_at, message_at}
use Rattle.lisp_etr.specs.declared.notify_fault.NotifyFault.TheVariants.{BadAuth, NotMine}
use Rattle.lisp_etr.specs.Rounds.{part_with}
use Rattle.lisp_model.specs.Legal.{Legal, context_of, MayCome}
use Rattle.lisp_model.specs.Receiving.{FailsCheck, awaiting}
use Rattle.lisp_model.specs.Sending.{CountsFrom, pair_at}
use Rattle.lisp_lookup.specs.Growth.{Fits, LiveRows}
use Rattle.lisp_admission.specs.Nonces.{IsBelow, IsNear, nonce_after}
pub use Rattle.lisp_model.specs.declared.event.Event.{Event}
pub use Rattle.lisp_nonces.specs.declared.fate.Fate.{Fate}
pub use Rattle.lisp_model.specs.declared.line.Line.{Line}
pub use Rattle.lisp_admission.specs.declared.notice_fault.NoticeFault.{NoticeFault}
pub use Rattle.lisp_etr.specs.declared.notify_fault.NotifyFault.{NotifyFault}
pub use Rattle.lisp_nonces.specs.declared.pair.PairKind.{PairKind}
pub use Rattle.lisp_messages.specs.declared.fault.ReadFault.{ReadFault}
pub use Rattle.lisp_model.specs.declared.refusal.Refusal.{Refusal}
pub use Rattle.lisp_admission.specs.declared.refused.Refused.{Refused}
pub use Rattle.lisp_etr.specs.declared.rotate_fault.RotateFault.{RotateFault}
pub use Rattle.lisp_etr.specs.declared.send_fault.SendFault.{SendFault}
pub use Rattle.lisp_etr.specs.declared.start_fault.StartFault.{StartFault}
pub use Rattle.lisp_nonces.specs.declared.fault.StoreFault.{StoreFault}

pub authentic_test : (bytes own : List ℕ) → IsAuthentic bytes own → is_authentic bytes own ≡ true
authentic_test bytes own is = and_from _ _ (le-leb _ _ is.0) ((bytes_eq-Decides _ _).1 is.1)

signed_said : (own : List ℕ) (x : MessageValue) → IsAuthentic (signed own (message_written x)) own
signed_said own (Registers m) = signed_register_is_authentic own m
signed_said own (Notifies m) = signed_is_authentic own m

-- an item is authentic under its secret
pub item_authentic : (i : Item) → is_authentic (bytes_of i) i.secret ≡ true
unfolding bytes_of
item_authentic i = authentic_test _ _ (signed_said i.secret i.message)

-- of a site without limits: a Map-Register that passes all checks, and one with a record that isn't allowed
pub passes : (sites : List SiteValue) (from : Addr) (bytes : List ℕ) (m : MapRegisterValue) (site : SiteValue) (own : List ℕ) → site_of sites m.site ≡ Some site → secret_of site m.key_id ≡ Some own
    → is_authentic bytes own ≡ true → site.limits ≡ no_limits → m.merge ≡ false → first_not_allowed site m.records ≡ None → secret_under sites from bytes m ≡ Ok own
unfolding secret_under
passes sites from bytes m site own known key authentic none merge allowed = rw (known, key, authentic) (unlimited from m site own none ∙ rw (merge, allowed) refl)

pub is_not_allowed : (sites : List SiteValue) (from : Addr) (bytes : List ℕ) (m : MapRegisterValue) (site : SiteValue) (own : List ℕ) (place : ℕ) → site_of sites m.site ≡ Some site → secret_of site m.key_id ≡ Some own
    → is_authentic bytes own ≡ true → site.limits ≡ no_limits → m.merge ≡ false → first_not_allowed site m.records ≡ Some place → secret_under sites from bytes m ≡ Err (Refused.NotAllowed place)
unfolding secret_under
is_not_allowed sites from bytes m site own place known key authentic none merge allowed = rw (known, key, authentic) (unlimited from m site own none ∙ rw (merge, allowed) refl)

pub bad_tag : (sites : List SiteValue) (from : Addr) (bytes : List ℕ) (m : MapRegisterValue) (site : SiteValue) (own : List ℕ) → site_of sites m.site ≡ Some site → secret_of site m.key_id ≡ Some own
    → is_authentic bytes own ≡ false → secret_under sites from bytes m ≡ Err Refused.BadAuth
unfolding secret_under
bad_tag sites from bytes m site own known key authentic = rw (known, key, authentic) refl

-- ---- Turns whose store was set at one pair.

-- 'nothing' is the only value before
pub fresh_value : (pair : Pair) → Contains (kept_at empty pair) None
fresh_value pair = subst (λ (vs : List (Option ℕ)). Contains vs None) (sym (kept_at-empty pair)) (0, omega arith, refl)

-- a value that was set alone is there
pub set_value : (kept : Kept) (pair : Pair) (v : Option ℕ) → Contains (kept_at (insert kept pair (v ∷ [])) pair) v
set_value kept pair v = subst (λ (vs : List (Option ℕ)). Contains vs v) (sym (set_here kept pair (v ∷ []))) (0, omega arith, refl)

-- a number was saved
pub saved : (t : Context) (pair : Pair) (nonce : ℕ) → MaySave t → t.after.kept ≡ insert t.before.kept pair (Some nonce ∷ []) → Saves t pair nonce nonce
saved t pair nonce may is = record {
  here = inr (here, may);
  none_below = λ v has. subst (λ (w : Option ℕ). nonce ≤ number w) (sym (only_value (Some nonce) v (subst (λ (vs : List (Option ℕ)). Contains vs v) here has))) (omega arith);
  others = λ q differ. ap (λ (k : Kept). kept_at k q) is ∙ set_others t.before.kept pair (Some nonce ∷ []) q differ;
}
  where
    here : values_after t pair ≡ Some nonce ∷ []
    here = ap (λ (k : Kept). kept_at k pair) is ∙ set_here t.before.kept pair (Some nonce ∷ [])

-- a save is in doubt, in a store that isn't obedient
pub in_doubt : (t : Context) (pair : Pair) (nonce : ℕ) → t.before.is_obedient ≡ false → t.after.kept ≡ insert t.before.kept pair (kept_at t.before.kept pair ++ Some nonce ∷ []) → t.before.faults < t.after.faults → SaveFails t pair nonce StoreFault.Device
in_doubt t pair nonce unbound is rose = record {
  here = inr (ap (λ (k : Kept). kept_at k pair) is ∙ set_here t.before.kept pair (kept_at t.before.kept pair ++ Some nonce ∷ []));
  others = λ q differ. ap (λ (k : Kept). kept_at k q) is ∙ set_others t.before.kept pair (kept_at t.before.kept pair ++ Some nonce ∷ []) q differ;
  memory = λ clash. absurd cc;
  sound = λ clash. absurd cc;
  cause = λ other. inl rose;
  may = λ other obeys. absurd (true≢false (sym obeys ∙ unbound));
  doubted = λ other obeys. absurd (true≢false (sym obeys ∙ unbound));
}

-- what a list in doubt has
pub doubted_end : (values : List (Option ℕ)) (n : ℕ) → Contains (values ++ Some n ∷ []) (Some n)
doubted_end values n = Contains-append_right values (Some n ∷ []) (Some n) (0, omega arith, refl)

pub doubted_new : (kept : Kept) (pair : Pair) (n : ℕ) → Contains (kept_at (insert kept pair (kept_at kept pair ++ Some n ∷ [])) pair) (Some n)
doubted_new kept pair n = subst (λ (vs : List (Option ℕ)). Contains vs (Some n)) (sym (set_here kept pair (kept_at kept pair ++ Some n ∷ []))) (doubted_end (kept_at kept pair) n)

pub doubted_old : (kept : Kept) (pair : Pair) (n : ℕ) (v : Option ℕ) → Contains (kept_at kept pair) v → Contains (kept_at (insert kept pair (kept_at kept pair ++ Some n ∷ [])) pair) v
doubted_old kept pair n v has = subst (λ (vs : List (Option ℕ)). Contains vs v) (sym (set_here kept pair (kept_at kept pair ++ Some n ∷ []))) (Contains-append_left (kept_at kept pair) (Some n ∷ []) v has)

-- a pair that was not set still keeps nothing
pub other_value : (kept : Kept) (pair q : Pair) (values : List (Option ℕ)) (v : Option ℕ) → q ≢ pair → Contains (kept_at kept q) v → Contains (kept_at (insert kept pair values) q) v
other_value kept pair q values v differ has = subst (λ (vs : List (Option ℕ)). Contains vs v) (sym (set_others kept pair values q differ)) has

-- ---- Steps, messages and stores of the small network of the story, beside those that the story has.

-- 10.2.0.0/16, which the site doesn't have
abbrev pub strange : PrefixValue
strange = record { addr = V4 (10 ∷ 2 ∷ 0 ∷ 0 ∷ []); mask_len = 16 }

-- the Map-Register of the first router
abbrev pub registers : List MapRecordValue → ℕ → MapRegisterValue
registers db nonce = map_register_of (etr_config_of network (router_at network 2)) db nonce

-- the first router's database changes; time passes; a node restarts
abbrev pub changes : List Step → List MapRecordValue → Step
changes T db = step (Event.Change 2 db) (Line.Changed 2 (length db)) 2 (at T 2)

abbrev pub ticks : List Step → ℕ → ℕ → Step
ticks T ms now = step (Event.Tick ms) (Line.Ticked ms now) 4 (at T 4)

-- the first router sends a part to the first Map-Server; a reply to a part arrives. Its database has one part: what it
-- sends of others is no legal step
abbrev pub sends_part : List Step → ℕ → ℕ → ℕ → Step
sends_part T part nonce datagram = step (Event.Send 2 0 part Fate.Done) (Line.Sent 2 0 part 1 nonce datagram) 2 (keeps (at T 2) (sent_by one) nonce)

abbrev pub counts_part : List Step → ℕ → ℕ → ℕ → ℕ → Step
counts_part T k server part nonce = step (Event.Deliver k Fate.Done) (Line.Counted 2 server part 1 nonce) 2 (at T 2)

-- a save is in doubt: the store keeps one more value
abbrev pub doubts : ShownStore → Pair → ℕ → ShownStore
doubts s pair nonce = record s { kept = insert s.kept pair (kept_at s.kept pair ++ Some nonce ∷ []); faults = s.faults + 1 }

-- a load failed
abbrev pub failed : ShownStore → ShownStore
failed s = record s { faults = s.faults + 1 }

abbrev pub doubts_send : List Step → ℕ → ℕ → Step
doubts_send T server nonce = step (Event.Send 2 server 0 Fate.Doubt) (Line.Refused 2 (Refusal.Send (SendFault.Store StoreFault.Device))) 2 (doubts (at T 2) (sent_by one) nonce)

abbrev pub doubts_take : List Step → ℕ → ℕ → ℕ → Step
doubts_take T k server nonce = step (Event.Deliver k Fate.Doubt) (Line.Refused server (Refusal.Receive (Refused.StoreSave StoreFault.Device))) server (doubts (at T server) (got_from one) nonce)

abbrev pub fails_load : List Step → ℕ → ℕ → Step
fails_load T k server = step (Event.Deliver k Fate.LoadFails) (Line.Refused server (Refusal.Receive (Refused.StoreLoad StoreFault.Device))) server (failed (at T server))

-- a node restarts, and of the values of a pair one is left
abbrev pub restarts_to : List Step → ℕ → Pair → Option ℕ → Step
restarts_to T node pair v = step (Event.Restart node 0 None) (Line.Restarted node) node (record (at T node) { kept = insert (at T node).kept pair (v ∷ []) })

-- the first server tells the first router what it holds; again; the router answers; the answer arrives
abbrev pub tells : List Step → ℕ → ℕ → Step
tells T nonce datagram = step (Event.Notice 0 2 Fate.Done) (Line.Notice 0 2 1 nonce datagram) 0 (keeps (at T 0) notice_pair nonce)

abbrev pub repeats : List Step → ℕ → Step
repeats T datagram = step (Event.Resend 0 2) (Line.Resent 0 2 datagram) 0 (at T 0)

abbrev pub notices : List Step → ℕ → ℕ → ℕ → Step
notices T k nonce datagram = step (Event.Deliver k Fate.Done) (Line.Noticed 2 0 nonce datagram) 2 (at T 2)

abbrev pub ends : List Step → ℕ → ℕ → Step
ends T k nonce = step (Event.Deliver k Fate.Done) (Line.Done 0 one nonce) 0 (at T 0)

-- refusals that leave all as it is
abbrev pub refuses : List Step → EventValue → ℕ → Refusal → Step
refuses T event node why = step event (Line.Refused node why) node (at T node)

-- a Map-Notify under the network's key
abbrev pub told : Addr → Addr → ℕ → List MapRecordValue → Item
told from to nonce records = record { from = from; to = to; secret = secret; message = Notifies (record { ack = false; nonce = nonce; key_id = 1; records = records }) }

abbrev pub heard_of : ℕ → ℕ → List MapRecordValue → ServerNotify
heard_of server nonce records = record { server = server; message = record { ack = false; nonce = nonce; key_id = 1; records = records } }

-- the Map-Notify-Ack of the first router
abbrev pub answered : ℕ → List MapRecordValue → Item
answered nonce records = record { from = local_at 21; to = local_at 11; secret = secret; message = Notifies (record { ack = true; nonce = nonce; key_id = 1; records = records }) }

-- a row of the first router
abbrev pub row_of : MapRecordValue → ℕ → ℕ → RowValue
row_of m nonce accepted = record { router = one; key = 1; nonce = nonce; mapping = m; accepted = accepted; life = 180000; proxy = true; from = local_at 21 }

-- a notice of the first site's key that stands
abbrev pub told_to : RouterId → ℕ → ℕ → List ℕ → Notice
told_to router nonce datagram moments = record { router = router; key = 1; nonce = nonce; datagram = datagram; moments = moments }

-- a Map-Register of the first router that was accepted at the moment 0
abbrev pub arrived : List MapRecordValue → ℕ → Acceptance
arrived records nonce = record { message = registers records nonce; from = local_at 21; moment = 0 }

-- stores of which two keep the last nonce that there is
abbrev pub spent : Opening
spent = record { config = network; stores = keeps blank notice_pair (2 ^ 64 - 1) ∷ blank ∷ keeps blank (sent_by one) (2 ^ 63 - 1) ∷ blank ∷ [] }

-- and of which they keep the one before
abbrev pub one_left : Opening
one_left = record { config = network; stores = keeps blank notice_pair (2 ^ 64 - 2) ∷ blank ∷ keeps blank (sent_by one) (2 ^ 63 - 2) ∷ blank ∷ [] }

-- a Map-Register of the first router that was acknowledged
abbrev pub acknowledged : ℕ → ℕ → ℕ → Acknowledged
acknowledged part key nonce = record { part = part; key = key; nonce = nonce }

-- a router that saves ten nonces at once, and asks that its records live as long as they say
abbrev pub blocks : Opening
blocks = record opening { config = record network { routers = record (router_at network 2) { nonce_block = 10; use_ttl = true } ∷ [] } }

-- a site with a second key, which no router of the network has
abbrev pub two_keys : Opening
two_keys = record opening { config = record network { sites = record site { keys = record { id = 2; secret = 1 ∷ [] } ∷ site.keys } ∷ [] } }

-- ---- Traces of the small network.

-- an older datagram arrives after a newer one
abbrev pub short : List MapRecordValue
short = mapping wide 60 ∷ []

abbrev pub two_sent : List Step
two_sent = sends (changes one_sent short ∷ one_sent) 0 2 1 ∷ changes one_sent short ∷ one_sent

abbrev pub newer_taken : List Step
newer_taken = takes two_sent 1 0 2 2 ∷ two_sent

-- the server restarts: it holds nothing, and remembers the nonce
abbrev pub restarted : List Step
restarted = restarts one_taken 0 ∷ one_taken

-- a router's save is in doubt: after a restart it goes on after what is left
abbrev pub doubted : List Step
doubted = doubts_send one_sent 0 2 ∷ one_sent

abbrev pub forgot : List Step
forgot = restarts_to doubted 2 (sent_by one) (Some 1) ∷ doubted

abbrev pub kept_it : List Step
kept_it = restarts_to doubted 2 (sent_by one) (Some 2) ∷ doubted

-- a server's save is in doubt
abbrev pub unsure : List Step
unsure = doubts_take one_sent 0 0 1 ∷ one_sent

abbrev pub unsure_forgot : List Step
unsure_forgot = restarts_to unsure 0 (got_from one) None ∷ unsure

abbrev pub unsure_kept : List Step
unsure_kept = restarts_to unsure 0 (got_from one) (Some 1) ∷ unsure

-- a record lives for three minutes
abbrev pub aged : ℕ → List Step
aged ms = ticks one_counted ms ms ∷ one_counted

abbrev pub held_at : List Step → Option RowValue
held_at T = held_row (since_start opening T 0) one wide (clock T)

-- two servers accept different Map-Registers of one database
abbrev pub both_sent : List Step
both_sent = sends one_sent 1 2 1 ∷ one_sent

abbrev pub both_taken : List Step
both_taken = takes (takes both_sent 0 0 1 2 ∷ both_sent) 1 1 2 3 ∷ takes both_sent 0 0 1 2 ∷ both_sent

-- a record of another site is refused, whatever stands beside it
abbrev pub foreign : List MapRecordValue
foreign = mapping wide 1440 ∷ mapping strange 1440 ∷ []

-- the server tells the router what it holds, and tells it again; the router answers, and that ends it
abbrev pub first_told : List Step
first_told = tells one_taken (2 ^ 63) 2 ∷ one_taken

abbrev pub waited : List Step
waited = ticks first_told 3000 3000 ∷ first_told

abbrev pub told_again : List Step
told_again = repeats waited 3 ∷ waited

abbrev pub was_noticed : List Step
was_noticed = notices told_again 3 (2 ^ 63) 4 ∷ told_again

abbrev pub ended : List Step
ended = ends was_noticed 4 (2 ^ 63) ∷ was_noticed

-- a newer notice to the router takes the place of the older one, whose acknowledgement then ends nothing
abbrev pub told_anew : List Step
told_anew = tells first_told (2 ^ 63 + 1) 3 ∷ first_told

abbrev pub older_noticed : List Step
older_noticed = notices told_anew 2 (2 ^ 63) 4 ∷ told_anew

-- a Map-Notify for an older Map-Register
abbrev pub sent_twice : List Step
sent_twice = sends one_taken 0 2 2 ∷ one_taken

-- two parts are sent, and both are accepted
abbrev pub parts_sent : List Step
parts_sent = sends_part one_sent 1 2 1 ∷ one_sent

abbrev pub parts_taken : List Step
parts_taken = takes (takes parts_sent 0 0 1 2 ∷ parts_sent) 1 0 2 3 ∷ takes parts_sent 0 0 1 2 ∷ parts_sent

abbrev pub second_counted : List Step
second_counted = counts_part parts_taken 3 0 1 2 ∷ parts_taken

-- each part is sent once more
abbrev pub parts_sent_again : List Step
parts_sent_again = sends_part sent_twice 1 3 3 ∷ sent_twice

-- the second part is counted after a change to a database that doesn't have it
abbrev pub vanished : List Step
vanished = changes (ticks parts_taken 5 5 ∷ parts_taken) short ∷ ticks parts_taken 5 5 ∷ parts_taken

abbrev pub vanished_counted : List Step
vanished_counted = counts_part vanished 3 0 1 2 ∷ vanished

-- a record of another site is refused
abbrev pub foreign_sent : List Step
foreign_sent = sends (changes [] foreign ∷ []) 0 1 0 ∷ changes [] foreign ∷ []

-- after a restart the server has nothing to tell; then it goes on with the next nonce
abbrev pub told_and_gone : List Step
told_and_gone = restarts first_told 0 ∷ first_told

abbrev pub sent_after : List Step
sent_after = sends told_and_gone 0 2 3 ∷ told_and_gone

abbrev pub registered_again : List Step
registered_again = takes sent_after 3 0 2 4 ∷ sent_after

-- the second router registers a longer prefix, and asks for no proxy replies
abbrev pub both_heard : List Step
both_heard = step (Event.Deliver 2 Fate.Done) (Line.Accepted 0 two 1 1 (Some 3)) 0 (keeps (at one_taken 0) (got_from two) 1) ∷ step (Event.Send 3 0 0 Fate.Done) (Line.Sent 3 0 0 1 1 2) 3 (keeps (at one_taken 3) (sent_by two) 1) ∷ one_taken

abbrev pub row_of_one : RowValue
row_of_one = record { router = one; key = 1; nonce = 1; mapping = mapping wide 1440; accepted = 0; life = 180000; proxy = true; from = local_at 21 }

abbrev pub row_of_two : RowValue
row_of_two = record { router = two; key = 1; nonce = 1; mapping = mapping narrow 1440; accepted = 0; life = 180000; proxy = false; from = local_at 22 }

-- a router doesn't start: it is down, and says so, until it does
abbrev pub not_started : List Step
not_started = step (Event.Restart 2 0 None) (Line.Refused 2 (Refusal.Start (StartFault.Store StoreFault.Device))) 2 (failed (at one_sent 2)) ∷ one_sent

abbrev pub is_down : Step
is_down = step (Event.Change 2 []) (Line.Down 2) 2 (at not_started 2)

-- a datagram is overheard and thrown in from an address that no node has; the reply goes there
abbrev pub answered_elsewhere : List Step
answered_elsewhere = step (Event.Junk 0 (local_at 99) (bytes_of (register_item opening [] 2 0 0 1))) (Line.Accepted 0 one 1 1 (Some 1)) 0 (keeps (at one_sent 0) (got_from one) 1) ∷ one_sent

-- what the first router sent first
abbrev pub first_entry : SentRegister
first_entry = record { router = 2; key = 1; nonce = 1; server = 0; database = mapping wide 1440 ∷ []; part = 0; position = 0 }

-- the first router starts again with another database
abbrev pub restarted_changed : Step
restarted_changed = step (Event.Restart 2 0 (Some short)) (Line.Restarted 2) 2 (at one_sent 2)

-- its start with another database is refused
abbrev pub refused_changed : Step
refused_changed = step (Event.Restart 2 0 (Some short)) (Line.Refused 2 (Refusal.Start (StartFault.Store StoreFault.Device))) 2 (failed (at one_sent 2))

-- the second router registers where the nonces of notices are spent, and where one is left
abbrev pub taken_from_two : ℕ → List Step
taken_from_two kept = step (Event.Deliver 0 Fate.Done) (Line.Accepted 0 two 1 1 (Some 1)) 0 (keeps (keeps blank notice_pair kept) (got_from two) 1) ∷ step (Event.Send 3 0 0 Fate.Done) (Line.Sent 3 0 0 1 1 0) 3 (keeps blank (sent_by two) 1) ∷ []

abbrev pub spent_taken : List Step
spent_taken = taken_from_two (2 ^ 64 - 1)

abbrev pub one_left_taken : List Step
one_left_taken = taken_from_two (2 ^ 64 - 2)

-- ---- What arrives in the small network: its messages fit, are read back, and pass the checks.

-- messages of a few records fit
pub fits : (db : List MapRecordValue) (nonce : ℕ) → nonce < 2 ^ 64 → AreRecords db → IsMapRegister (registers db nonce)
fits db nonce low records = record { nonce = low; key = omega arith; records = records; xtr = refl; xtr_bytes = search rules; site = omega arith }

pub wide_record : (ttl : ℕ) → ttl < 2 ^ 32 → AreRecords (mapping wide ttl ∷ [])
unfolding masked
wide_record ttl low = (omega arith, (record { ttl = low; act = omega arith; version = omega arith; block = (omega arith, refl); eid = record { width = refl; bytes = (omega arith, (omega arith, (omega arith, (omega arith, tt)))) }; count = omega arith; locators = tt }, tt))

-- a Map-Register of the first router passes the checks
pub admitted : (i : Item) (db : List MapRecordValue) (nonce : ℕ) → i.secret ≡ secret → first_not_allowed site db ≡ None → secret_under network.sites i.from (bytes_of i) (registers db nonce) ≡ Ok secret
admitted i db nonce its allowed = passes network.sites i.from (bytes_of i) (registers db nonce) site secret refl refl (subst (λ (s : List ℕ). is_authentic (bytes_of i) s ≡ true) its (item_authentic i)) refl refl allowed

passed : (s : Option ℕ) (server nonce : ℕ) (records : List MapRecordValue) (b : Bool) → s ≡ Some server → b ≡ true
    → ok_or s NotMine >>= (λ n. check b BadAuth >>= λ _. Ok (heard_of n nonce records)) ≡ Ok (heard_of server nonce records)
passed s server nonce records b from tag = rw (from, tag) refl

-- from a server it passes the checks of the first router
pub hears : (from to : Addr) (nonce : ℕ) (records : List MapRecordValue) (server : ℕ) → server_from network 2 from ≡ Some server → (T : List Step) → key opening T 2 ≡ 1 → notify_at opening T 2 (arrival_of (told from to nonce records)) ≡ Ok (heard_of server nonce records)
unfolding checked_notify
hears from to nonce records server is T under =
    ap (λ (k : ℕ). checked_notify (etr_config_under network (router_at network 2) k) (bytes_of (told from to nonce records)) (arrival_of (told from to nonce records)).read (server_from network 2 from)) under
    ∙ passed _ server nonce records _ is (item_authentic (told from to nonce records))

-- what was sent is read back
pub item_reads : (i : Item) → IsMessage i.message → message_at (bytes_of i) ≡ Ok i.message
unfolding bytes_of
item_reads i said = reads_back i.message _ said (length-tag i.secret _ 16)

pub registers_read : (i : Item) (ttl nonce : ℕ) → i.message ≡ Registers (registers (mapping wide ttl ∷ []) nonce) → ttl < 2 ^ 32 → nonce < 2 ^ 64 → message_at (bytes_of i) ≡ Ok i.message
registers_read i ttl nonce says low small = item_reads i (subst IsMessage (sym says) (fits (mapping wide ttl ∷ []) nonce small (wide_record ttl low)))

pub told_reads : (from to : Addr) (nonce ttl : ℕ) → nonce < 2 ^ 64 → ttl < 2 ^ 32 → message_at (bytes_of (told from to nonce (mapping wide ttl ∷ []))) ≡ Ok (told from to nonce (mapping wide ttl ∷ [])).message
told_reads from to nonce ttl small low = item_reads (told from to nonce (mapping wide ttl ∷ [])) (record { nonce = small; key = omega arith; records = wide_record ttl low })

-- no bytes are no message
pub short_message : message_at [] ≡ Err ReadFault.Short
unfolding message_at kind_at
short_message = refl

-- a record of another site
pub strange_refused : first_not_allowed site foreign ≡ Some 1
unfolding masked
strange_refused = refl

-- notices have a pair of their own
pub kinds_differ : {router : RouterId} → notice_pair ≡ got_from router → ⊥
kinds_differ e = let kinds : PairKind.Notice ≡ PairKind.Received = ap (λ (p : Pair). p.kind) e in cc

-- cases are they at a router
pub short_heard : notify_at opening [] 2 (junk_arrival (local_at 11) []) ≡ Err (NotifyFault.Read ReadFault.Short)
unfolding checked_notify
short_heard = rw short_message refl

-- ---- Databases of the small network, each of which is one part.

-- records that are a database of one part, and fit the format
pub record IsOnePart (db : List MapRecordValue) : Type 0 where
  pub database : database_of db ≡ Ok db
  pub there : 0 < part_count db
  pub alone : part_at db 0 ≡ db
  pub records : AreRecords db

-- those of the first router, at first and after a change
pub wide_whole : IsOnePart (mapping wide 1440 ∷ [])
unfolding cut cut_from written repeats_in
wide_whole = record { database = refl; there = omega arith; alone = refl; records = wide_record 1440 (omega arith) }

pub short_whole : IsOnePart short
unfolding cut cut_from written repeats_in
short_whole = record { database = refl; there = omega arith; alone = refl; records = wide_record 60 (omega arith) }

-- with a record of another site
foreign_records : AreRecords foreign
unfolding masked
foreign_records = (
  omega arith,
  (
    record { ttl = omega arith; act = omega arith; version = omega arith; block = (omega arith, refl); eid = record { width = refl; bytes = (omega arith, (omega arith, (omega arith, (omega arith, tt)))) }; count = omega arith; locators = tt },
    (record { ttl = omega arith; act = omega arith; version = omega arith; block = (omega arith, refl); eid = record { width = refl; bytes = (omega arith, (omega arith, (omega arith, (omega arith, tt)))) }; count = omega arith; locators = tt }, tt),
  ),
)

pub foreign_whole : IsOnePart foreign
unfolding cut cut_from written repeats_in masked
foreign_whole = record { database = refl; there = omega arith; alone = refl; records = foreign_records }

-- ---- Legal steps of the small network.

-- a step that counts no fewer faults
pub legal : {o : Opening} {T : List Step} {s : Step} → (shown_store o T s.actor).faults ≤ s.shown.faults → s.shown.is_obedient ≡ (shown_store o T s.actor).is_obedient → MayCome (context_of o T s) s.event s.line → Legal o T s
legal faults obedient row = record { faults = λ other. faults; obedient = obedient; row = row }

-- the first router sends a part of its database
pub send_legal : {o : Opening} {T : List Step} {server part key nonce datagram : ℕ} {fate : Fate} {shown : ShownStore} → (shown_store o T 2).faults ≤ shown.faults → shown.is_obedient ≡ (shown_store o T 2).is_obedient
    → is_router o.config 2 ≡ true → is_up T 2 ≡ true → is_server o.config server ≡ true → is_listed o.config 2 server ≡ true → database_of (database o T 2) ≡ Ok (database o T 2) → part < part_count (database o T 2) → key ≡ key_of o T 2
    → (base : Option ℕ) → CountsFrom o T 2 base → nonce ≡ number base + 1 → nonce ≤ last_nonce → datagram ≡ length (bag o T) → IsMapRegister (map_register_of (etr_config o T 2) (part_at (database o T 2) part) nonce)
    → Saves (context_of o T (step (Event.Send 2 server part fate) (Line.Sent 2 server part key nonce datagram) 2 shown)) (pair_at o T 2) nonce (block_end nonce (etr_config o T 2).nonce_block)
    → Legal o T (step (Event.Send 2 server part fate) (Line.Sent 2 server part key nonce datagram) 2 shown)
send_legal faults obedient router up kind listed fits there under base counts next within place message saves = legal faults obedient (
  refl,
  refl,
  refl,
  record {
    acts = record { kind = router; acts = refl; state = up };
    kind = kind;
    listed = listed;
    fits = fits;
    there = there;
    under = under;
    base = base;
    counts = counts;
    next = next;
    within = within;
    message = message;
    place = place;
    saves = saves;
  },
)

-- a router that saves each nonce by itself
pub block_of_one : (nonce : ℕ) → nonce ≤ last_nonce → block_end nonce 1 ≡ nonce
block_of_one nonce low = omega (arith, low)

pub sends_legal : (T : List Step) (server nonce datagram : ℕ) (base : Option ℕ) → key_of opening T 2 ≡ 1 → is_up T 2 ≡ true → is_server network server ≡ true → is_listed network 2 server ≡ true → CountsFrom opening T 2 base → nonce ≡ number base + 1 → nonce < 2 ^ 63
    → IsOnePart (database opening T 2) → datagram ≡ length (bag opening T) → Legal opening T (sends T server nonce datagram)
sends_legal T server nonce datagram base key up kind listed counted next low whole place = send_legal (omega arith) refl refl up kind listed whole.database whole.there (sym key) base counted next (omega (arith, low)) place
    (subst (λ (k : ℕ). IsMapRegister (map_register_of (etr_config_under network (router_at network 2) k) (part_at (database opening T 2) 0) nonce)) (sym key) (subst (λ (db : List MapRecordValue). IsMapRegister (registers db nonce)) (sym whole.alone) (fits (database opening T 2) nonce (omega (arith, low)) whole.records)))
    (subst (λ (k : ℕ). Saves (context_of opening T (sends T server nonce datagram)) (record (sent_by one) { key = k }) nonce (block_end nonce 1)) (sym key) (subst (Saves (context_of opening T (sends T server nonce datagram)) (sent_by one) nonce) (sym (block_of_one nonce (omega (arith, low)))) (saved _ (sent_by one) nonce (λ obeys clash. absurd cc) refl)))

-- what fits under the sites that a server has
pub fits_under : (o : Opening) (T : List Step) (server : ℕ) (known : List SiteValue) (before after : LiveRows) → sites o T server ≡ known → Fits (most_routers_at known 1) (most_rows_at known 1) 1 before after
    → Fits (most_routers_at (sites o T server) 1) (most_rows_at (sites o T server) 1) 1 before after
fits_under o T server known before after has fits = subst (λ (its : List SiteValue). Fits (most_routers_at its 1) (most_rows_at its 1) 1 before after) (sym has) fits

pub takes_legal : (T : List Step) (k server nonce datagram : ℕ) (i : Item) (db : List MapRecordValue) (base : Option ℕ) → slice_get (bag opening T) k ≡ Some i → node_at network i.to ≡ Some server → is_server network server ≡ true → sites opening T server ≡ network.sites
    → i.message ≡ Registers (registers db nonce) → i.secret ≡ secret → first_not_allowed site db ≡ None
    → IsBase (last_of (got_from one) (since_start opening T server)) (kept_at (at T server).kept (got_from one)) base → IsBelow base nonce → datagram ≡ length (bag opening T) → Legal opening T (takes T k server nonce datagram)
takes_legal T k server nonce datagram i db base sent there kind has says key allowed counts below place = legal (omega arith) refl (record {
  item = i;
  sent = sent;
  there = there;
  arrives = record {
    acts = record { kind = kind; acts = refl };
    message = registers db nonce;
    admits = record { read = ap Ok says; secret = secret; checks = ap (λ (sites : List SiteValue). secret_under sites i.from (bytes_of i) (registers db nonce)) has ∙ admitted i db nonce key allowed };
    who = refl;
    under = refl;
    number = refl;
    fresh = record { base = base; counts = counts; above = below; near = subst (λ (sites : List SiteValue). IsNear (most_jump_at sites 1) base nonce) (sym has) tt; loads = λ none obeys clash. absurd cc };
    space = fits_under opening T server network.sites _ _ has (record { routers = tt; rows = tt });
    may = λ obeys clash. absurd cc;
    kept = set_here (at T server).kept (got_from one) (Some nonce ∷ []);
    others = set_others (at T server).kept (got_from one) (Some nonce ∷ []);
    reply = ap Some place;
  };
})

pub replays_legal : (T : List Step) (k server nonce saved : ℕ) (i : Item) (db : List MapRecordValue) → slice_get (bag opening T) k ≡ Some i → node_at network i.to ≡ Some server → is_server network server ≡ true → sites opening T server ≡ network.sites
    → i.message ≡ Registers (registers db nonce) → i.secret ≡ secret → first_not_allowed site db ≡ None
    → IsBase (last_of (got_from one) (since_start opening T server)) (kept_at (at T server).kept (got_from one)) (Some saved) → nonce ≤ saved → Legal opening T (replays T k server saved)
replays_legal T k server nonce saved i db sent there kind has says key allowed counts stale = legal (omega arith) refl (record {
  item = i;
  sent = sent;
  there = there;
  arrives = (
    record { kind = kind; acts = refl },
    record {
      message = registers db nonce;
      admits = record { read = ap Ok says; secret = secret; checks = ap (λ (sites : List SiteValue). secret_under sites i.from (bytes_of i) (registers db nonce)) has ∙ admitted i db nonce key allowed };
      counts = counts;
      loads = λ none obeys clash. absurd cc;
      stale = stale;
      same = refl;
    },
  );
})

-- a number below another isn't above it
pub not_above : (m n : ℕ) → n < m → nat_le m n ≡ false
not_above m n low = false_from_ne_true (nat_le m n) (λ is. let above = leb-true m n is in absurd (omega (arith, low, above)))

pub counts_part_legal : (T : List Step) (k server part nonce : ℕ) (from : Addr) (records : List MapRecordValue) → key_of opening T 2 ≡ 1 → is_up T 2 ≡ true → slice_get (bag opening T) k ≡ Some (told from (local_at 21) nonce records)
    → server_from network 2 from ≡ Some server → nonce < first_notice → part_with nonce (latest_nonces T 2 server) ≡ Some part → Legal opening T (counts_part T k server part nonce)
counts_part_legal T k server part nonce from records key up sent is low last = legal (omega arith) refl (record {
  item = told from (local_at 21) nonce records;
  sent = sent;
  there = refl;
  arrives = record { acts = record { kind = refl; acts = refl; state = up }; same = refl; comes = inl (rw (hears from (local_at 21) nonce records server is T key, not_above first_notice nonce low, last) (ap (λ (k : ℕ). Line.Counted 2 server part k nonce) (sym key))) };
})

pub changes_legal : (T : List Step) (db : List MapRecordValue) → database_of db ≡ Ok db → is_up T 2 ≡ true → Legal opening T (changes T db)
changes_legal T db fits up = record { faults = λ other. omega arith; obedient = refl; row = record { acts = record { kind = refl; acts = refl; state = up }; names = refl; fits = fits; count = refl; same = refl } }

pub ticks_legal : (T : List Step) (ms now : ℕ) → now ≡ clock T + ms → now ≤ max_moment → Legal opening T (ticks T ms now)
ticks_legal T ms now is low = record { faults = λ other. omega arith; obedient = refl; row = record { names = refl; clock = is; bound = low; idle = record { server = refl; router = refl; same = refl } } }

pub doubts_send_legal : (T : List Step) (server : ℕ) (base : Option ℕ) → key_of opening T 2 ≡ 1 → is_up T 2 ≡ true → is_server network server ≡ true → is_listed network 2 server ≡ true → 0 < part_count (database opening T 2) → CountsFrom opening T 2 base → number base < last_nonce → (at T 2).is_obedient ≡ false
    → Legal opening T (doubts_send T server (number base + 1))
doubts_send_legal T server base key up kind listed there counted left unbound = record {
  faults = λ other. omega arith;
  obedient = refl;
  row = (refl, kind, record { kind = refl; acts = refl; state = up }, ((listed, there), record { base = base; counts = counted; left = left; fails = subst (λ (k : ℕ). SaveFails (context_of opening T (doubts_send T server (number base + 1))) (record (sent_by one) { key = k }) (block_end (number base + 1) 1) StoreFault.Device) (sym key) (subst (λ (n : ℕ). SaveFails (context_of opening T (doubts_send T server (number base + 1))) (sent_by one) n StoreFault.Device) (sym (block_of_one (number base + 1) (omega (arith, left)))) (in_doubt (context_of opening T (doubts_send T server (number base + 1))) (sent_by one) (number base + 1) unbound refl (omega arith))) }));
}

pub doubts_take_legal : (T : List Step) (k server nonce : ℕ) (i : Item) (db : List MapRecordValue) (base : Option ℕ) → slice_get (bag opening T) k ≡ Some i → node_at network i.to ≡ Some server → is_server network server ≡ true → sites opening T server ≡ network.sites
    → i.message ≡ Registers (registers db nonce) → i.secret ≡ secret → first_not_allowed site db ≡ None
    → IsBase (last_of (got_from one) (since_start opening T server)) (kept_at (at T server).kept (got_from one)) base → IsBelow base nonce → (at T server).is_obedient ≡ false → Legal opening T (doubts_take T k server nonce)
doubts_take_legal T k server nonce i db base sent there kind has says key allowed counts below unbound = legal (omega arith) refl (record {
  item = i;
  sent = sent;
  there = there;
  arrives = (
    record { kind = kind; acts = refl },
    record {
      message = registers db nonce;
      admits = record { read = ap Ok says; secret = secret; checks = ap (λ (sites : List SiteValue). secret_under sites i.from (bytes_of i) (registers db nonce)) has ∙ admitted i db nonce key allowed };
      fresh = record { base = base; counts = counts; above = below; near = subst (λ (sites : List SiteValue). IsNear (most_jump_at sites 1) base nonce) (sym has) tt; loads = λ none obeys clash. absurd cc };
      space = fits_under opening T server network.sites _ _ has (record { routers = tt; rows = tt });
      fails = in_doubt _ (got_from one) nonce unbound refl (omega arith);
    },
  );
})

pub fails_load_legal : (T : List Step) (k server nonce : ℕ) (i : Item) (db : List MapRecordValue) → slice_get (bag opening T) k ≡ Some i → node_at network i.to ≡ Some server → is_server network server ≡ true → sites opening T server ≡ network.sites
    → i.message ≡ Registers (registers db nonce) → i.secret ≡ secret → first_not_allowed site db ≡ None → last_of (got_from one) (since_start opening T server) ≡ None → Legal opening T (fails_load T k server)
fails_load_legal T k server nonce i db sent there kind has says key allowed unknown = legal (omega arith) refl (record {
  item = i;
  sent = sent;
  there = there;
  arrives = (
    record { kind = kind; acts = refl },
    record {
      message = registers db nonce;
      admits = record { read = ap Ok says; secret = secret; checks = ap (λ (sites : List SiteValue). secret_under sites i.from (bytes_of i) (registers db nonce)) has ∙ admitted i db nonce key allowed };
      unknown = unknown;
      fails = record { same = refl; cause = λ other. inl (omega arith); may = λ other obeys. refl };
    },
  );
})

-- a record that the site doesn't have is refused
pub refuses_record : (T : List Step) (k server nonce place : ℕ) (i : Item) (db : List MapRecordValue) → slice_get (bag opening T) k ≡ Some i → node_at network i.to ≡ Some server → is_server network server ≡ true → sites opening T server ≡ network.sites
    → i.message ≡ Registers (registers db nonce) → i.secret ≡ secret → first_not_allowed site db ≡ Some place → Legal opening T (refuses T (Event.Deliver k Fate.Done) server (Refusal.Receive (Refused.NotAllowed place)))
refuses_record T k server nonce place i db sent there kind has says key bad = legal (omega arith) refl (record {
  item = i;
  sent = sent;
  there = there;
  arrives = (
    record { kind = kind; acts = refl },
    (
      subst (λ (x : MessageValue). FailsCheck (context_of opening T (refuses T (Event.Deliver k Fate.Done) server (Refusal.Receive (Refused.NotAllowed place)))) (arrival_of i) (Ok x) (Refused.NotAllowed place)) (sym says)
          (ap (λ (sites : List SiteValue). secret_under sites i.from (bytes_of i) (registers db nonce)) has ∙ is_not_allowed network.sites i.from (bytes_of i) (registers db nonce) site secret place refl refl (subst (λ (s : List ℕ). is_authentic (bytes_of i) s ≡ true) key (item_authentic i)) refl refl bad),
      refl,
    ),
  );
})

pub restarts_legal : (T : List Step) (node : ℕ) → ((is_server network node ≡ true) ⊎ (is_router network node ≡ true)) → IsFull (at T node).kept → (at T node).is_obedient ≡ false → Legal opening T (restarts T node)
restarts_legal T node (inl server) full unbound = record { faults = λ other. omega arith; obedient = refl; row = record { names = refl; acts = refl; kind = inl (server, refl); fits = tt; narrows = stays (at T node).kept full; picks = λ obeys. absurd (true≢false (sym obeys ∙ unbound)) } }
restarts_legal T node (inr router) full unbound = record { faults = λ other. omega arith; obedient = refl; row = record { names = refl; acts = refl; kind = inr router; fits = tt; narrows = stays (at T node).kept full; picks = λ obeys. absurd (true≢false (sym obeys ∙ unbound)) } }

pub restarts_to_legal : (T : List Step) (node : ℕ) (pair : Pair) (v : Option ℕ) → ((is_server network node ≡ true) ⊎ (is_router network node ≡ true)) → Contains (kept_at (at T node).kept pair) v → IsFull (at T node).kept → (at T node).is_obedient ≡ false → Legal opening T (restarts_to T node pair v)
restarts_to_legal T node pair v (inl server) has full unbound = record { faults = λ other. omega arith; obedient = refl; row = record { names = refl; acts = refl; kind = inl (server, refl); fits = tt; narrows = narrows (at T node).kept pair v has full; picks = λ obeys. absurd (true≢false (sym obeys ∙ unbound)) } }
restarts_to_legal T node pair v (inr router) has full unbound = record { faults = λ other. omega arith; obedient = refl; row = record { names = refl; acts = refl; kind = inr router; fits = tt; narrows = narrows (at T node).kept pair v has full; picks = λ obeys. absurd (true≢false (sym obeys ∙ unbound)) } }

-- the record of the first router, told
wide_fits : fits_message (mapping wide 1440 ∷ []) ≡ true
unfolding written
wide_fits = refl

wide_some : (mapping wide 1440 ∷ []) ≢ []
wide_some e = absurd cc

pub tells_legal : (T : List Step) (nonce datagram : ℕ) (last : Acceptance) (base : Option ℕ) → records_of (since_start opening T 0) one (clock T) ≡ mapping wide 1440 ∷ [] → heard_last one (since_start opening T 0) ≡ Some last → last.message.key_id ≡ 1
    → IsBase (last_notice T 0) (kept_at (at T 0).kept notice_pair) base → nonce ≡ nonce_after base → nonce < 2 ^ 64 → datagram ≡ length (bag opening T) → Legal opening T (tells T nonce datagram)
tells_legal T nonce datagram last base held_row notify_at key counts next bound place = legal (omega arith) refl (
  refl,
  refl,
  record {
    acts = record { kind = refl; acts = refl };
    kind = refl;
    tells = record { some = subst (λ (rs : List MapRecordValue). rs ≢ []) (sym held_row) wide_some; fits = subst (λ (rs : List MapRecordValue). fits_message rs ≡ true) (sym held_row) wide_fits };
    last = last;
    heard = notify_at;
    under = sym key;
    base = base;
    counts = counts;
    loads = λ none obeys clash. absurd cc;
    next = next;
    bound = bound;
    place = place;
    saves = saved _ notice_pair nonce (λ obeys clash. absurd cc) refl;
  },
)

pub repeats_legal : (T : List Step) (datagram : ℕ) → is_due (notice_to opening T 0 one) (clock T) ≡ true → datagram ≡ length (bag opening T) → Legal opening T (repeats T datagram)
repeats_legal T datagram due place = record { faults = λ other. omega arith; obedient = refl; row = (refl, refl, record { acts = record { kind = refl; acts = refl }; kind = refl; due = due; place = place; same = refl }) }

pub notices_legal : (T : List Step) (k nonce datagram : ℕ) (records : List MapRecordValue) → key_of opening T 2 ≡ 1 → is_up T 2 ≡ true → slice_get (bag opening T) k ≡ Some (told (local_at 11) (local_at 21) nonce records) → first_notice ≤ nonce → datagram ≡ length (bag opening T) → Legal opening T (notices T k nonce datagram)
notices_legal T k nonce datagram records key up sent high place = legal (omega arith) refl (record {
  item = told (local_at 11) (local_at 21) nonce records;
  sent = sent;
  there = refl;
  arrives = record { acts = record { kind = refl; acts = refl; state = up }; same = refl; comes = inl (rw (hears (local_at 11) (local_at 21) nonce records 0 refl T key, le-leb first_notice nonce high, place) refl) };
})

pub ends_legal : (T : List Step) (k nonce : ℕ) (records : List MapRecordValue) (n : Notice) → sites opening T 0 ≡ network.sites → slice_get (bag opening T) k ≡ Some (answered nonce records)
    → awaiting (context_of opening T (ends T k nonce)) (local_at 21) (record { ack = true; nonce = nonce; key_id = 1; records = records }) ≡ Some n → n.router ≡ one → n.key ≡ 1 → nonce ≡ n.nonce → Legal opening T (ends T k nonce)
ends_legal T k nonce records n has sent stands router key number = legal (omega arith) refl (record {
  item = answered nonce records;
  sent = sent;
  there = refl;
  arrives = record {
    acts = record { kind = refl; acts = refl };
    message = _;
    read = refl;
    ack = refl;
    notice = n;
    stands = stands;
    authentic = rw (router, key, has) (item_authentic (answered nonce records));
    who = sym router;
    number = number;
    same = refl;
  };
})
