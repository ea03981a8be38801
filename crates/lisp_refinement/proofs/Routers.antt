-- What a router sends and what it hears: the network stands for the trace with that step.
use Rattle.std.proofs.Common.{◌≡◌, ℕ, Bool, true, false, List, Option, Some, None, Ok, Err, refl, ◌≤◌, [], ◌∷◌, ◌++◌, length, sym, ap, subst, inl, inr, ◌∙◌, arith, ◌+◌, ◌<◌, Result}
use Rattle.std.specs.Prelude.{◌==◌, ok_or, if◌then◌else◌, ◌≢◌, ◌⊎◌, nat_le, slice_get, slice_set, slice_index_or, IfOk, IsErrOf, IsTrue, ◌^◌, ◌-◌, is_some}
use Rattle.std.proofs.lemmas.Bool.Decides.{Decides-eqb}
use Rattle.std.specs.List.{AllPairs, position, find, list_any}
use Rattle.std.specs.Option.{option_map, option_to_list, unwrap_or}
use Rattle.std.proofs.lemmas.List.{length-set, length-map}
use Rattle.std.proofs.lemmas.Option.{slice_get_within, slice_get-get_or, get_or_from_slice_get}
use Rattle.lisp_records.specs.Result.{◌>>=◌}
use Rattle.lisp_messages.specs.declared.fault.ReadFault.{ReadFault}
use Rattle.lisp_messages.specs.Authentic.{is_authentic, signed}
use Rattle.lisp_messages.specs.Message.{MessageValue, MapNotifyValue, Registers, Notifies, IsMapNotify, IsMapRegister}
use Rattle.lisp_etr.specs.declared.notify_fault.NotifyFault.{NotifyFault}
use Rattle.lisp_etr.specs.declared.notify_fault.NotifyFault.TheVariants.{NotMine, WrongKey, BadAuth}
use Rattle.lisp_etr.specs.Config.{EtrConfigValue, sent_pair}
use Rattle.lisp_etr.specs.Hearing.{ServerNotify, check, checked_notify, Gives, AnswerFits, HearsNotice, TakesMemory, ack_of, server_at, notify_from as heard_of, first_notice, notice_in, counted_as, counted_in, seen_in, seen_at, etr_after as left_after}
use Rattle.lisp_records.specs.declared.address.Addr.{Addr}
use Rattle.lisp_records.specs.Address.{addr_eq}
use Rattle.lisp_messages.specs.Reading.{HasHead, HasRecords, message_at}
use Rattle.lisp_messages.specs.Written.{written, written_notify}
use Rattle.lisp_nonces.specs.declared.fate.Fate.{Fate}
use Rattle.lisp_nonces.specs.Kept.{kept_at, NoneBelow, Kept, with_value, number, InDoubt, SameElsewhere}
use Rattle.lisp_nonces.specs.Store.{StoreState}
use Rattle.lisp_etr.specs.Etr.{EtrState}
use Rattle.lisp_etr.specs.Rounds.{round_of, rounds_after_count, latest_of, part_with, greatest, rounds_at, rounds_after_send}
use Rattle.lisp_etr.specs.declared.notify_fault.NotifyFault.TheVariants as faults
use Rattle.lisp_etr.specs.declared.rounds.Rounds.{Rounds}
use Rattle.lisp_etr.specs.declared.seen.Seen.{Seen}
use Rattle.lisp_etr.specs.declared.seen.Seen.TheVariants.{Counted}
use Rattle.lisp_model.specs.declared.event.Event.TheVariants as events
use Rattle.lisp_model.specs.declared.line.Line.{Line}
use Rattle.lisp_model.specs.declared.line.Line.TheVariants as lines
use Rattle.lisp_model.specs.Trace.{EventValue, ShownStore, Step, Opening, fate_of, address_at, is_router, router_at, etr_config, shown_store, node_at, is_server, is_listed, database}
use Rattle.lisp_model.specs.Bag.{Arrival, bytes_of, as_notify, ack_item, arrival_in, items_added, past, bag, Item, arrival_of, junk_arrival, register_item}
use Rattle.lisp_model.specs.Counted.{server_from, notify_at, latest_nonces}
use Rattle.lisp_model.specs.Hearing.{refused_with, counted_line, counted_or_stale, line_of, IsToAnswer, Hears}
use Rattle.lisp_model.specs.Legal.{Arrives, IsDelivered, MayCome}
use Rattle.lisp_model.specs.Sending.{pair_at, last_sent, start_values, CountsFrom, HasPart, NotSaved, MaySend, RefusesToSend}
use Rattle.lisp_model.specs.Context.{Context, Same, SameOthers, MaySave, Saves, SaveFails, IsBase, Rose, values, values_after}
use Rattle.lisp_nonces.specs.declared.fate.Fate.TheVariants.{Done, Doubt}
use Rattle.lisp_refinement.specs.World.{DatagramValue, RouterNodeState, RouterCoreState, Up, Down, WorldState}
use Rattle.lisp_refinement.specs.Calls.{CoreHears as HearsAs, CoreSends, IsSendFaultOf, CoreRefusesToSend, CoreAnswersSend}
use Rattle.lisp_refinement.specs.Events.{address_of, server_number, router_line, acknowledges, RouterHears, ArrivesAtRouter, node_with, place_of, SaysSendAnswer, RouterSends, NetworkSends}
use Rattle.lisp_refinement.specs.Stands.{Shows, Carries, StandsForRounds, StandsForEtr, StandsForCore, StandsForRouter, Stands, StandsAfter, shown_by}
use Rattle.lisp_refinement.proofs.Acting.{adds_none, adds_one, Shown-in, uses_shown, address_is, step_of, turn_at, shown_now, RouterStep, moved, acts_router, acts_part, acts_shows, acts_once, counted_here, counted_there, rounds_set, stands_by, SameLife, SameRounds, up_stays, etr_goes, keys_stay, down_step, by_fate, sent_here, sent_there, idle_step}
use Rattle.lisp_refinement.proofs.Places.{latest_known, found_part, Placed, first_place, position_map, few_parts, any_found}
use Rattle.lisp_refinement.proofs.Gets.{get_within}
use Rattle.lisp_refinement.proofs.Heads.{reads_signed, head_written}
use Rattle.std.proofs.lemmas.Bool.{cases_lt, lt-ltb}
use Rattle.lisp_records.specs.Database.{database_of}
use Rattle.lisp_records.specs.Parts.{part_count, part_at}
use Rattle.lisp_records.specs.Record.{MapRecordValue}
use Rattle.lisp_messages.specs.declared.head.Head.{Head}
use Rattle.lisp_messages.specs.Head.{head_at}
use Rattle.lisp_nonces.specs.declared.fault.StoreFault.{StoreFault}
use Rattle.lisp_nonces.specs.declared.fault.StoreFault.TheVariants as store_faults
use Rattle.lisp_etr.specs.Sending.{last_nonce, map_register_of, next_register, next_datagram, block_end, Settles, LeavesPair}
use Rattle.lisp_etr.specs.declared.send_fault.SendFault.{SendFault}
use Rattle.lisp_etr.specs.declared.send_fault.SendFault.TheVariants.{NoServer, NoPart, NonceSpent, OutOfMemory, Store}
use Rattle.lisp_model.specs.declared.refusal.Refusal.TheVariants as refusals
use Rattle.lisp_model.proofs.HearingLemmas.{find_true}
use Rattle.lisp_model.proofs.Locality.{same_number}

-- both are there, or neither
abbrev pub Both : {X Y : Type 0} → Option X → Option Y → Type 0
Both (Some x) (Some y) = Unit {0}
Both None None = Unit {0}
Both _ _ = ⊥

-- the same Map-Notify passed, under the router's key
pub record SameHeard (c : EtrConfigValue) (read : Result MessageValue ReadFault) (p q : Option ℕ) (h g : ServerNotify) : Type 0 where
  pub message : h.message ≡ g.message
  pub place : p ≡ Some h.server
  pub server : q ≡ Some g.server
  pub says : read ≡ Ok (Notifies g.message)
  pub under : g.message.key_id ≡ c.key_id

-- two results of the checks, alike
abbrev pub Alike : EtrConfigValue → Result MessageValue ReadFault → Option ℕ → Option ℕ → Result ServerNotify NotifyFault → Result ServerNotify NotifyFault → Type 0
Alike c read p q (Ok h) (Ok g) = SameHeard c read p q h g
Alike c read p q (Err f) (Err g) = f ≡ g
Alike c read p q _ _ = ⊥

module _ (c : EtrConfigValue) (bytes : List ℕ) where
  -- key and tag are checked alike
  tested : (m : MapNotifyValue) (i j : ℕ) (key tag : Bool) → (m.key_id == c.key_id) ≡ key
      → Alike c (Ok (Notifies m)) (Some i) (Some j) (check key WrongKey >>= λ _. check tag BadAuth >>= λ _. Ok (record { server = i; message = m })) (check key WrongKey >>= λ _. check tag BadAuth >>= λ _. Ok (record { server = j; message = m }))
  tested m i j false tag is = refl
  tested m i j true false is = refl
  tested m i j true true is = record { message = refl; place = refl; server = refl; says = refl; under = (Decides-eqb m.key_id c.key_id).0 is }

  -- the checks after the message was read
  abbrev later : Option ℕ → MapNotifyValue → Result ServerNotify NotifyFault
  later from m = ok_or from NotMine >>= λ server. check (m.key_id == c.key_id) WrongKey >>= λ _. check (is_authentic bytes c.secret) BadAuth >>= λ _. Ok (record { server = server; message = m })

  -- they lead to the same from both
  from_alike : (m : MapNotifyValue) (p q : Option ℕ) → Both p q → Alike c (Ok (Notifies m)) p q (later p m) (later q m)
  from_alike m None None both = refl
  from_alike m (Some i) (Some j) both = tested m i j (m.key_id == c.key_id) (is_authentic bytes c.secret) refl
  from_alike m _ _ both = absurd both

  -- and so they do where it may be a Map-Notify-Ack
  notify_alike : (m : MapNotifyValue) (ack : Bool) (p q : Option ℕ) → Both p q → Alike c (Ok (Notifies m)) p q ((if ack then Err NotMine else Ok m) >>= later p) ((if ack then Err NotMine else Ok m) >>= later q)
  notify_alike m true p q both = refl
  notify_alike m false p q both = from_alike m p q both

  -- all checks together
  pub alike : (read : Result MessageValue ReadFault) (p q : Option ℕ) → Both p q → Alike c read p q (checked_notify c bytes read p) (checked_notify c bytes read q)
  unfolding checked_notify
  alike (Err fault) p q both = refl
  alike (Ok (Registers m)) p q both = refl
  alike (Ok (Notifies m)) p q both = notify_alike m m.ack p q both

-- What arrives at a router: the row of its line, and what stands of the router afterwards.

-- a datagram arrives, or bytes from outside
abbrev pub IsArrival : EventValue → Type 0
IsArrival (events.Deliver k fate) = Unit {0}
IsArrival (events.Junk to from bytes) = Unit {0}
IsArrival _ = ⊥

-- that leaves a router its configuration and its keys
heard_life : (o : Opening) (T : List Step) (event : EventValue) → IsArrival event → (node : ℕ) (s : ShownStore) (line : Line) → SameLife o T (step_of event node s line ∷ T) node
heard_life o T (events.Deliver k fate) is node s line = record { up = refl; under = refl; since_loss = refl; before_loss = refl; given = refl }
heard_life o T (events.Junk to from bytes) is node s line = record { up = refl; under = refl; since_loss = refl; before_loss = refl; given = refl }
heard_life o T _ is node s line = absurd is

-- an answer is what is expected, or out of memory
given : {X : Type 0} (answer expected : Result X NotifyFault) → Gives (λ x. x) answer expected → (answer ≡ expected) ⊎ (answer ≡ Err faults.OutOfMemory)
given (Err faults.OutOfMemory) expected is = inr refl
given _ expected is = inl (sym is)

-- what is seen in a Map-Notify that passed
module _ {A : Type 0} (e : EtrState) (h : ServerNotify) where
  seen_notice : nat_le first_notice h.message.nonce ≡ true → seen_in {A = A} e h ≡ Ok (notice_in e.config h)
  unfolding seen_in
  seen_notice high = ap (λ b. if b then Ok (notice_in e.config h) else counted_in e.rounds h.server h.message.nonce) high

  -- the last nonce of a part to that server counts
  seen_counted : nat_le first_notice h.message.nonce ≡ false → (place : ℕ) → part_with h.message.nonce (latest_of (rounds_at e.rounds h.server)) ≡ Some place → seen_in {A = A} e h ≡ Ok (Counted h.server place h.message.nonce)
  unfolding seen_in
  seen_counted low place last = ap (λ b. if b then Ok (notice_in e.config h) else counted_in e.rounds h.server h.message.nonce) low
      ∙ ap (counted_as h.server h.message.nonce (latest_of (rounds_at e.rounds h.server))) last

  -- any other is stale
  seen_stale : nat_le first_notice h.message.nonce ≡ false → part_with h.message.nonce (latest_of (rounds_at e.rounds h.server)) ≡ None → seen_in {A = A} e h ≡ Err (faults.Stale (greatest (latest_of (rounds_at e.rounds h.server))))
  unfolding seen_in
  seen_stale low last = ap (λ b. if b then Ok (notice_in e.config h) else counted_in e.rounds h.server h.message.nonce) low
      ∙ ap (counted_as h.server h.message.nonce (latest_of (rounds_at e.rounds h.server))) last

-- a place and its element are both there, or neither
both_of : {X : Type 0} (xs : List X) (p : Option ℕ) (q : Option X) → Placed xs p q → Both p q
both_of xs (Some i) (Some x) is = tt
both_of xs None None is = tt
both_of xs _ _ is = absurd is

-- a router that is up hears what arrives
module _ (A : Type 0) (old : WorldState) (o : Opening) (T : List Step) (stand : Stands old o T) (node : ℕ) (event : EventValue) (arrival : IsArrival event) (a : Arrival) (arrives : arrival_in (bag o T) event ≡ Some a)
    (before : RouterNodeState) (kind : is_router o.config node ≡ true) (part : StandsForRouter o T node before) (once : AllPairs (λ a b. a ≢ b) (router_at o.config node).servers)
    (e : EtrState) (own : StandsForEtr o T node e) (store : StoreState) (shows : Shows store (shown_store o T node)) (from : Addr) (from_is : a.from ≡ from) where
  -- the turn; the router's list; the step of a line; the line of an answer
  abbrev turn : Context
  turn = turn_at o T node (fate_of event) (shown_store o T node)

  abbrev servers : List ℕ
  servers = (router_at o.config node).servers

  abbrev step : Line → Step
  step line = step_of event node (shown_store o T node) line

  abbrev line_by : Result (Seen A) NotifyFault → Line
  line_by ans = router_line node (length old.bag) before.servers e.config.key_id ans

  -- what a line, datagrams and a router come to
  abbrev Comes : Line → List DatagramValue → EtrState → Type 0
  Comes line more etr = RouterStep o T event node (shown_store o T node) (Arrives turn a) line more (record before { core = Up etr; store = store })

  -- and what the answer itself comes to
  abbrev ComesBy : Result (Seen A) NotifyFault → Type 0
  ComesBy ans = Comes (line_by ans) (acknowledges (address_of old node) from ans) (left_after e ans)

  -- the row of a line of the trace's own reading
  hears_row : (line : Line) → (line ≡ line_of turn (notify_at o T node a)) ⊎ (HasHead a.bytes × (HasRecords a.bytes ⊎ IsToAnswer turn a) × (line ≡ refused_with turn faults.OutOfMemory)) → Hears turn a line
  hears_row line comes = record { acts = record { kind = kind; acts = refl; state = own.up }; same = refl; comes = comes }

  -- the router goes on: its configuration, and what is safe
  life : (line : Line) → SameLife o T (step line ∷ T) node
  life line = heard_life o T event arrival node (shown_store o T node) line

  safe : (line : Line) → NoneBelow e.safe (kept_at (shown_store o (step line ∷ T) node).kept (pair_at o T node))
  safe line = subst (λ (x : ShownStore). NoneBelow e.safe (kept_at x.kept (pair_at o T node))) (sym (shown_now o T event node (shown_store o T node) line)) own.safe

  -- with the rounds that it had
  still : (line : Line) → SameRounds o T (step line ∷ T) node → StandsForRouter o (step line ∷ T) node (record before { core = Up e; store = store })
  still line rounds = up_stays o T (step line ∷ T) node (life line) rounds before before.used store e e refl refl part own (safe line)

  -- it is refused
  refuses : (fault : NotifyFault) → (refused_with turn fault ≡ line_of turn (notify_at o T node a)) ⊎ (HasHead a.bytes × (HasRecords a.bytes ⊎ IsToAnswer turn a) × (refused_with turn fault ≡ refused_with turn faults.OutOfMemory)) → ComesBy (Err fault)
  refuses fault comes = idle_step o T event node _ (refused_with turn fault) [] _ (hears_row (refused_with turn fault) comes) (adds_none o T (step (refused_with turn fault)) refl) shows
      (still (refused_with turn fault) (record { sent = refl; values = refl; times = λ k p. refl; latest = λ k p. refl; counted = λ k p. refl }))

  -- a Map-Notify passed all checks
  module _ (h g : ServerNotify) (hears : notify_at o T node a ≡ Ok g) (p q : Option ℕ) (placed : Placed servers p q) (same : SameHeard (etr_config o T node) a.read p q h g) where
    -- the server stands at its place
    there : slice_get servers h.server ≡ Some g.server
    there = subst (λ (x : Option ℕ × Option ℕ). Placed servers x.0 x.1) {x = (p, q)} {y = (Some h.server, Some g.server)} (λ i. (same.place i, same.server i)) placed

    -- its number is the trace's, and so is the nonce
    number_is : server_number before.servers h.server ≡ g.server
    number_is = ap (λ (xs : List ℕ). slice_index_or xs h.server 0) part.servers ∙ get_or_from_slice_get servers h.server g.server 0 there

    nonce_is : h.message.nonce ≡ g.message.nonce
    nonce_is = ap (λ (m : MapNotifyValue). m.nonce) same.message

    -- its rounds are there, and stand
    abbrev rounds : Rounds
    rounds = rounds_at e.rounds h.server

    rounds_stand : StandsForRounds T node g.server rounds
    rounds_stand = own.rounds h.server g.server rounds there
        (slice_get-get_or e.rounds h.server (record { parts = []; acked = [] }) (let low = slice_get_within servers h.server g.server there in let count = own.count in omega (arith, low, count)))

    -- the line of a notice
    abbrev noticed : Line
    noticed = lines.Noticed node (server_number before.servers h.server) h.message.nonce (length old.bag)

    -- its answer
    abbrev answered : DatagramValue
    answered = record { from = address_of old node; to = from; bytes = signed e.config.secret (written_notify (ack_of h.message)) }

    -- which the answer carries
    notice_carries : IsMapNotify (record { ack = true; nonce = h.message.nonce; key_id = e.config.key_id; records = h.message.records }) → Carries answered (ack_item o T node a g.message)
    unfolding bytes_of
    notice_carries fits = record {
      from = address_is old o T stand node;
      to = sym from_is;
      bytes = λ i. signed (own.config i).secret (written (Notifies (ack_of (same.message i))));
      message = subst IsMapNotify {x = record { ack = true; nonce = h.message.nonce; key_id = e.config.key_id; records = h.message.records }} {y = ack_of g.message} (λ i. record {
        ack = true;
        nonce = (same.message i).nonce;
        key_id =
            (ap (λ (c : EtrConfigValue). c.key_id) own.config ∙ sym same.under) i;
        records = (same.message i).records;
      }) fits;
    }

    -- an acknowledgement
    module _ (low : nat_le first_notice h.message.nonce ≡ false) where
      -- the router's last nonces to it are the trace's, and so is the part with the nonce
      latest_is : latest_of rounds ≡ latest_nonces T node g.server
      latest_is = latest_known T node g.server rounds rounds_stand

      line_is : (found : Option ℕ) → part_with h.message.nonce (latest_of rounds) ≡ found → line_of turn (notify_at o T node a) ≡ counted_line turn g (latest_nonces T node g.server) found
      line_is found is =
          (ap (line_of turn) hears ∙ ap (λ b. if b then lines.Noticed node g.server g.message.nonce (length (bag o T)) else counted_or_stale turn g (latest_nonces T node g.server)) (ap (nat_le first_notice) (sym nonce_is) ∙ low))
          ∙ ap (counted_line turn g (latest_nonces T node g.server)) ((λ i. part_with (sym nonce_is i) (sym latest_is i)) ∙ is)

      -- it is that of a part
      module _ (place : ℕ) (last : part_with h.message.nonce (latest_of rounds) ≡ Some place) where
        -- the line, and the rounds afterwards
        abbrev said : Line
        said = lines.Counted node g.server place e.config.key_id h.message.nonce

        abbrev counted_rounds : Rounds
        counted_rounds = rounds_after_count e.config.key_id place rounds

        -- the nonce is the last one of that part
        last_of : (slice_get rounds.parts place ≡ Some (round_of rounds place)) × (h.message.nonce ≡ (round_of rounds place).latest)
        last_of = found_part rounds h.message.nonce place last

        -- it counts
        counts : ComesBy (Ok (Counted h.server place h.message.nonce))
        counts = moved o T event node (shown_store o T node) (Arrives turn a) (line_by (Ok (Counted h.server place h.message.nonce))) said [] [] _ _ (ap (λ n. lines.Counted node n place e.config.key_id h.message.nonce) number_is) refl refl (record {
          row = hears_row said (inl
              ((λ i. lines.Counted node g.server place (own.config i).key_id (nonce_is i)) ∙ sym (line_is (Some place) last)));
          count = omega arith;
          obedient = refl;
          adds = adds_none o T (step said) refl;
          shows = shows;
          part = record {
            me = part.me;
            servers = part.servers;
            used = keys_stay o T (step said ∷ T) node (life said) before.used part.used;
            core = etr_goes o T (step said ∷ T) node (life said) e
                (slice_set e.rounds h.server counted_rounds) own refl refl (safe said) (length-set e.rounds h.server counted_rounds)
                (rounds_set T (step said ∷ T) node servers e.rounds h.server g.server counted_rounds once there
                (counted_here T event node (shown_store o T node) g.server place e.config.key_id h.message.nonce rounds last_of.1 last_of.0 rounds_stand)
                (counted_there T event node (shown_store o T node) g.server place e.config.key_id h.message.nonce) own.rounds);
          };
        })

      -- it is stale
      stale : part_with h.message.nonce (latest_of rounds) ≡ None → ComesBy (Err (faults.Stale (greatest (latest_of rounds))))
      stale last = refuses (faults.Stale (greatest (latest_of rounds))) (inl (ap (λ ns. refused_with turn (faults.Stale (greatest ns))) latest_is ∙ sym (line_is None last)))

    -- the answer to a notice fits the format
    abbrev Fits : Result (Seen A) NotifyFault → Type 0
    Fits ans = IfOk ans (λ seen. AnswerFits e.config.key_id seen)

    -- so what passed all checks comes to its line
    passes : (ans : Result (Seen A) NotifyFault) → ans ≡ seen_in e h → Fits ans → (b : Bool) (found : Option ℕ) → nat_le first_notice h.message.nonce ≡ b → part_with h.message.nonce (latest_of rounds) ≡ found → ComesBy ans
    passes ans is fits true found high last =
        let now : ans ≡ Ok (notice_in e.config h) = is ∙ seen_notice e h high in
        subst ComesBy (sym now) ((record {
          row = hears_row noticed (inl (((λ i. lines.Noticed node (number_is i) (nonce_is i) (stand.bag.count i))
              ∙ sym (ap (line_of turn) hears ∙ ap (λ b. if b then lines.Noticed node g.server g.message.nonce (length (bag o T)) else counted_or_stale turn g (latest_nonces T node g.server)) (ap (nat_le first_notice) (sym nonce_is) ∙ high)))));
          count = omega arith;
          obedient = refl;
          adds = adds_one o T (step noticed) answered (ack_item o T node a g.message)
              (ap (λ (x : Option Arrival). bag o T ++ items_added o T (past o T) x noticed) arrives ∙ ap (λ (x : Option MapNotifyValue). bag o T ++ option_to_list (option_map (ack_item o T node a) x)) (ap as_notify same.says))
              (notice_carries (subst Fits now fits));
          shows = shows;
          part = still noticed (record { sent = refl; values = refl; times = λ k p. refl; latest = λ k p. refl; counted = λ k p. refl });
        }))
    passes ans is fits false (Some place) low last = subst ComesBy (sym (is ∙ seen_counted e h low place last)) (counts low place last)
    passes ans is fits false None low last = subst ComesBy (sym (is ∙ seen_stale e h low last)) (stale low last)

  -- the place in the router's list
  abbrev from_place : Option ℕ
  from_place = position (λ s. addr_eq (address_at o.config s) a.from) servers

  -- the router checks by the place
  by_place : (bytes : List ℕ) → a.bytes ≡ bytes → a.read ≡ message_at bytes → heard_of e.config from bytes ≡ checked_notify (etr_config o T node) a.bytes a.read from_place
  by_place bytes bytes_are read_is = (λ i. checked_notify (own.config i) (sym bytes_are i) (sym read_is i) (server_at (own.config i).servers (sym from_is i)))
      ∙ ap (checked_notify (etr_config o T node) a.bytes a.read) (position_map (λ x. addr_eq x a.from) (address_at o.config) servers)

  -- both checks lead to the same
  both_heard : Alike (etr_config o T node) a.read from_place (server_from o.config node a.from) (checked_notify (etr_config o T node) a.bytes a.read from_place) (notify_at o T node a)
  both_heard = alike (etr_config o T node) a.bytes a.read from_place (server_from o.config node a.from) (both_of servers from_place (server_from o.config node a.from) (first_place (λ s. addr_eq (address_at o.config s) a.from) servers))

  -- what the router hears comes to what the trace says
  by_both : (ans : Result (Seen A) NotifyFault) (r t : Result ServerNotify NotifyFault) → notify_at o T node a ≡ t → Alike (etr_config o T node) a.read from_place (server_from o.config node a.from) r t → ans ≡ (r >>= seen_in e) → IfOk ans (λ seen. AnswerFits e.config.key_id seen) → ComesBy ans
  by_both ans (Err f) (Err g) heard_is same is fits = subst ComesBy (sym is) (refuses f (inl (ap (refused_with turn) same ∙ sym (ap (line_of turn) heard_is))))
  by_both ans (Ok h) (Ok g) heard_is same is fits = passes h g heard_is from_place (server_from o.config node a.from) (first_place (λ s. addr_eq (address_at o.config s) a.from) servers) same ans is fits
      (nat_le first_notice h.message.nonce) (part_with h.message.nonce (latest_of (rounds_at e.rounds h.server))) refl refl
  by_both ans _ _ heard_is same is fits = absurd same

  -- or memory runs out
  comes_by : (bytes : List ℕ) → a.bytes ≡ bytes → a.read ≡ message_at bytes → (etr : EtrState) (ans : Result (Seen A) NotifyFault) → HearsAs e etr from bytes ans → ComesBy ans
  comes_by bytes bytes_are read_is etr ans call = at (given ans (seen_at e from bytes) call.gives)
    where
      -- what takes memory is to be read, or a notice that passed all checks on both sides
      answer_of : (h : ServerNotify) (t : Result ServerNotify NotifyFault) → notify_at o T node a ≡ t → Alike (etr_config o T node) a.read from_place (server_from o.config node a.from) (Ok h) t → first_notice ≤ h.message.nonce → IsToAnswer turn a
      answer_of h (Ok g) heard_is same high = record { what = g; hears = heard_is; own = subst (λ (m : MapNotifyValue). first_notice ≤ m.nonce) same.message high }
      answer_of h (Err f) heard_is same high = absurd same

      takes : HasRecords bytes ⊎ HearsNotice e.config from bytes → HasRecords a.bytes ⊎ IsToAnswer turn a
      takes (inl records) = inl (subst HasRecords (sym bytes_are) records)
      takes (inr notice) = inr (answer_of notice.0 (notify_at o T node a) refl
          (subst (λ (r : Result ServerNotify NotifyFault). Alike (etr_config o T node) a.read from_place (server_from o.config node a.from) r (notify_at o T node a)) (sym (by_place bytes bytes_are read_is) ∙ notice.1) both_heard) notice.2)

      at : (ans ≡ seen_at e from bytes) ⊎ (ans ≡ Err faults.OutOfMemory) → ComesBy ans
      at (inl is) = by_both ans (checked_notify (etr_config o T node) a.bytes a.read from_place) (notify_at o T node a) refl both_heard (is ∙ ap (λ (r : Result ServerNotify NotifyFault). r >>= seen_in e) (by_place bytes bytes_are read_is)) call.fits
      at (inr is) = subst ComesBy (sym is) (refuses faults.OutOfMemory (inr (
        (subst HasHead (sym bytes_are) (subst (λ (x : Result (Seen A) NotifyFault). IsErrOf x faults.OutOfMemory → TakesMemory e.config from bytes) is call.grows refl).0),
        (takes (subst (λ (x : Result (Seen A) NotifyFault). IsErrOf x faults.OutOfMemory → TakesMemory e.config from bytes) is call.grows refl).1),
        refl,
      )))

-- what arrives at a router
module _ (A : Type 0) (old new : WorldState) (o : Opening) (T : List Step) (stand : Stands old o T) (node : ℕ) (fate : Fate) (from : Addr) (bytes : List ℕ) (line : Line) (arrived : ArrivesAtRouter A old new node fate from bytes line)
    (event : EventValue) (arrival : IsArrival event) (a : Arrival) (arrives : arrival_in (bag o T) event ≡ Some a) (from_is : a.from ≡ from) (bytes_are : a.bytes ≡ bytes) (read_is : a.read ≡ message_at bytes) where
  -- the step of the router
  abbrev Goes : Type 0
  Goes = RouterStep o T event node (shown_store o T node) (Arrives (turn_at o T node (fate_of event) (shown_store o T node)) a) line arrived.more arrived.acts.after

  -- the router and its store are what the trace says
  part_here : StandsForRouter o T node arrived.acts.before
  part_here = acts_part old new node arrived.more arrived.acts o T stand

  kind_here : is_router o.config node ≡ true
  kind_here = acts_router old new node arrived.more arrived.acts o T stand

  -- one that is up hears it, and one that is down says so
  hears_at : (core : RouterCoreState) → StandsForCore o T node core → RouterHears A old node arrived.acts.before arrived.acts.after fate from bytes core line arrived.more → Goes
  hears_at (Up e) own up =
      let h = up.hears in
      moved o T event node (shown_store o T node) _ line _ arrived.more _ arrived.acts.after _ up.said up.posts (h.is ∙ ap (λ (x : EtrState). record arrived.acts.before { core = Up x; store = arrived.acts.after.store }) h.call.after)
      (comes_by A old o T stand node event arrival a arrives arrived.acts.before kind_here part_here (acts_once old new node arrived.more arrived.acts o T stand) h.etr
      (subst (λ (core : RouterCoreState). StandsForCore o T node core) h.was part_here.core) arrived.acts.after.store ((
      let x : Shown-in fate h.armed h.armed arrived.acts.after.store (shown_store o T node) = uses_shown arrived.acts.before.store h.armed h.armed arrived.acts.after.store fate (shown_store o T node)
      (acts_shows old new node arrived.more arrived.acts o T stand) h.uses in
      record { honest = x.after.honest; kept = x.after.kept ∙ x.armed_shows.kept; faults = x.after.faults ∙ x.armed_shows.faults; obedient = x.after.obedient ∙ x.armed_shows.obedient })) from from_is
      bytes bytes_are read_is h.left up.answer h.call)
  hears_at (Down config db) core at = down_step old new node arrived.more arrived.acts o T stand event _ line at
      (record { acts = record { kind = kind_here; acts = refl; state = core.0 }; names = refl; same = refl }) refl (heard_life o T event arrival node (shown_store o T node) (lines.Down node))
      (record { sent = refl; values = refl; times = λ k p. refl; latest = λ k p. refl; counted = λ k p. refl })

  -- its row, and what stands of the router afterwards
  pub router_hears : Goes
  router_hears = hears_at arrived.acts.before.core part_here.core arrived.hears

-- A datagram or bytes from outside arrive at a router: the network stands for the trace with that step.

-- the row of a datagram that arrives, whichever line it comes to
may_deliver : (t : Context) (k : ℕ) (fate : Fate) (line : Line) → IsDelivered t k line → MayCome t (events.Deliver k fate) line
may_deliver t k fate (lines.Nowhere datagram) row = absurd row.arrives
may_deliver t k fate _ row = row

-- what was sent is read as it was said
pub item_read : (d : DatagramValue) (i : Item) → Carries d i → message_at d.bytes ≡ Ok i.message
unfolding bytes_of
item_read d i carries = ap message_at carries.bytes ∙ reads_signed i.secret i.message carries.message

-- a step with its row of an arrival, and with the row of its event
with_row : (o : Opening) (T : List Step) (event : EventValue) (node : ℕ) (s : ShownStore) (Row Next : Line → Type 0) (line : Line) (more : List DatagramValue) (after : RouterNodeState) → (Row line → Next line)
    → RouterStep o T event node s Row line more after → RouterStep o T event node s Next line more after
with_row o T event node s Row Next line more after f step = record { row = f step.row; count = step.count; obedient = step.obedient; adds = step.adds; shows = step.shows; part = step.part }

-- a datagram of the bag arrives at a router: the item that it carries is what the trace says of it
module _ (A : Type 0) (old new : WorldState) (node : ℕ) (fate : Fate) (line : Line) (k : ℕ) (d : DatagramValue) (got : slice_get old.bag k ≡ Some d) (whom : node_with old d.to ≡ Some node)
    (arrived : ArrivesAtRouter A old new node fate d.from d.bytes line) (o : Opening) (T : List Step) (stand : Stands old o T) where
  delivered : (item : Item) → slice_get (bag o T) k ≡ Some item → Carries d item → Stands new o (step_of (events.Deliver k fate) node (shown_store o T node) line ∷ T)
  delivered item sent carries = stands_by old new node arrived.more arrived.acts o T stand (events.Deliver k fate) (shown_store o T node) line refl
      (with_row o T (events.Deliver k fate) node (shown_store o T node) (Arrives (turn_at o T node fate (shown_store o T node)) (arrival_of item)) (MayCome (turn_at o T node fate (shown_store o T node)) (events.Deliver k fate)) line arrived.more arrived.acts.after
      (λ row. may_deliver (turn_at o T node fate (shown_store o T node)) k fate line (record { item = item; sent = sent; there = there; arrives = row }))
      (router_hears A old new o T stand node fate d.from d.bytes line arrived (events.Deliver k fate) tt (arrival_of item) (ap (option_map arrival_of) sent) (sym carries.from) (sym carries.bytes) (sym (item_read d item carries))))
    where
      there : node_at o.config item.to ≡ Some node
      there = (λ i. position (λ x. addr_eq x (sym carries.to i)) (sym stand.steps.addresses i)) ∙ whom

  -- which item it is, the bag says
  deliver_stands : Stands new o (step_of (events.Deliver k fate) node (shown_store o T node) line ∷ T)
  deliver_stands =
      let found = get_within (bag o T) k (let within = slice_get_within old.bag k d got in let count = stand.bag.count in omega (arith, within, count)) in
      delivered found.0 found.1 (stand.bag.each k d found.0 got found.1)

-- so the network stands for the trace with that step
pub deliver_to_router_stands : (A : Type 0) (old new : WorldState) (node : ℕ) (fate : Fate) (line : Line) (k : ℕ) (d : DatagramValue) → slice_get old.bag k ≡ Some d → node_with old d.to ≡ Some node
    → ArrivesAtRouter A old new node fate d.from d.bytes line → StandsAfter old new (events.Deliver k fate) line
deliver_to_router_stands A old new node fate line k d got whom arrived o T stand = (node, shown_store o T node, deliver_stands A old new node fate line k d got whom arrived o T stand)

-- bytes from outside arrive at a router
pub junk_to_router_stands : (A : Type 0) (old new : WorldState) (node : ℕ) (from : Addr) (bytes : List ℕ) (line : Line) → ArrivesAtRouter A old new node Done from bytes line → StandsAfter old new (events.Junk node from bytes) line
junk_to_router_stands A old new node from bytes line arrived o T stand = (
  node,
  shown_store o T node,
  stands_by old new node arrived.more arrived.acts o T stand (events.Junk node from bytes) (shown_store o T node) line refl
      (with_row o T (events.Junk node from bytes) node (shown_store o T node) (Arrives (turn_at o T node Done (shown_store o T node)) (junk_arrival from bytes)) (MayCome (turn_at o T node Done (shown_store o T node)) (events.Junk node from bytes)) line arrived.more arrived.acts.after
      (λ row. record { acts = refl; arrives = row })
      (router_hears A old new o T stand node Done from bytes line arrived (events.Junk node from bytes) tt (junk_arrival from bytes) refl refl refl refl)),
)

-- A router sends a Map-Register, or refuses to, or is down: the network stands for the trace with that step.

-- the place of a server in a list, or none
abbrev HasPlace : List ℕ → ℕ → ℕ → Type 0
HasPlace servers server place = ((slice_get servers place ≡ Some server) × (list_any (λ s. s == server) servers ≡ true)) ⊎ ((place ≡ length servers) × (list_any (λ s. s == server) servers ≡ false))

-- each server has a place or none
has_place : (servers : List ℕ) (server : ℕ) → HasPlace servers server (place_of servers server)
has_place servers server = at (position (λ s. s == server) servers) (find (λ s. s == server) servers) refl refl (first_place (λ s. s == server) servers)
  where
    at : (place found : Option ℕ) → position (λ s. s == server) servers ≡ place → find (λ s. s == server) servers ≡ found → Placed servers place found → HasPlace servers server (unwrap_or (position (λ s. s == server) servers) (length servers))
    at (Some i) (Some s) place found stands =
        let same : s ≡ server = (Decides-eqb s server).0 (find_true (λ s. s == server) servers s found) in
        inl (ap (λ (p : Option ℕ). slice_get servers (unwrap_or p (length servers))) place ∙ stands ∙ ap Some same, any_found (λ s. s == server) servers ∙ ap is_some found)
    at None None place found stands = inr (ap (λ (p : Option ℕ). unwrap_or p (length servers)) place, any_found (λ s. s == server) servers ∙ ap is_some found)
    at _ _ place found stands = absurd stands

-- a place within the list is the server's
there_of : (servers : List ℕ) (server place : ℕ) → place < length servers → HasPlace servers server place → (slice_get servers place ≡ Some server) × (list_any (λ s. s == server) servers ≡ true)
there_of servers server place low (inl there) = there
there_of servers server place low (inr none) = absurd (let end = none.0 in omega (arith, low, end))

-- beyond it the server isn't listed
nowhere_of : (servers : List ℕ) (server place : ℕ) → length servers ≤ place → HasPlace servers server place → list_any (λ s. s == server) servers ≡ false
nowhere_of servers server place high (inl there) = absurd (let low = slice_get_within servers place server there.0 in omega (arith, low, high))
nowhere_of servers server place high (inr none) = none.1

-- a router that is up, and is asked to send to a server
module _ (old : WorldState) (o : Opening) (T : List Step) (stand : Stands old o T) (router server portion : ℕ) (fate : Fate) (before : RouterNodeState) (kind : is_router o.config router ≡ true) (known : is_server o.config server ≡ true)
    (part : StandsForRouter o T router before) (once : AllPairs (λ a b. a ≢ b) (router_at o.config router).servers)
    (e etr : EtrState) (own : StandsForEtr o T router e) (armed called after : StoreState) (uses : Shown-in fate armed called after (shown_store o T router)) where
  -- what its store shows after the call; the turn, the event and its rows; the server's place; the router afterwards
  abbrev after_it : ShownStore
  after_it = shown_by called

  abbrev asks : Context
  asks = turn_at o T router fate after_it

  abbrev event : EventValue
  event = events.Send router server portion fate

  abbrev Row : Line → Type 0
  Row line = MayCome asks event line

  abbrev place : ℕ
  place = place_of before.servers server

  abbrev left : RouterNodeState
  left = record before { core = Up etr; store = after }

  -- the place is that in the trace's list
  placed : HasPlace (router_at o.config router).servers server place
  placed = subst (λ (xs : List ℕ). HasPlace xs server place) part.servers (has_place before.servers server)

  -- the router has as many servers
  as_many : length e.config.servers ≡ length (router_at o.config router).servers
  as_many = ap (λ (c : EtrConfigValue). length c.servers) own.config ∙ length-map (router_at o.config router).servers (address_at o.config)

  -- the database that it registers has the part
  has_part : portion < part_count e.database → HasPart asks router portion
  has_part there = subst (λ (db : List MapRecordValue). portion < part_count db) own.database there

  -- what is said of the list that was kept, and of the list that is, for the router's pair
  carried : (P : List (Option ℕ) → List (Option ℕ) → Type 0) → P (kept_at armed.kept (sent_pair e.config)) (kept_at called.kept (sent_pair e.config)) → P (values asks (pair_at o T router)) (values_after asks (pair_at o T router))
  carried P said = subst (λ (p : Kept × EtrConfigValue). P (kept_at p.0 (sent_pair p.1)) (kept_at called.kept (sent_pair p.1))) {x = (armed.kept, e.config)} {y = ((shown_store o T router).kept, etr_config o T router)} (λ i. (uses.armed_shows.kept i, own.config i)) said

  -- no other list changed
  others_carried : SameElsewhere armed.kept called.kept (sent_pair e.config) → SameOthers asks (pair_at o T router)
  others_carried said = subst (λ (p : Kept × EtrConfigValue). SameElsewhere p.0 called.kept (sent_pair p.1)) {x = (armed.kept, e.config)} {y = ((shown_store o T router).kept, etr_config o T router)} (λ i. (uses.armed_shows.kept i, own.config i)) said

  -- no value is below what is safe: before the call, after it, and after the step
  safe_before : NoneBelow e.safe (kept_at armed.kept (sent_pair e.config))
  safe_before = subst (λ (p : Kept × EtrConfigValue). NoneBelow e.safe (kept_at p.0 (sent_pair p.1))) {x = ((shown_store o T router).kept, etr_config o T router)} {y = (armed.kept, e.config)} (λ i. (sym uses.armed_shows.kept i, sym own.config i)) own.safe

  safe_after : (n : ℕ) → NoneBelow n (kept_at called.kept (sent_pair e.config)) → NoneBelow n (values_after asks (pair_at o T router))
  safe_after n none = carried (λ was is. NoneBelow n is) none

  safe_now : (n : ℕ) (line : Line) → NoneBelow n (values_after asks (pair_at o T router)) → NoneBelow n (kept_at (shown_store o (step_of event router after_it line ∷ T) router).kept (pair_at o T router))
  safe_now n line none = subst (λ (x : ShownStore). NoneBelow n (kept_at x.kept (pair_at o T router))) (sym (shown_now o T event router after_it line)) none

  -- a Map-Register went out
  module _ (bytes : List ℕ) (call : CoreSends e etr armed called place portion old.clock bytes) where
    -- its line, and what was posted
    abbrev sent_line : Line
    sent_line = lines.Sent router server portion e.config.key_id (e.last + 1) (length old.bag)

    abbrev datagram : DatagramValue
    datagram = record { from = address_of old router; to = address_of old server; bytes = bytes }

    -- the server is listed
    found : (slice_get (router_at o.config router).servers place ≡ Some server) × (is_listed o.config router server ≡ true)
    found = there_of (router_at o.config router).servers server place (let within = call.within in let many = as_many in omega (arith, within, many)) placed

    -- the message fits the format
    known_message : IsMapRegister (map_register_of (etr_config o T router) (part_at (database o T router) portion) (e.last + 1))
    known_message = subst (λ (p : EtrConfigValue × List MapRecordValue). IsMapRegister (map_register_of p.0 (part_at p.1 portion) (e.last + 1))) {x = (e.config, e.database)} {y = (etr_config o T router, database o T router)} (λ i. (own.config i, own.database i)) call.known

    -- what was saved
    sent_saves : Saves asks (pair_at o T router) (e.last + 1) (block_end (e.last + 1) (etr_config o T router).nonce_block)
    sent_saves = record {
      here = settled (cases_lt e.safe (e.last + 1));
      none_below = safe_after (e.last + 1) (λ v has. let safe = call.safe in let high = call.keeps_safe uses.armed_shows.honest safe_before v has in omega (arith, safe, high));
      others = others_carried (call.others uses.armed_shows.honest);
    }
      where
        -- a save of the end of the block, as the fate lets it be done
        by : (e.safe < e.last + 1) → Settles (values asks (pair_at o T router)) (values_after asks (pair_at o T router)) (e.last + 1) (etr_config o T router).nonce_block → (values_after asks (pair_at o T router) ≡ values asks (pair_at o T router)) ⊎ ((values_after asks (pair_at o T router) ≡ Some (block_end (e.last + 1) (etr_config o T router).nonce_block) ∷ []) × MaySave asks)
        by above (inl same) = inl same
        by above (inr bound) = inr (bound, by_fate (λ f. f ≢ Doubt) fate armed (shown_store o T router) uses.armed_shows uses.fated (call.saves above))

        -- where nothing had to be saved the store wasn't asked
        settled : (e.safe < e.last + 1) ⊎ (e.last + 1 ≤ e.safe) → (values_after asks (pair_at o T router) ≡ values asks (pair_at o T router)) ⊎ ((values_after asks (pair_at o T router) ≡ Some (block_end (e.last + 1) (etr_config o T router).nonce_block) ∷ []) × MaySave asks)
        settled (inl above) = by above (subst (λ (c : EtrConfigValue). Settles (values asks (pair_at o T router)) (values_after asks (pair_at o T router)) (e.last + 1) c.nonce_block) own.config (carried (λ was is. Settles was is (e.last + 1) e.config.nonce_block) (call.settles uses.armed_shows.honest)))
        settled (inr below) = inl (carried (λ was is. is ≡ was) (ap (λ (x : StoreState). kept_at x.kept (sent_pair e.config)) (call.unasked below)))

    -- the datagram carries the item
    sent_carries : Carries datagram (register_item o T router server portion (e.last + 1))
    unfolding bytes_of
    sent_carries = record {
      from = address_is old o T stand router;
      to = address_is old o T stand server;
      bytes = call.datagram ∙ (λ i. signed (own.config i).secret (written (Registers (map_register_of (own.config i) (part_at (own.database i) portion) (e.last + 1)))));
      message = known_message;
    }

    -- the next nonce counts from this one
    sent_counts : CountsFrom o (step_of event router after_it sent_line ∷ T) router (Some (e.last + 1))
    sent_counts = subst (λ b. IsBase (if b then Some (e.last + 1) else last_sent T router) (start_values o T router) (Some (e.last + 1))) (sym (same_number router)) refl

    -- its step
    sent_step : RouterStep o T event router after_it Row sent_line (datagram ∷ []) left
    sent_step = record {
      row = (
        refl,
        refl,
        refl,
        (record {
          acts = record { kind = kind; acts = refl; state = own.up };
          kind = known;
          listed = found.1;
          fits = subst (λ (db : List MapRecordValue). database_of db ≡ Ok db) own.database call.fits;
          there = has_part call.there;
          under = ap (λ (c : EtrConfigValue). c.key_id) own.config;
          base = own.last.0;
          counts = own.last.1;
          next = ap (λ n. n + 1) own.last.2;
          within = (let left = call.left in omega (arith, left));
          message = known_message;
          place = stand.bag.count;
          saves = sent_saves;
        }),
      );
      count = uses.count;
      obedient = uses.obedient;
      adds = adds_one o T (step_of event router after_it sent_line) datagram (register_item o T router server portion (e.last + 1)) refl sent_carries;
      shows = uses.after;
      part = record {
        me = part.me;
        servers = part.servers;
        used = record { since_loss = part.used.since_loss; before_loss = part.used.before_loss };
        core = record {
          up = own.up;
          config = call.sends.config ∙ own.config;
          database = call.sends.database ∙ own.database;
          last = (Some (e.last + 1), sent_counts, call.sends.last);
          safe = safe_now etr.safe sent_line (safe_after etr.safe (call.keeps_safe uses.armed_shows.honest safe_before));
          count = ap length call.sends.rounds ∙ length-set e.rounds place (rounds_after_send portion (e.last + 1) old.clock (rounds_at e.rounds place)) ∙ own.count;
          rounds = λ i k rs listed is. rounds_set T (step_of event router after_it sent_line ∷ T) router (router_at o.config router).servers e.rounds place server (rounds_after_send portion (e.last + 1) old.clock (rounds_at e.rounds place)) once found.0
              (sent_here T event router after_it server portion e.config.key_id (e.last + 1) (length old.bag) old.clock (rounds_at e.rounds place) stand.bag.moment
              (let there = call.there in let few = few_parts e.database call.fits in omega (arith, there, few)) (own.rounds place server (rounds_at e.rounds place) found.0
              (slice_get-get_or e.rounds place (record { parts = []; acked = [] }) (let low = slice_get_within (router_at o.config router).servers place server found.0 in let count = own.count in omega (arith, low, count)))))
              (sent_there T event router after_it server portion e.config.key_id (e.last + 1) (length old.bag)) own.rounds i k rs listed (ap (λ (all : List Rounds). slice_get all i) (sym call.sends.rounds) ∙ is);
        };
      };
    }

    -- what its line says is what stands in the datagram
    head_is : (head : Head) → head_at bytes ≡ Some head → ◌≡◌ {A = Head} head (record { key_id = e.config.key_id; nonce = e.last + 1 })
    head_is head read =
        let wrote : head_at (next_datagram e portion) ≡ Some (record { key_id = e.config.key_id; nonce = e.last + 1 }) = head_written e.config.secret (Registers (next_register e portion)) call.known in
        let both : ◌≡◌ {A = Option Head} (Some head) (Some (record { key_id = e.config.key_id; nonce = e.last + 1 })) = sym read ∙ ap head_at call.datagram ∙ wrote in
        cc

  -- it was refused
  module _ (fault : SendFault) (call : CoreRefusesToSend e etr armed called place portion fault) where
    -- its line
    abbrev refused : Line
    refused = lines.Refused router (refusals.Send fault)

    -- no list changed, but where a device failed
    unmoved : fault ≢ Store store_faults.Device → Same asks
    unmoved other = ap (λ (x : StoreState). x.kept) (call.refused other) ∙ uses.armed_shows.kept

    -- the server is listed, or isn't
    listed_if : place < length e.config.servers → is_listed o.config router server ≡ true
    listed_if within = (there_of (router_at o.config router).servers server place (let many = as_many in omega (arith, within, many)) placed).1

    nowhere_if : length e.config.servers ≤ place → is_listed o.config router server ≡ false
    nowhere_if beyond = nowhere_of (router_at o.config router).servers server place (let many = as_many in omega (arith, beyond, many)) placed

    -- the database has the part too
    may_if : place < length e.config.servers → portion < part_count e.database → MaySend asks router server portion
    may_if within there = (listed_if within, has_part there)

    -- or hasn't
    no_part : part_count e.database ≤ portion → part_count (database o T router) ≤ portion
    no_part beyond = subst (λ (db : List MapRecordValue). part_count db ≤ portion) own.database beyond

    -- the end of the block, by the trace's own words
    abbrev bound : ℕ
    bound = block_end (number own.last.0 + 1) (etr_config o T router).nonce_block

    bound_is : block_end (e.last + 1) e.config.nonce_block ≡ bound
    bound_is = λ i. block_end (own.last.2 i + 1) (own.config i).nonce_block

    -- a fault other than out of memory has its cause
    cause_of : (f : StoreFault) → fault ≡ Store f → f ≢ store_faults.OutOfMemory → Rose asks
    cause_of store_faults.Device is other =
        (subst (λ (n : ℕ). (n < called.faults) ⊎ (called.faults ≡ 2 ^ 64 - 1)) uses.armed_shows.faults (call.cause is))
    cause_of store_faults.Damaged is other = absurd (call.sound is)
    cause_of store_faults.OutOfMemory is other = absurd (other refl)

    -- no list changed where memory ran out
    unmoved_by : (f : StoreFault) → fault ≡ Store f → f ≡ store_faults.OutOfMemory → Same asks
    unmoved_by f is memory = unmoved (λ device. let clash : store_faults.OutOfMemory ≡ store_faults.Device = sym memory ∙ (let both : Store f ≡ Store store_faults.Device = sym is ∙ device in cc) in cc)

    -- only a failed device is answered for its store, memory aside
    device : (f : StoreFault) → fault ≡ Store f → f ≢ store_faults.OutOfMemory → fault ≡ Store store_faults.Device
    device store_faults.Device is other = is
    device store_faults.Damaged is other = absurd (call.sound is)
    device store_faults.OutOfMemory is other = absurd (other refl)

    -- the save of the bound failed
    fails_at : (f : StoreFault) → fault ≡ Store f → InDoubt (values asks (pair_at o T router)) (values_after asks (pair_at o T router)) bound → SaveFails asks (pair_at o T router) bound f
    fails_at f is doubt = record {
      here = doubt;
      others = others_carried (call.others uses.armed_shows.honest);
      memory = unmoved_by f is;
      sound = λ damaged. call.sound (is ∙ ap Store damaged);
      cause = cause_of f is;
      may = λ other. by_fate (λ x. x ≡ Doubt) fate armed (shown_store o T router) uses.armed_shows uses.fated (call.save_fails (device f is other));
      doubted = λ other obeys. subst (λ (n : ℕ). values_after asks (pair_at o T router) ≡ with_value (values asks (pair_at o T router)) n) bound_is
          (carried (λ was is. is ≡ with_value was (block_end (e.last + 1) e.config.nonce_block)) (call.doubted (device f is other) (subst (λ (b : Bool). IsTrue b) (sym uses.armed_shows.obedient) obeys)));
    }

    -- so the nonce wasn't saved
    not_saved : (f : StoreFault) → fault ≡ Store f → e.last < last_nonce → LeavesPair (values asks (pair_at o T router)) (values_after asks (pair_at o T router)) (e.last + 1) e.config.nonce_block → NotSaved asks router f
    not_saved f is low left = record {
      base = own.last.0;
      counts = own.last.1;
      left = (let last = own.last.2 in omega (arith, low, last));
      fails = fails_at f is (subst (λ (n : ℕ). InDoubt (values asks (pair_at o T router)) (values_after asks (pair_at o T router)) n) bound_is left);
    }

    -- each refusal has its row
    refusal : (f : SendFault) → fault ≡ f → IsSendFaultOf e place portion f → RefusesToSend asks router server portion f
    refusal NoServer is why = (nowhere_if why, unmoved (λ device. let clash : NoServer ≡ Store store_faults.Device = sym is ∙ device in cc))
    refusal NoPart is why = (listed_if why.0, no_part why.1, unmoved (λ device. let clash : NoPart ≡ Store store_faults.Device = sym is ∙ device in cc))
    refusal NonceSpent is why = (may_if why.0 why.1, (own.last.0, own.last.1, (let high = why.2 in let last = own.last.2 in omega (arith, high, last))), unmoved (λ device. let clash : NonceSpent ≡ Store store_faults.Device = sym is ∙ device in cc))
    refusal OutOfMemory is why = (may_if why.0 why.1, own.last.0, own.last.1, (let low = why.2 in let last = own.last.2 in omega (arith, low, last)), unmoved (λ device. let clash : OutOfMemory ≡ Store store_faults.Device = sym is ∙ device in cc))
    refusal (Store f) is why = (may_if why.0 why.1, not_saved f is why.2 (carried (λ was is. LeavesPair was is (e.last + 1) e.config.nonce_block) (call.leaves uses.armed_shows.honest)))

    -- its step
    refused_step : RouterStep o T event router after_it Row refused [] left
    refused_step = record {
      row = (refl, known, record { kind = kind; acts = refl; state = own.up }, refusal fault refl call.why);
      count = uses.count;
      obedient = uses.obedient;
      adds = adds_none o T (step_of event router after_it refused) refl;
      shows = uses.after;
      part = up_stays o T (step_of event router after_it refused ∷ T) router (record { up = refl; under = refl; since_loss = refl; before_loss = refl; given = refl })
          (record { sent = refl; values = refl; times = λ k p. refl; latest = λ k p. refl; counted = λ k p. refl }) before before.used after e etr refl call.err part own
          (safe_now e.safe refused (safe_after e.safe (call.keeps_safe uses.armed_shows.honest safe_before)));
    }

-- what comes of the event at a router, up or down
module _ (old new : WorldState) (router server portion : ℕ) (fate : Fate) (line : Line) (sends : NetworkSends old new router server portion fate line) (o : Opening) (T : List Step) (stand : Stands old o T) where
  -- the network stands for the trace with the step
  abbrev Sent-after : Type 0
  Sent-after = (actor : ℕ) × (s : ShownStore) × Stands new o (step_of (events.Send router server portion fate) actor s line ∷ T)

  -- the server is one, and the router, its list and its store are what the trace says
  known_server : is_server o.config server ≡ true
  known_server = lt-ltb _ _ (let low = sends.kind in let count = stand.steps.servers in omega (arith, low, count))

  asked_kind : is_router o.config router ≡ true
  asked_kind = acts_router old new router sends.more sends.acts o T stand

  asked_part : StandsForRouter o T router sends.acts.before
  asked_part = acts_part old new router sends.more sends.acts o T stand

  once_here : AllPairs (λ a b. a ≢ b) (router_at o.config router).servers
  once_here = acts_once old new router sends.more sends.acts o T stand

  -- with the step of the router it does
  ends : (s : ShownStore) → RouterStep o T (events.Send router server portion fate) router s (MayCome (turn_at o T router fate s) (events.Send router server portion fate)) line sends.more sends.acts.after → Sent-after
  ends s step = (router, s, stands_by old new router sends.more sends.acts o T stand (events.Send router server portion fate) s line refl step)

  module _ (e : EtrState) (own : StandsForEtr o T router e) where
    -- it sent, or refused to
    sends_ok : (etr : EtrState) → sends.acts.after ≡ record sends.acts.before { core = Up etr; store = sends.acts.after.store } → (armed called : StoreState) → (uses : Shown-in fate armed called sends.acts.after.store (shown_store o T router)) → (answer : Result (List ℕ) SendFault)
        → CoreAnswersSend e etr armed called (place_of sends.acts.before.servers server) portion old.clock answer → SaysSendAnswer old router server portion answer line sends.more → Sent-after
    sends_ok etr is armed called uses (Ok bytes) call says = ends _ (moved o T _ router _ _ line _ sends.more _ sends.acts.after _
        (says.said ∙ ap (λ (h : Head). lines.Sent router server portion h.key_id h.nonce (length old.bag)) (head_is old o T stand router server portion fate sends.acts.before asked_kind known_server asked_part once_here e etr own armed called sends.acts.after.store uses bytes call says.head says.read))
        says.posts is (sent_step old o T stand router server portion fate sends.acts.before asked_kind known_server asked_part once_here e etr own armed called sends.acts.after.store uses bytes call))
    sends_ok etr is armed called uses (Err fault) call says = ends _ (moved o T _ router _ _ line _ sends.more _ sends.acts.after _ says.0 says.1 is
        (refused_step old o T stand router server portion fate sends.acts.before asked_kind known_server asked_part once_here e etr own armed called sends.acts.after.store uses fault call))

  -- it is up, or down
  sends_at : (core : RouterCoreState) → StandsForCore o T router core → RouterSends old router server portion fate sends.acts.before sends.acts.after core line sends.more → Sent-after
  sends_at (Up e) own up =
      let call = up.sends.call in
      sends_ok up.sends.etr (subst (λ (core : RouterCoreState). StandsForCore o T router core) up.sends.was asked_part.core) up.sends.left up.sends.is call.armed call.called
      (uses_shown sends.acts.before.store call.armed call.called sends.acts.after.store fate (shown_store o T router)
      (acts_shows old new router sends.more sends.acts o T stand) call.uses) up.answer call.call up.says
  sends_at (Down config db) core at = ends (shown_store o T router) (down_step old new router sends.more sends.acts o T stand (events.Send router server portion fate) _ line at
      (known_server, record { acts = record { kind = asked_kind; acts = refl; state = core.0 }; names = refl; same = refl }) refl
      (record { up = refl; under = refl; since_loss = refl; before_loss = refl; given = refl })
      (record { sent = refl; values = refl; times = λ k p. refl; latest = λ k p. refl; counted = λ k p. refl }))

  -- so the network stands for the trace with that step
  pub send_stands : Sent-after
  send_stands = sends_at sends.acts.before.core asked_part.core sends.sends
