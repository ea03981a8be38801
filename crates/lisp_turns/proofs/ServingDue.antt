-- What is due at a router: once it sent a Map-Register, and first of all.
use Rattle.std.proofs.Common.{◌≡◌, ℕ, ◌+◌, ◌<◌, length, Some, sym, ap, subst, inl, inr, ◌∙◌, arith, ◌≤◌, min, List, take, get_or, position, Option, None, refl}
use Rattle.std.specs.Prelude.{◌≢◌, slice_get, slice_set, is_some, nat_le}
use Rattle.std.proofs.Math.Nat.{le-min, min-le_left, min-le_right}
use Rattle.std.proofs.lemmas.List.{length-set, get_or-take, length-take}
use Rattle.std.proofs.lemmas.Nat.{pow_pos}
use Rattle.std.proofs.lemmas.Option.{slice_get_within, slice_get-get_or, get_or_from_slice_get}
use Rattle.std.specs.List.{AllPairs}
use Rattle.std.specs.Option.{option_and_then, option_map}
use Rattle.std.proofs.lemmas.Bool.{leb-true}
use Rattle.std.proofs.lemmas.List.Quantifiers.{position-Some}
use Rattle.lisp_records.specs.Parts.{part_count}
use Rattle.lisp_etr.specs.Etr.{EtrState, due_at}
use Rattle.lisp_etr.specs.Round.{round_after_send, first_round}
use Rattle.lisp_etr.specs.Rounds.{rounds_at, round_of, rounds_after_send, due_part, first_part}
use Rattle.lisp_etr.specs.Sending.{EtrSends}
use Rattle.lisp_etr.specs.Timers.{gap}
use Rattle.lisp_etr.specs.declared.round.Round.{Round}
use Rattle.lisp_etr.specs.declared.rounds.Rounds.{Rounds}
use Rattle.lisp_refinement.specs.World.{RouterNodeState, Up}
use Rattle.lisp_refinement.specs.Nodes.{up_in}
use Rattle.lisp_refinement.specs.Events.{place_of}
use Rattle.lisp_refinement.proofs.Gets.{same_some, AtSet, get_set, none_is_some}
use Rattle.lisp_refinement.proofs.Places.{all_at}
use Rattle.lisp_policy.specs.Configuration.{ConfigValue, RouterEntryValue, HasServers, IsRouterEntry, IsConfig}
use Rattle.lisp_model.specs.Trace.{router_at}
use Rattle.lisp_turns.specs.Due.{IsRegisterDue}
use Rattle.lisp_turns.specs.Node.{Router, IsPlaced}
use Rattle.lisp_turns.proofs.ServingPlaces.{place_there, router_is_at}

-- a gap is some time
gap_some : (k : ℕ) → 0 < gap k
gap_some k = le-min (let p = pow_pos k in omega (arith, p)) (omega arith)

-- what was sent isn't due then
sent_later : (nonce now : ℕ) (old new : Round) → round_after_send nonce now old ≡ new → now < new.due
sent_later nonce now old new is = let some = gap_some old.sends in let due : now + gap old.sends ≡ new.due = ap (λ (r : Round). r.due) is in omega (arith, some, due)

-- a Map-Register is due to a Map-Server, of a part, and it isn't the one that was sent
pub record IsOtherDue (n : RouterNodeState) (place part server portion now : ℕ) : Type 0 where
  pub due : IsRegisterDue n server portion now
  pub other : place_of n.servers server ≡ place → portion ≡ part → ⊥

-- a router sent a Map-Register of a part to the Map-Server at a place of its list
module _ (old new : RouterNodeState) (place part now : ℕ) (etr left : EtrState) (was : old.core ≡ Up etr) (is : new.core ≡ Up left) (listed : new.servers ≡ old.servers) (sends : EtrSends etr left place part now) where
  abbrev sent : Rounds
  sent = rounds_after_send part (etr.last + 1) now (rounds_at etr.rounds place)

  abbrev sent_round : Round
  sent_round = round_after_send (etr.last + 1) now (round_of (rounds_at etr.rounds place) part)

  module _ (server portion : ℕ) (d : IsRegisterDue new server portion now) where
    its : left ≡ d.etr
    its = same_some left d.etr (sym (ap up_in is) ∙ d.up)

    abbrev at : ℕ
    at = place_of old.servers server

    rounds_are : d.etr.rounds ≡ slice_set etr.rounds place sent
    rounds_are = ap (λ (e : EtrState). e.rounds) (sym its) ∙ sends.rounds

    stands : slice_get (slice_set etr.rounds place sent) at ≡ Some d.rounds
    stands = (λ i. slice_get (sym rounds_are i) (place_of (sym listed i) server)) ∙ d.with_server

    there : portion < part_count etr.database
    there = subst (λ (db : _). portion < part_count db) (ap (λ (e : EtrState). e.database) (sym its) ∙ sends.database) d.there

    low : at < length etr.rounds
    low = subst (λ (n : ℕ). at < n) (length-set etr.rounds place sent) (slice_get_within (slice_set etr.rounds place sent) at d.rounds stands)

    -- with another Map-Server nothing changed
    elsewhere : at ≢ place → slice_get etr.rounds at ≡ Some d.rounds → IsOtherDue old place part server portion now
    elsewhere differ same = record {
      due = record { etr = etr; up = ap up_in was; rounds = d.rounds; with_server = same; round = d.round; of_part = d.of_part; there = there; due = d.due };
      other = λ here its_part. differ here;
    }

    -- with this one another part's round stayed
    same_server : at ≡ place → sent ≡ d.rounds → IsOtherDue old place part server portion now
    same_server here after = by (get_set (rounds_at etr.rounds place).parts part portion sent_round d.round (ap (λ (rs : Rounds). slice_get rs.parts portion) after ∙ d.of_part))
      where
        by : AtSet (rounds_at etr.rounds place).parts part portion sent_round d.round → IsOtherDue old place part server portion now
        by (inl (its_part, is_round)) = absurd (let late = sent_later (etr.last + 1) now (round_of (rounds_at etr.rounds place) part) d.round is_round in omega (arith, late, d.due))
        by (inr (differ, same)) = record {
          due = record {
            etr = etr;
            up = ap up_in was;
            rounds = rounds_at etr.rounds at;
            with_server = slice_get-get_or etr.rounds at _ low;
            round = d.round;
            of_part = ap (λ (k : ℕ). slice_get (rounds_at etr.rounds k).parts portion) here ∙ same;
            there = there;
            due = d.due;
          };
          other = λ same_place its_part. differ its_part;
        }

    pub due_before : IsOtherDue old place part server portion now
    due_before = by (get_set etr.rounds place at sent d.rounds stands)
      where
        by : AtSet etr.rounds place at sent d.rounds → IsOtherDue old place part server portion now
        by (inl (here, after)) = same_server here after
        by (inr (differ, same)) = elsewhere differ same

-- ---- what is due first

-- the first place where a part is found
module _ {X : Type 0} (part_of : X → Option ℕ) (xs : List X) (at part : ℕ) where
  pub record IsFound : Type 0 where
    pub element : X
    pub there : slice_get xs at ≡ Some element
    pub found : part_of element ≡ Some part

  abbrev with_place : ℕ → Option ℕ → Option (ℕ × ℕ)
  with_place k p = option_map (λ part. (k, part)) p

  abbrev sought : Option (ℕ × ℕ)
  sought = Some (at, part)

  of_part : (k : ℕ) (x : X) → slice_get xs k ≡ Some x → (p : Option ℕ) → part_of x ≡ p → with_place k p ≡ sought → IsFound
  of_part k x there None found e = absurd (none_is_some e)
  of_part k x there (Some p) found e =
      let same = same_some (k, p) (at, part) e in
      record { element = x; there = ap (slice_get xs) (ap (λ (pair : ℕ × ℕ). pair.0) (sym same)) ∙ there; found = found ∙ ap (λ (pair : ℕ × ℕ). Some pair.1) same }

  of_element : (k : ℕ) (y : Option X) → slice_get xs k ≡ y → with_place k (option_and_then part_of y) ≡ sought → IsFound
  of_element k None there e = absurd (none_is_some e)
  of_element k (Some x) there e = of_part k x there (part_of x) refl e

  of_place : (p : Option ℕ) → option_and_then (λ place. with_place place (option_and_then part_of (slice_get xs place))) p ≡ sought → IsFound
  of_place None e = absurd (none_is_some e)
  of_place (Some k) e = of_element k (slice_get xs k) refl e

  pub first_is : first_part part_of xs ≡ sought → IsFound
  first_is e = of_place (position (λ x. is_some (part_of x)) xs) e

-- a part that is due has a round of which that is said
pub record IsDuePart (now count part : ℕ) (rs : Rounds) : Type 0 where
  pub round : Round
  pub there : slice_get rs.parts part ≡ Some round
  pub within : part < count
  pub due : round.due ≤ now

pub due_part_is : (now count part : ℕ) (rs : Rounds) (d : Round) → due_part now count rs ≡ Some part → IsDuePart now count part rs
due_part_is now count part rs d found =
    let its = position-Some (λ (r : Round). nat_le r.due now) (take count rs.parts) part d found in
    let taken : part < min count (length rs.parts) = subst (λ (n : ℕ). part < n) (length-take count rs.parts) its.0 in
    let at_most_count = min-le_left count (length rs.parts) in
    let at_most_parts = min-le_right count (length rs.parts) in
    let within : part < count = omega (arith, taken, at_most_count) in
    let low : part < length rs.parts = omega (arith, taken, at_most_parts) in
    record {
      round = get_or rs.parts part d;
      there = slice_get-get_or rs.parts part d low;
      within = within;
      due = leb-true _ _ (ap (λ (r : Round). nat_le r.due now) (sym (get_or-take count rs.parts part d within)) ∙ its.1);
    }

-- what is due first at a router of a configuration: it registers with the Map-Server that stands at that place of its list
module _ (config : ConfigValue) (number : ℕ) (n : RouterNodeState) (placed : IsPlaced config number (Router n)) (conf : IsConfig config) (servers : List ℕ) (list : servers ≡ (router_at config number).servers)
    (at server : ℕ) (within : at < length servers) (read : server ≡ get_or servers at server) where
  listed : servers ≡ placed.1.servers
  listed = list ∙ ap (λ (r : RouterEntryValue). r.servers) (router_is_at config number placed.0 placed.1 placed.2 placed.3)

  has : HasServers config.servers placed.1
  has =
      let low = slice_get_within config.routers placed.0 placed.1 placed.3 in
      let is = get_or_from_slice_get config.routers placed.0 placed.1 placed.1 placed.3 in
      subst (λ (r : RouterEntryValue). HasServers config.servers r) is (all_at (IsRouterEntry config) config.routers conf.routers placed.0 placed.1 low).servers

  pub server_within : server < length config.servers
  server_within =
      let low : at < length placed.1.servers = subst (λ (l : List ℕ). at < length l) listed within in
      let is : server ≡ get_or placed.1.servers at server = read ∙ ap (λ (l : List ℕ). get_or l at server) listed in
      subst (λ (s : ℕ). s < length config.servers) (sym is) (all_at (λ (s : ℕ). s < length config.servers) placed.1.servers has.there at server low)

  listed_there : slice_get n.servers at ≡ Some server
  listed_there = ap (λ (l : List ℕ). slice_get l at) (placed.4 ∙ sym listed) ∙ slice_get-get_or servers at server within ∙ ap Some (sym read)

  pub register_due : (etr : EtrState) (part now : ℕ) → up_in n.core ≡ Some etr → due_at etr now ≡ Some (at, part) → IsRegisterDue n server part now
  register_due etr part now up due =
      let f = first_is (due_part now (part_count etr.database)) etr.rounds at part due in
      let d = due_part_is now (part_count etr.database) part f.element (first_round 0) f.found in
      record {
        etr = etr;
        up = up;
        rounds = f.element;
        with_server = ap (slice_get etr.rounds) (place_there n.servers (subst (λ (l : List ℕ). AllPairs (λ a b. a ≢ b) l) (sym placed.4) has.once) at server listed_there) ∙ f.there;
        round = d.round;
        of_part = d.there;
        there = d.within;
        due = d.due;
      }
