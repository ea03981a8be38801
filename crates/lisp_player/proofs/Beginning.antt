-- An input is read, and its network begins.
use Rattle.std.proofs.Common.{IfErr, ◌≡◌, ℕ, ◌-◌, ◌^◌, arith, zero, suc, Bool, true, false, List, [], ◌∷◌, map, replicate, Option, Some, None, Result, Ok, Err, ◌<◌, length, take, refl, sym, ap, subst, ◌∙◌}
use Rattle.std.specs.Prelude.{◌⊎◌, ◌≢◌, IsErrAnd, IsTrue, IfSome}
use Rattle.std.proofs.Common.{inl, inr}
use Rattle.std.proofs.lemmas.Option.{slice_get_within}
use Rattle.std.specs.Io.KnownBytes.{Keeps}
use Rattle.std.specs.List.{AllByRecursion}
use Rattle.lisp_records.specs.Result.{◌>>=◌}
use Rattle.lisp_nonces.specs.Memory.{MemoryStoreState, memory_state}
use Rattle.lisp_nonces.specs.Store.{StoreState}
use Rattle.lisp_policy.specs.Configuration.{ConfigValue}
use Rattle.lisp_refinement.specs.World.{WorldState}
use Rattle.lisp_refinement.specs.Stands.{Stands, shown_by}
use Rattle.lisp_refinement.proofs.Gets.{none_is_some, same_some}
use Rattle.lisp_world.specs.Openings.{opening, lists_of, repeats}
use Rattle.lisp_world.specs.Making.{AllBelowEnd, IsCalmFault}
use Rattle.lisp_world.specs.Quiet.{AllHonest, AllCalm, IsCalm, stores_of, failures}
use Rattle.lisp_model.specs.declared.world_fault.WorldFault.{WorldFault}
use Rattle.lisp_model.specs.declared.world_fault.WorldFault.TheVariants as whys
use Rattle.lisp_script.specs.Command.{CommandValue}
use Rattle.lisp_script.specs.declared.play_fault.PlayFault.{PlayFault}
use Rattle.lisp_script.specs.declared.play_fault.PlayFault.TheVariants as faults
use Rattle.lisp_script.specs.Input.{most_bytes}
use Rattle.lisp_player.specs.Playing.{Wrote, StopsAt, Breaks}
use Rattle.lisp_script.specs.Schedule.{schedule_of, IsFaulty}
use Rattle.lisp_player.specs.Schedule.{playable, schedule_in, CannotBegin, NotBegun, EndsBy, IsUnmade, RefusesInput, IsEmpty, Begins, IsPlay, PlayedFrom, Played, StoppedFrom, Stopped, BrokenFrom, Broken, fresh}

module _ (input : List ℕ) where
  module _ (c : ConfigValue) (orders : List CommandValue) (is : schedule_of input ≡ Ok (c, orders)) where
    -- two of its nodes are alike, or none are
    pub repeated : repeats c ≡ true → schedule_in input ≡ Err (faults.World WorldFault.Repeated)
    unfolding schedule_in
    repeated twice = ap (λ (r : Result (ConfigValue × List CommandValue) PlayFault). r >>= playable) is ∙ rw twice refl

    pub asked : repeats c ≡ false → schedule_in input ≡ Ok (c, orders)
    unfolding schedule_in
    asked none = ap (λ (r : Result (ConfigValue × List CommandValue) PlayFault). r >>= playable) is ∙ rw none refl

-- what is wrong with an input is why it is refused
pub refuses_so : (may : Type 0) (input : List ℕ) (fault : PlayFault) → IsFaulty may input fault → RefusesInput may input fault
refuses_so may input faults.NotUtf8 faulty = faulty
refuses_so may input faults.NoScript faulty = faulty
refuses_so may input (faults.Config why) faulty = faulty
refuses_so may input (faults.Script why) faulty = faulty
refuses_so may input faults.Read faulty = absurd faulty
refuses_so may input faults.Write faulty = absurd faulty
refuses_so may input faults.OutOfMemory faulty = absurd faulty
refuses_so may input faults.TooLong faulty = absurd faulty
refuses_so may input (faults.World why) faulty = absurd faulty

abbrev states : ℕ → List StoreState
states n = map memory_state (replicate n fresh)

-- such stores are honest and calm, keep nothing, and never failed
all_honest : (n : ℕ) → AllHonest (states n)
all_honest zero k s at = absurd (none_is_some at)
all_honest (suc n) zero s at = subst (λ (x : StoreState). IsTrue x.is_honest) (same_some (memory_state fresh) s at) refl
all_honest (suc n) (suc k) s at = all_honest n k s at

all_calm : (n : ℕ) → AllCalm (states n)
all_calm zero k s at = absurd (none_is_some at)
all_calm (suc n) zero s at = subst (λ (x : StoreState). IsCalm x) (same_some (memory_state fresh) s at) (record { obedient = refl; quiet = refl })
all_calm (suc n) (suc k) s at = all_calm n k s at

-- so do stores that keep as much, and failed as often
same_head : {X : Type 0} {x y : X} {xs ys : List X} → x ∷ xs ≡ y ∷ ys → x ≡ y
same_head e = cc

same_tail : {X : Type 0} {x y : X} {xs ys : List X} → x ∷ xs ≡ y ∷ ys → xs ≡ ys
same_tail e = cc

all_below_end : (n : ℕ) → AllBelowEnd (states n)
all_below_end zero k s at = absurd (none_is_some at)
all_below_end (suc n) zero s at = subst (λ (x : StoreState). x.faults < 2 ^ 64 - 1) (same_some (memory_state fresh) s at) (omega arith)
all_below_end (suc n) (suc k) s at = all_below_end n k s at

all_empty : (n : ℕ) (stores : List StoreState) → AllCalm stores → lists_of stores ≡ lists_of (states n) → failures stores ≡ failures (states n) → AllByRecursion IsEmpty (map shown_by stores)
all_empty n [] calm kept faults = tt
all_empty zero (s ∷ stores) calm kept faults = absurd cc
all_empty (suc n) (s ∷ stores) calm kept faults = (
  record { kept = same_head kept; faults = same_head faults; obedient = (calm 0 s refl).obedient },
  all_empty n stores (λ k. calm (suc k)) (same_tail kept) (same_tail faults),
)

-- a network over them begins
pub begins : (c : ConfigValue) (w : WorldState) (n : ℕ) (stores : List MemoryStoreState) → stores ≡ replicate n fresh
    → (AllHonest (map memory_state stores) → Stands w (opening c w) [])
    → (AllHonest (map memory_state stores) → lists_of (stores_of w) ≡ lists_of (map memory_state stores))
    → (AllCalm (map memory_state stores) → AllCalm (stores_of w) × (failures (stores_of w) ≡ failures (map memory_state stores)))
    → Begins c w
begins c w n stores made stands lists calm =
    let honest = subst (λ (all : List MemoryStoreState). AllHonest (map memory_state all)) (sym made) (all_honest n) in
    let is_calm = subst (λ (all : List MemoryStoreState). AllCalm (map memory_state all)) (sym made) (all_calm n) in
    record {
      stands = stands honest;
      stores = all_empty n (stores_of w) (calm is_calm).0 (lists honest ∙ ap (λ (all : List MemoryStoreState). lists_of (map memory_state all)) made) ((calm is_calm).1 ∙ ap (λ (all : List MemoryStoreState). failures (map memory_state all)) made);
      calm = (calm is_calm).0;
    }

-- what commands wrote from there on is the text of a play
pub is_play : (A M : Type 0) (c : ConfigValue) (w new : WorldState) (orders : List CommandValue) (before after : Option (List ℕ)) → Begins c w
    → (wrote : Wrote A M M w new c orders before after) → IsPlay A M c orders wrote.text
is_play A M c w new orders before after begins wrote =
    let led = wrote.leads.comes (opening c w) [] begins.stands refl in
    record {
      opening = opening c w;
      config = refl;
      stores = begins.stores;
      after = led.after;
      plays = led.told;
      failures = led.failures begins.calm tt;
    }

-- what is so of the bytes that were read is so of the input
pub of_input : (remaining : Option (List ℕ)) (bytes : List ℕ) (P : List ℕ → Type 0) → IfSome remaining (λ input. bytes ≡ input) → P bytes → IfSome remaining P
of_input None bytes P whole holds = tt
of_input (Some input) bytes P whole holds = subst P whole holds

pub of_each : (remaining : Option (List ℕ)) (P : List ℕ → Type 0) → ((input : List ℕ) → P input) → IfSome remaining P
of_each None P holds = tt
of_each (Some input) P holds = holds input

-- nothing was written
pub keeps_same : (known : Option (List ℕ)) → Keeps known known
keeps_same None = tt
keeps_same (Some bytes) = refl

-- the input can't be read whole
pub not_read : (may : Type 0) (remaining : Option (List ℕ)) (fault : PlayFault) → (fault ≡ faults.OutOfMemory) ⊎ ((fault ≡ faults.TooLong) ⊎ (fault ≡ faults.Read))
    → (fault ≡ faults.TooLong → IfSome remaining (λ input. most_bytes < length input)) → (fault ≡ faults.OutOfMemory → may) → IfSome remaining (λ input. RefusesInput may input fault)
not_read may remaining fault (inl is) long memory = of_each remaining _ (λ input. subst (λ (f : PlayFault). RefusesInput may input f) (sym is) (memory is))
not_read may remaining fault (inr (inl is)) long memory = subst (λ (f : PlayFault). IfSome remaining (λ input. RefusesInput may input f)) (sym is) (long is)
not_read may remaining fault (inr (inr is)) long memory = of_each remaining _ (λ input. subst (λ (f : PlayFault). RefusesInput may input f) (sym is) tt)

-- nor is that a fault of writing
pub not_written : {P : Type 0} (fault : PlayFault) → (fault ≡ faults.OutOfMemory) ⊎ ((fault ≡ faults.TooLong) ⊎ (fault ≡ faults.Read)) → fault ≡ faults.Write → P
not_written fault (inl is) write = absurd cc
not_written fault (inr (inl is)) write = absurd cc
not_written fault (inr (inr is)) write = absurd cc

-- why no network begins over stores that keep nothing
module _ (may : Type 0) (c : ConfigValue) where
  none_repeat : (why : WorldFault) → (repeats c ≡ true → why ≡ WorldFault.Repeated) → why ≢ WorldFault.Repeated → repeats c ≡ false
  none_repeat why twice other = by (repeats c) refl
    where
      by : (b : Bool) → repeats c ≡ b → b ≡ false
      by true is = absurd (other (twice is))
      by false is = refl

  pub cannot_begin : (n : ℕ) (stores : List MemoryStoreState) → stores ≡ replicate n fresh → (why : WorldFault)
      → (AllCalm (map memory_state stores) → AllBelowEnd (map memory_state stores) → IsCalmFault may may why)
      → (why ≡ WorldFault.Repeated → repeats c ≡ true) → (repeats c ≡ true → why ≡ WorldFault.Repeated) → CannotBegin may c why
  cannot_begin n stores made why calm_fault repeated twice = by why (calm_fault calm below) repeated twice
    where
      calm : AllCalm (map memory_state stores)
      calm = subst (λ (all : List MemoryStoreState). AllCalm (map memory_state all)) (sym made) (all_calm n)

      below : AllBelowEnd (map memory_state stores)
      below = subst (λ (all : List MemoryStoreState). AllBelowEnd (map memory_state all)) (sym made) (all_below_end n)

      by : (why : WorldFault) → IsCalmFault may may why → (why ≡ WorldFault.Repeated → repeats c ≡ true) → (repeats c ≡ true → why ≡ WorldFault.Repeated) → CannotBegin may c why
      by whys.Repeated calm repeated twice = repeated refl
      by whys.OutOfMemory calm repeated twice = (none_repeat whys.OutOfMemory twice (λ e. absurd cc), calm)
      by (whys.Start node fault) calm repeated twice = (none_repeat (whys.Start node fault) twice (λ e. absurd cc), calm)
      by whys.NoNode calm repeated twice = absurd calm
      by whys.WrongKind calm repeated twice = absurd calm
      by whys.NoDatagram calm repeated twice = absurd calm
      by whys.Clock calm repeated twice = absurd calm
      by whys.UnknownKey calm repeated twice = absurd calm
      by whys.KeyUsed calm repeated twice = absurd calm

-- so none is made of the input
pub not_made : (may : Type 0) (input : List ℕ) (c : ConfigValue) (orders : List CommandValue) → schedule_of input ≡ Ok (c, orders)
    → (why : WorldFault) → CannotBegin may c why → IsUnmade may input why
not_made may input c orders is whys.Repeated twice = repeated input c orders is twice
not_made may input c orders is whys.OutOfMemory (none, calm) = (calm, (c, orders), asked input c orders is none)
not_made may input c orders is (whys.Start node fault) (none, calm) = (calm, (c, orders), asked input c orders is none)
not_made may input c orders is whys.NoNode (none, calm) = absurd calm
not_made may input c orders is whys.WrongKind (none, calm) = absurd calm
not_made may input c orders is whys.NoDatagram (none, calm) = absurd calm
not_made may input c orders is whys.Clock (none, calm) = absurd calm
not_made may input c orders is whys.UnknownKey (none, calm) = absurd calm
not_made may input c orders is whys.KeyUsed (none, calm) = absurd calm

-- commands were played from the beginning, or those before one
module _ (A M : Type 0) (c : ConfigValue) (orders : List CommandValue) (w new : WorldState) (before after : Option (List ℕ)) (distinct : repeats c ≡ false) (begun : Begins c w) where
  pub played_from : Wrote A M M w new c orders before after → PlayedFrom A M c orders before after
  played_from wrote = record { distinct = distinct; text = wrote.text; written = wrote.written; plays = is_play A M c w new orders before after begun wrote }

  pub stopped_from : StopsAt A M M w new c orders before after → StoppedFrom A M c orders before after
  stopped_from stops = inr (
    stops.place,
    record {
      distinct = distinct;
      text = stops.wrote.text;
      written = stops.wrote.written;
      plays = is_play A M c w stops.between (take stops.place orders) before after begun stops.wrote;
    },
    slice_get_within orders stops.place stops.order stops.there,
  )

  -- or a front of the text of the next one was written
  pub broken_from : Breaks A M M w new c orders before after → BrokenFrom A M c orders before after
  unfolding is_play
  broken_from breaks =
      let wrote = breaks.wrote in
      let led = wrote.leads.comes (opening c w) [] begun.stands refl in
      let turned = breaks.next.turns.comes (opening c w) led.after led.stands refl in
      record {
        place = breaks.place;
        middle = breaks.middle;
        played = record {
          distinct = distinct;
          text = wrote.text;
          written = wrote.written;
          plays = is_play A M c w breaks.between (take breaks.place orders) before breaks.middle begun wrote;
        };
        next = record {
          order = breaks.order;
          there = breaks.there;
          text = breaks.next.text;
          past = turned.after;
          tells = turned.told;
          failures = turned.failures (wrote.leads.calm begun.calm) (led.failures begun.calm tt);
          written = breaks.next.written;
        };
      }

-- they are those of a schedule
module _ (A M : Type 0) (input : List ℕ) (c : ConfigValue) (orders : List CommandValue) (before after : Option (List ℕ)) (is : schedule_of input ≡ Ok (c, orders)) where
  pub played : (done : List CommandValue → List CommandValue) → PlayedFrom A M c (done orders) before after → Played A M input done before after
  played done from = record { config = c; orders = orders; asked = asked input c orders is from.distinct; text = from.text; written = from.written; plays = from.plays }

  pub stopped : StoppedFrom A M c orders before after → Stopped A M input before after
  unfolding played
  stopped (inl nothing) = inl nothing
  stopped (inr (count, from, within)) = inr (count, played (take count) from, within)

-- and so is one whose text was not written whole
pub broken : (A M : Type 0) (input : List ℕ) (c : ConfigValue) (orders : List CommandValue) (before after : Option (List ℕ)) → schedule_of input ≡ Ok (c, orders)
    → BrokenFrom A M c orders before after → Broken A M input before after
unfolding played
broken A M input c orders before after is from = record {
  place = from.place;
  middle = from.middle;
  played = played A M input c orders before from.middle is (take from.place) from.played;
  next = from.next;
}

-- one fault
pub same_fault : {X E : Type 0} {one other : E} → ◌≡◌ {A = Result X E} (Err one) (Err other) → one ≡ other
same_fault e = cc

-- which faults end the playing of commands
module _ (may : Type 0) (c : ConfigValue) where
  pub begun_ends : (fault : PlayFault) → NotBegun may c fault → EndsBy may c fault
  begun_ends faults.OutOfMemory why = why
  begun_ends (faults.World fault) why = why
  begun_ends faults.Write why = tt
  begun_ends faults.Read why = why
  begun_ends faults.TooLong why = why
  begun_ends faults.NotUtf8 why = why
  begun_ends faults.NoScript why = why
  begun_ends (faults.Config fault) why = why
  begun_ends (faults.Script fault) why = why

  pub played_ends : {X : Type 0} (r : Result X PlayFault) → IfErr r (λ fault. (fault ≡ faults.OutOfMemory) ⊎ (fault ≡ faults.Write)) → (r ≡ Err faults.OutOfMemory → may) → IfErr r (EndsBy may c)
  played_ends (Ok x) ends memory = tt
  played_ends (Err fault) (inl is) memory = subst (EndsBy may c) (sym is) (memory (ap Err is))
  played_ends (Err fault) (inr is) memory = subst (EndsBy may c) (sym is) tt

  -- a network that doesn't begin writes nothing
  pub not_broken : {P : Type 0} (fault : PlayFault) → NotBegun may c fault → fault ≡ faults.Write → P
  not_broken fault why is = absurd (subst (NotBegun may c) is why)

  -- what a fault of playing says of the input
  pub ended_refuses : (input : List ℕ) (orders : List CommandValue) → schedule_of input ≡ Ok (c, orders) → (fault : PlayFault) → EndsBy may c fault → RefusesInput may input fault
  ended_refuses input orders is faults.OutOfMemory why = why
  ended_refuses input orders is faults.Write why = tt
  ended_refuses input orders is (faults.World fault) why = not_made may input c orders is fault why
  ended_refuses input orders is faults.Read why = tt
  ended_refuses input orders is faults.TooLong why = absurd why
  ended_refuses input orders is faults.NotUtf8 why = absurd why
  ended_refuses input orders is faults.NoScript why = absurd why
  ended_refuses input orders is (faults.Config fault) why = absurd why
  ended_refuses input orders is (faults.Script fault) why = absurd why

-- an input that isn't a schedule isn't played
pub unread_not_broken : {P : Type 0} (may : Type 0) (input : List ℕ) (fault : PlayFault) → IsFaulty may input fault → fault ≡ faults.Write → P
unread_not_broken may input fault why is = absurd (subst (IsFaulty may input) is why)

-- a test that would mean a fault fails where there is none
pub never : {X E : Type 0} (x : X) (fault : E) (test : Bool) → (test ≡ true → ◌≡◌ {A = Result X E} (Ok x) (Err fault)) → test ≡ false
never {X} {E} x fault true means = absurd (no_fault (means refl))
  where
    no_fault : ◌≡◌ {A = Result X E} (Ok x) (Err fault) → ⊥
    no_fault e = absurd cc
never x fault false means = refl

-- neither of two faults
pub neither : {P : Type 0} (fault : PlayFault) → (fault ≡ faults.OutOfMemory) ⊎ (fault ≡ faults.Write) → fault ≢ faults.Write → fault ≢ faults.OutOfMemory → P
neither fault (inl is) not_write not_memory = absurd (not_memory is)
neither fault (inr is) not_write not_memory = absurd (not_write is)

-- a network isn't made, for want of memory or for its own fault
module _ {X : Type 0} where
  pub made_no_fault : {P : Type 0} (x : X) (fault : PlayFault) → ◌≡◌ {A = Result X PlayFault} (Ok x) (Err fault) → P
  made_no_fault x fault clash = absurd cc

  pub memory_ends : (may : Type 0) (c : ConfigValue) (r : Result X PlayFault) → IsErrAnd r (λ e. e ≡ faults.OutOfMemory) → may → IfErr r (NotBegun may c)
  memory_ends may c (Ok x) is memory = tt
  memory_ends may c (Err e) is memory = subst (NotBegun may c) (sym is) memory

  -- a network isn't made
  module _ (why : WorldFault) where
    pub world_no_memory : {P : Type 0} (r : Result X PlayFault) → IsErrAnd r (λ e. e ≡ faults.World why) → r ≡ Err faults.OutOfMemory → P
    world_no_memory (Ok x) is clash = absurd is
    world_no_memory (Err e) is clash = absurd cc

    pub world_ends : (may : Type 0) (c : ConfigValue) (r : Result X PlayFault) → IsErrAnd r (λ e. e ≡ faults.World why) → CannotBegin may c why → IfErr r (NotBegun may c)
    world_ends may c (Ok x) is begins = tt
    world_ends may c (Err e) is begins = subst (NotBegun may c) (sym is) begins
