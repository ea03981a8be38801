-- The words behind a verb, by their number.
use Rattle.std.proofs.Common.{◌≡◌, ℕ, ◌-◌, ◌<◌, ◌≤◌, ◌≢◌, List, [], ◌∷◌, length, get_or, take, drop, Result, Err, Bor, refl, arith}
use Rattle.std.proofs.lemmas.Grind.{common_steps}
use Rattle.lisp_records.specs.Result.{Reads}
use Rattle.lisp_policy.specs.Configuration.{ConfigValue}
use Rattle.lisp_script.specs.declared.fault.ScriptWhat.TheVariants.{Count}
use Rattle.lisp_script.specs.declared.verb.Verb.{Verb}
use Rattle.lisp_script.specs.declared.verb.Verb.TheVariants as verbs
use Rattle.lisp_script.specs.declared.fault.ScriptWhat.{ScriptWhat}
use Rattle.lisp_script.specs.Fault.{Gives}
use Rattle.lisp_script.specs.Command.{CommandValue}
use Rattle.lisp_script.specs.Words.{texts}
use Rattle.lisp_script.specs.Spelling.{change_of, restart_with, lose_with, reload_of, spelt}
use Rattle.lisp_script.proofs.Faults.{reads_gives}

pub one : (words : List (Bor (List ℕ))) (d : Bor (List ℕ)) → 1 ≤ length words → length words < 2 → texts words ≡ (get_or words 0 d).now ∷ []
one [] d some few = absurd (omega arith)
one (a ∷ []) d some few = refl
one (a ∷ b ∷ words) d some few = absurd (omega arith)

pub two : (words : List (Bor (List ℕ))) (d : Bor (List ℕ)) → 2 ≤ length words → length words < 3 → texts words ≡ (get_or words 0 d).now ∷ (get_or words 1 d).now ∷ []
two [] d some few = absurd (omega arith)
two (a ∷ []) d some few = absurd (omega arith)
two (a ∷ b ∷ []) d some few = refl
two (a ∷ b ∷ e ∷ words) d some few = absurd (omega arith)

pub three : (words : List (Bor (List ℕ))) (d : Bor (List ℕ)) → 3 ≤ length words → length words < 4 → texts words ≡ (get_or words 0 d).now ∷ (get_or words 1 d).now ∷ (get_or words 2 d).now ∷ []
three [] d some few = absurd (omega arith)
three (a ∷ []) d some few = absurd (omega arith)
three (a ∷ b ∷ []) d some few = absurd (omega arith)
three (a ∷ b ∷ e ∷ []) d some few = refl
three (a ∷ b ∷ e ∷ f ∷ words) d some few = absurd (omega arith)

pub four : (words : List (Bor (List ℕ))) (d : Bor (List ℕ)) → 4 ≤ length words → length words < 5
    → texts words ≡ (get_or words 0 d).now ∷ (get_or words 1 d).now ∷ (get_or words 2 d).now ∷ (get_or words 3 d).now ∷ []
four [] d some few = absurd (omega arith)
four (a ∷ []) d some few = absurd (omega arith)
four (a ∷ b ∷ []) d some few = absurd (omega arith)
four (a ∷ b ∷ e ∷ []) d some few = absurd (omega arith)
four (a ∷ b ∷ e ∷ f ∷ []) d some few = refl
four (a ∷ b ∷ e ∷ f ∷ h ∷ words) d some few = absurd (omega arith)

pub five : (words : List (Bor (List ℕ))) (d : Bor (List ℕ)) → 5 ≤ length words → length words < 6
    → texts words ≡ (get_or words 0 d).now ∷ (get_or words 1 d).now ∷ (get_or words 2 d).now ∷ (get_or words 3 d).now ∷ (get_or words 4 d).now ∷ []
five [] d some few = absurd (omega arith)
five (a ∷ []) d some few = absurd (omega arith)
five (a ∷ b ∷ []) d some few = absurd (omega arith)
five (a ∷ b ∷ e ∷ []) d some few = absurd (omega arith)
five (a ∷ b ∷ e ∷ f ∷ []) d some few = absurd (omega arith)
five (a ∷ b ∷ e ∷ f ∷ h ∷ []) d some few = refl
five (a ∷ b ∷ e ∷ f ∷ h ∷ k ∷ words) d some few = absurd (omega arith)

-- more words than any verb takes that no records follow
too_many : (c : ConfigValue) (verb : Verb) (a b e f h k : List ℕ) (words : List (List ℕ)) → verb ≢ verbs.Change → verb ≢ verbs.Restart → verb ≢ verbs.Lose → verb ≢ verbs.Reload
    → spelt c verb (a ∷ b ∷ e ∷ f ∷ h ∷ k ∷ words) ≡ Err Count
unfolding spelt
too_many c verbs.Change a b e f h k words change restart lose reload = absurd (change refl)
too_many c verbs.Send a b e f h k words change restart lose reload = refl
too_many c verbs.Deliver a b e f h k words change restart lose reload = refl
too_many c verbs.Junk a b e f h k words change restart lose reload = refl
too_many c verbs.Tick a b e f h k words change restart lose reload = refl
too_many c verbs.Restart a b e f h k words change restart lose reload = absurd (restart refl)
too_many c verbs.Rotate a b e f h k words change restart lose reload = refl
too_many c verbs.Lose a b e f h k words change restart lose reload = absurd (lose refl)
too_many c verbs.Notice a b e f h k words change restart lose reload = refl
too_many c verbs.Resend a b e f h k words change restart lose reload = refl
too_many c verbs.Reload a b e f h k words change restart lose reload = absurd (reload refl)
too_many c verbs.Hold a b e f h k words change restart lose reload = refl
too_many c verbs.Acks a b e f h k words change restart lose reload = refl
too_many c verbs.Ask a b e f h k words change restart lose reload = refl
too_many c verbs.Request a b e f h k words change restart lose reload = refl
too_many c verbs.Due a b e f h k words change restart lose reload = refl

-- no word behind a verb
too_few : (c : ConfigValue) (verb : Verb) → spelt c verb [] ≡ Err Count
unfolding spelt
too_few c verbs.Change = refl
too_few c verbs.Send = refl
too_few c verbs.Deliver = refl
too_few c verbs.Junk = refl
too_few c verbs.Tick = refl
too_few c verbs.Restart = refl
too_few c verbs.Rotate = refl
too_few c verbs.Lose = refl
too_few c verbs.Notice = refl
too_few c verbs.Resend = refl
too_few c verbs.Reload = refl
too_few c verbs.Hold = refl
too_few c verbs.Acks = refl
too_few c verbs.Ask = refl
too_few c verbs.Request = refl
too_few c verbs.Due = refl

-- a number of words that no verb takes that no records follow
pub miscounted : (c : ConfigValue) (verb : Verb) (words : List (Bor (List ℕ))) → (1 ≤ length words → 6 ≤ length words) → verb ≢ verbs.Change → verb ≢ verbs.Restart → verb ≢ verbs.Lose → verb ≢ verbs.Reload → spelt c verb (texts words) ≡ Err Count
miscounted c verb [] many change restart lose reload = too_few c verb
miscounted c verb (a ∷ []) many change restart lose reload = absurd (omega (arith, many))
miscounted c verb (a ∷ b ∷ []) many change restart lose reload = absurd (omega (arith, many))
miscounted c verb (a ∷ b ∷ e ∷ []) many change restart lose reload = absurd (omega (arith, many))
miscounted c verb (a ∷ b ∷ e ∷ f ∷ []) many change restart lose reload = absurd (omega (arith, many))
miscounted c verb (a ∷ b ∷ e ∷ f ∷ h ∷ []) many change restart lose reload = absurd (omega (arith, many))
miscounted c verb (a ∷ b ∷ e ∷ f ∷ h ∷ k ∷ words) many change restart lose reload = too_many c verb a.now b.now e.now f.now h.now k.now (texts words) change restart lose reload

-- a definition at the texts of one word, and of two
pub by_one : {X Y : Type 0} (May : Type 0) (view : X → Y) (result : Result X ScriptWhat) (f : List (List ℕ) → Result Y ScriptWhat) (words : List (Bor (List ℕ))) (d : Bor (List ℕ)) → 1 ≤ length words → length words < 2
    → Reads view result (f ((get_or words 0 d).now ∷ [])) → Gives May view result (f (texts words))
by_one May view result f words d some few is = rw (one words d some few) (reads_gives May view result _ is)

pub by_two : {X Y : Type 0} (May : Type 0) (view : X → Y) (result : Result X ScriptWhat) (f : List (List ℕ) → Result Y ScriptWhat) (words : List (Bor (List ℕ))) (d : Bor (List ℕ)) → 2 ≤ length words → length words < 3
    → Reads view result (f ((get_or words 0 d).now ∷ (get_or words 1 d).now ∷ [])) → Gives May view result (f (texts words))
by_two May view result f words d some few is = rw (two words d some few) (reads_gives May view result _ is)

-- and of three
pub by_three : {X Y : Type 0} (May : Type 0) (view : X → Y) (result : Result X ScriptWhat) (f : List (List ℕ) → Result Y ScriptWhat) (words : List (Bor (List ℕ))) (d : Bor (List ℕ)) → 3 ≤ length words → length words < 4
    → Gives May view result (f ((get_or words 0 d).now ∷ (get_or words 1 d).now ∷ (get_or words 2 d).now ∷ [])) → Gives May view result (f (texts words))
by_three May view result f words d some few is = rw (three words d some few) is

-- of four, and of five
pub by_four : {X Y : Type 0} (May : Type 0) (view : X → Y) (result : Result X ScriptWhat) (f : List (List ℕ) → Result Y ScriptWhat) (words : List (Bor (List ℕ))) (d : Bor (List ℕ)) → 4 ≤ length words → length words < 5
    → Reads view result (f ((get_or words 0 d).now ∷ (get_or words 1 d).now ∷ (get_or words 2 d).now ∷ (get_or words 3 d).now ∷ [])) → Gives May view result (f (texts words))
by_four May view result f words d some few is = rw (four words d some few) (reads_gives May view result _ is)

pub by_five : {X Y : Type 0} (May : Type 0) (view : X → Y) (result : Result X ScriptWhat) (f : List (List ℕ) → Result Y ScriptWhat) (words : List (Bor (List ℕ))) (d : Bor (List ℕ)) → 5 ≤ length words → length words < 6
    → Reads view result (f ((get_or words 0 d).now ∷ (get_or words 1 d).now ∷ (get_or words 2 d).now ∷ (get_or words 3 d).now ∷ (get_or words 4 d).now ∷ [])) → Gives May view result (f (texts words))
by_five May view result f words d some few is = rw (five words d some few) (reads_gives May view result _ is)

-- all words behind the first, and behind the first two
behind_one : (a : Bor (List ℕ)) (words : List (Bor (List ℕ))) → take (length (a ∷ words) - 1) (drop 1 (a ∷ words)) ≡ words
behind_one a words = grind (arith, common_steps)

behind_two : (a b : Bor (List ℕ)) (words : List (Bor (List ℕ))) → take (length (a ∷ b ∷ words) - 2) (drop 2 (a ∷ b ∷ words)) ≡ words
behind_two a b words = grind (arith, common_steps)

-- a change with too few words, and with enough of them
pub change_none : (c : ConfigValue) (words : List (Bor (List ℕ))) → length words < 2 → spelt c verbs.Change (texts words) ≡ Err Count
unfolding spelt
change_none c [] few = refl
change_none c (a ∷ []) few = refl
change_none c (a ∷ b ∷ words) few = absurd (omega arith)

pub change_more : {X : Type 0} (May : Type 0) (view : X → CommandValue) (result : Result X ScriptWhat) (c : ConfigValue) (words : List (Bor (List ℕ))) (d : Bor (List ℕ)) → 2 ≤ length words
    → Gives May view result (change_of c (get_or words 0 d).now (texts (take (length words - 1) (drop 1 words)))) → Gives May view result (spelt c verbs.Change (texts words))
unfolding spelt
change_more May view result c [] d some is = absurd (omega arith)
change_more May view result c (a ∷ []) d some is = absurd (omega arith)
change_more May view result c (a ∷ b ∷ words) d some is = rw (behind_one a (b ∷ words)) at is

-- the same for a restart
pub restart_none : (c : ConfigValue) (words : List (Bor (List ℕ))) → length words < 2 → spelt c verbs.Restart (texts words) ≡ Err Count
unfolding spelt
restart_none c [] few = refl
restart_none c (a ∷ []) few = refl
restart_none c (a ∷ b ∷ words) few = absurd (omega arith)

pub restart_more : {X : Type 0} (May : Type 0) (view : X → CommandValue) (result : Result X ScriptWhat) (c : ConfigValue) (words : List (Bor (List ℕ))) (d : Bor (List ℕ)) → 3 ≤ length words
    → Gives May view result (restart_with c (get_or words 0 d).now (get_or words 1 d).now (texts (take (length words - 2) (drop 2 words)))) → Gives May view result (spelt c verbs.Restart (texts words))
unfolding spelt
restart_more May view result c [] d some is = absurd (omega arith)
restart_more May view result c (a ∷ []) d some is = absurd (omega arith)
restart_more May view result c (a ∷ b ∷ []) d some is = absurd (omega arith)
restart_more May view result c (a ∷ b ∷ e ∷ words) d some is = rw (behind_two a b (e ∷ words)) at is

-- the same for a lost store
pub lose_none : (c : ConfigValue) (words : List (Bor (List ℕ))) → length words < 2 → spelt c verbs.Lose (texts words) ≡ Err Count
unfolding spelt
lose_none c [] few = refl
lose_none c (a ∷ []) few = refl
lose_none c (a ∷ b ∷ words) few = absurd (omega arith)

pub lose_more : {X : Type 0} (May : Type 0) (view : X → CommandValue) (result : Result X ScriptWhat) (c : ConfigValue) (words : List (Bor (List ℕ))) (d : Bor (List ℕ)) → 3 ≤ length words
    → Gives May view result (lose_with c (get_or words 0 d).now (get_or words 1 d).now (texts (take (length words - 2) (drop 2 words)))) → Gives May view result (spelt c verbs.Lose (texts words))
unfolding spelt
lose_more May view result c [] d some is = absurd (omega arith)
lose_more May view result c (a ∷ []) d some is = absurd (omega arith)
lose_more May view result c (a ∷ b ∷ []) d some is = absurd (omega arith)
lose_more May view result c (a ∷ b ∷ e ∷ words) d some is = rw (behind_two a b (e ∷ words)) at is

-- and for sites
pub reload_none : (c : ConfigValue) (words : List (Bor (List ℕ))) → length words < 3 → spelt c verbs.Reload (texts words) ≡ Err Count
unfolding spelt
reload_none c [] few = refl
reload_none c (a ∷ []) few = refl
reload_none c (a ∷ b ∷ []) few = refl
reload_none c (a ∷ b ∷ e ∷ words) few = absurd (omega arith)

pub reload_more : {X : Type 0} (May : Type 0) (view : X → CommandValue) (result : Result X ScriptWhat) (c : ConfigValue) (words : List (Bor (List ℕ))) (d : Bor (List ℕ)) → 3 ≤ length words
    → Gives May view result (reload_of c (get_or words 0 d).now (get_or words 1 d).now (texts (take (length words - 2) (drop 2 words)))) → Gives May view result (spelt c verbs.Reload (texts words))
unfolding spelt
reload_more May view result c [] d some is = absurd (omega arith)
reload_more May view result c (a ∷ []) d some is = absurd (omega arith)
reload_more May view result c (a ∷ b ∷ []) d some is = absurd (omega arith)
reload_more May view result c (a ∷ b ∷ e ∷ words) d some is = rw (behind_two a b (e ∷ words)) at is
