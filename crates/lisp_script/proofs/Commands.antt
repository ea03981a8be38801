-- Commands, and behind them that of a line.
use Rattle.std.proofs.Common.{◌≡◌, ◌⊎◌, inl, inr, ℕ, ◌-◌, ◌<◌, ◌≤◌, List, [], ◌∷◌, ◌++◌, length, get_or, map, take, drop, Ok, Err, Bor, refl, sym, ap, ◌∙◌, arith}
use Rattle.std.proofs.lemmas.Grind.{common_steps}
use Rattle.std.proofs.lemmas.List.{append-nil, map-append}
use Rattle.lisp_policy.specs.Configuration.{ConfigValue}
use Rattle.lisp_script.specs.declared.command.Command.{Command}
use Rattle.lisp_script.specs.Command.{CommandValue, command_value}
use Rattle.lisp_script.specs.declared.fault.ScriptWhat.{ScriptWhat}
use Rattle.lisp_script.specs.declared.fault.ScriptWhat.TheVariants.{Memory}
use Rattle.lisp_script.specs.Words.{texts}
use Rattle.lisp_script.specs.Spelling.{command_of, with_words}
use Rattle.lisp_script.specs.Answers.{MayRunOutIn}

pub ruleset steps = (append-nil, map-append)

-- all words behind the first
behind : (word : Bor (List ℕ)) (words : List (Bor (List ℕ))) → take (length (word ∷ words) - 1) (drop 1 (word ∷ words)) ≡ words
behind word words = grind (arith, common_steps)

-- a command is appended
pub one_more : {A : Type 0} (c : ConfigValue) (before after : List (Command A)) (command : Command A) (words : List (Bor (List ℕ))) (d : Bor (List ℕ)) → 1 ≤ length words
    → command_of c (get_or words 0 d).now (texts (take (length words - 1) (drop 1 words))) ≡ Ok (command_value command) → after ≡ before ++ command ∷ [] → with_words c (map command_value before) (texts words) ≡ Ok (map command_value after)
one_more c before after command [] d some is all = absurd (omega arith)
one_more c before after command (word ∷ words) d some is all = rw (← behind word words, is, all) (ap Ok (sym (map-append command_value before (command ∷ []))))

-- no words, no command
pub no_more : {A : Type 0} (c : ConfigValue) (before : List (Command A)) (words : List (Bor (List ℕ))) → length words < 1 → with_words c (map command_value before) (texts words) ≡ Ok (map command_value before)
no_more c before [] none = ap Ok (append-nil (map command_value before))
no_more c before (word ∷ words) none = absurd (omega arith)

-- a command that isn't read
pub no_command : (may : Type 0) (c : ConfigValue) (before : List CommandValue) (words : List (Bor (List ℕ))) (d : Bor (List ℕ)) (what : ScriptWhat) → 1 ≤ length words
    → (MayRunOutIn may ((get_or words 0 d).now ∷ texts (take (length words - 1) (drop 1 words))) × (what ≡ Memory)) ⊎ (command_of c (get_or words 0 d).now (texts (take (length words - 1) (drop 1 words))) ≡ Err what)
    → (MayRunOutIn may (texts words) × (what ≡ Memory)) ⊎ (with_words c before (texts words) ≡ Err what)
no_command may c before [] d what some is = absurd (omega arith)
no_command may c before (word ∷ words) d what some (inl out) = inl out
no_command may c before (word ∷ words) d what some (inr is) = inr (rw (← behind word words, is) refl)
