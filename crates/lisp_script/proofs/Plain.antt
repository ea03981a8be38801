-- No word of a script is at fault for want of memory.
use Rattle.std.proofs.Common.{◌≢◌, ℕ, Bool, true, false, cond, nat_lt, List, [], ◌∷◌, length, codes, Option, Some, None, Result, Ok, Err}
use Rattle.std.specs.Option.{ok_or}
use Rattle.hex.specs.Hex.{decode_of}
use Rattle.toml.specs.Parse.{parse_document}
use Rattle.lisp_records.specs.Result.{◌>>=◌}
use Rattle.lisp_records.specs.declared.address.Addr.{Addr}
use Rattle.lisp_nonces.specs.declared.fate.Fate.{Fate}
use Rattle.lisp_nonces.specs.declared.fate.Fate.TheVariants as fates
use Rattle.lisp_policy.specs.Configuration.{ConfigValue}
use Rattle.lisp_sites.specs.Table.{sites_in}
use Rattle.lisp_script.specs.declared.fault.ScriptWhat.{ScriptWhat}
use Rattle.lisp_script.specs.declared.fault.ScriptWhat.TheVariants as whats
use Rattle.lisp_script.specs.declared.verb.Verb.{Verb}
use Rattle.lisp_script.specs.declared.verb.Verb.TheVariants as verbs
use Rattle.lisp_script.specs.Spelling.{verb_of, change_of, part_in, send_of, source_in, request_of, deliver_of, notice_of, given_to, restart_of, restart_with, rotate_of, lose_of, lose_with, reload_of, spelt, command_of, is_comment, in_words, in_line}
use Rattle.lisp_script.specs.Words.{words_of, is_word, node_of, server_of, router_of, number_in, as_key, key_in, address_in, prefix_in, or_fault, bytes_in, doubt_in, load_fails_in, fate_in, records_in, some_records, database_in, mark_in, spaced, sites_in_words}

-- a value, or a fault that isn't of memory
abbrev Plain : {X : Type 0} → Result X ScriptWhat → Type 0
Plain (Ok x) = Unit {0}
Plain (Err what) = what ≢ whats.Memory

-- ---- steps

then : {X Y : Type 0} (read : Result X ScriptWhat) (next : X → Result Y ScriptWhat) → Plain read → ((x : X) → Plain (next x)) → Plain (read >>= next)
then (Ok x) next first others = others x
then (Err what) next first others = first

or_plain : {X : Type 0} (found : Option X) (what : ScriptWhat) → what ≢ whats.Memory → Plain (ok_or found what)
or_plain (Some x) what other = tt
or_plain None what other = other

fault_plain : {X E : Type 0} (what : ScriptWhat) (read : Result X E) → what ≢ whats.Memory → Plain (or_fault what read)
fault_plain what (Ok x) other = tt
fault_plain what (Err e) other = other

either : {X : Type 0} (test : Bool) (first other : Result X ScriptWhat) → Plain first → Plain other → Plain (cond test first other)
either true first other a b = a
either false first other a b = b

count : whats.Count ≢ whats.Memory
count e = absurd cc

word : whats.Word ≢ whats.Memory
word e = absurd cc

name : whats.Name ≢ whats.Memory
name e = absurd cc

number : whats.Number ≢ whats.Memory
number e = absurd cc

entry : whats.Record ≢ whats.Memory
entry e = absurd cc

hex : whats.Hex ≢ whats.Memory
hex e = absurd cc

-- ---- single words

node : (c : ConfigValue) (w : List ℕ) → Plain (node_of c w)
unfolding node_of
node c w = or_plain _ _ name

server : (c : ConfigValue) (w : List ℕ) → Plain (server_of c w)
unfolding server_of
server c w = or_plain _ _ name

router : (c : ConfigValue) (w : List ℕ) → Plain (router_of c w)
unfolding router_of
router c w = or_plain _ _ name

numeral : (w : List ℕ) → Plain (number_in w)
numeral w = or_plain _ _ number

key_number : (n : ℕ) → Plain (as_key n)
key_number n = either (nat_lt n 256) (Ok n) (Err whats.Number) tt number

key : (w : List ℕ) → Plain (key_in w)
key w = then _ _ (numeral w) key_number

address : (w : List ℕ) → Plain (address_in w)
address w = or_plain _ _ entry

prefix : (w : List ℕ) → Plain (prefix_in w)
prefix w = or_plain _ _ entry

bytes : (w : List ℕ) → Plain (bytes_in w)
bytes w = either (is_word w (codes "-")) (Ok []) _ tt (fault_plain whats.Hex (decode_of w) hex)

doubt : (w : List ℕ) → Plain (doubt_in w)
doubt w = either (is_word w (codes "doubt")) (Ok fates.Doubt) (Err whats.Word) tt word

load_fails : (w : List ℕ) → Plain (load_fails_in w)
load_fails w = either (is_word w (codes "loadfails")) (Ok fates.LoadFails) (Err whats.Word) tt word

fate : (w : List ℕ) → Plain (fate_in w)
fate w = either (is_word w (codes "loadfails")) (Ok fates.LoadFails) _ tt (doubt w)

-- ---- records

all_records : (ws : List (List ℕ)) → Plain (records_in ws)
unfolding records_in
all_records [] = tt
all_records (w ∷ ws) = then _ _ (or_plain _ _ entry) (λ first. then _ _ (all_records ws) (λ others. tt))

some : (ws : List (List ℕ)) → Plain (some_records ws)
some ws = then _ _ (all_records ws) (λ records. fault_plain _ _ entry)

database : (ws : List (List ℕ)) → Plain (database_in ws)
database [] = some []
database (w ∷ []) = either (is_word w (codes "empty")) (Ok []) _ tt (some (w ∷ []))
database (w ∷ v ∷ ws) = some (w ∷ v ∷ ws)

-- ---- sites

mark : (w : List ℕ) → Plain (mark_in w)
mark w = either (is_word w (codes "---")) (Ok tt) (Err whats.Word) tt word

sites : (ws : List (List ℕ)) → Plain (sites_in_words ws)
sites ws = fault_plain whats.Record (sites_in (parse_document (spaced ws))) entry

-- ---- commands

change : (c : ConfigValue) (r : List ℕ) (ws : List (List ℕ)) → Plain (change_of c r ws)
unfolding change_of
change c r ws = then _ _ (router c r) (λ router. then _ _ (database ws) (λ db. tt))

part : (w i : List ℕ) → Plain (part_in w i)
part w i = either (is_word (codes "part") w) (number_in i) (Err whats.Word) (numeral i) word

send : (c : ConfigValue) (r s : List ℕ) (which : Result ℕ ScriptWhat) (becomes : Result Fate ScriptWhat) → Plain which → Plain becomes → Plain (send_of c r s which becomes)
unfolding send_of
send c r s which becomes named plain = then _ _ (router c r) (λ router. then _ _ (server c s) (λ server. then _ _ named (λ part. then _ _ plain (λ fate. tt))))

source : (w a : List ℕ) → Plain (source_in w a)
source w a = either (is_word (codes "from") w) _ (Err whats.Word) (then _ _ (address a) (λ from. tt)) word

request : (c : ConfigValue) (s p : List ℕ) (source : Result (Option Addr) ScriptWhat) → Plain source → Plain (request_of c s p source)
unfolding request_of
request c s p source plain = then _ _ (server c s) (λ server. then _ _ (prefix p) (λ asked. then _ _ plain (λ from. tt)))

deliver : (d : List ℕ) (becomes : Result Fate ScriptWhat) → Plain becomes → Plain (deliver_of d becomes)
unfolding deliver_of
deliver d becomes plain = then _ _ (numeral d) (λ k. then _ _ plain (λ fate. tt))

notice : (c : ConfigValue) (s r : List ℕ) (becomes : Result Fate ScriptWhat) → Plain becomes → Plain (notice_of c s r becomes)
unfolding notice_of
notice c s r becomes plain = then _ _ (server c s) (λ server. then _ _ (router c r) (λ router. then _ _ plain (λ fate. tt)))

restart : (c : ConfigValue) (n p : List ℕ) → Plain (restart_of c n p)
unfolding restart_of
restart c n p = then _ _ (node c n) (λ node. then _ _ (numeral p) (λ pick. tt))

given : (c : ConfigValue) (n : ℕ) → Plain (given_to c n)
given c n = either (nat_lt n (length c.servers)) (Err whats.Name) (Ok n) name tt

restart_given : (c : ConfigValue) (n p : List ℕ) (ws : List (List ℕ)) → Plain (restart_with c n p ws)
unfolding restart_with
restart_given c n p ws = then _ _ (node c n) (λ node. then _ _ (numeral p) (λ pick. then _ _ (given c node) (λ router. then _ _ (database ws) (λ db. tt))))

rotate : (c : ConfigValue) (r k : List ℕ) (becomes : Result Fate ScriptWhat) → Plain becomes → Plain (rotate_of c r k becomes)
unfolding rotate_of
rotate c r k becomes plain = then _ _ (router c r) (λ router. then _ _ (key k) (λ key. then _ _ plain (λ fate. tt)))

lose : (c : ConfigValue) (r k : List ℕ) → Plain (lose_of c r k)
unfolding lose_of
lose c r k = then _ _ (router c r) (λ router. then _ _ (key k) (λ key. tt))

lose_given : (c : ConfigValue) (r k : List ℕ) (ws : List (List ℕ)) → Plain (lose_with c r k ws)
unfolding lose_with
lose_given c r k ws = then _ _ (router c r) (λ router. then _ _ (key k) (λ key. then _ _ (database ws) (λ db. tt)))

reload : (c : ConfigValue) (s m : List ℕ) (ws : List (List ℕ)) → Plain (reload_of c s m ws)
unfolding reload_of
reload c s m ws = then _ _ (server c s) (λ server. then _ _ (mark m) (λ behind. then _ _ (sites ws) (λ sites. tt)))

spelt_plain : (c : ConfigValue) (verb : Verb) (ws : List (List ℕ)) → Plain (spelt c verb ws)
unfolding spelt
spelt_plain c verbs.Change [] = count
spelt_plain c verbs.Change (a ∷ []) = count
spelt_plain c verbs.Change (r ∷ a ∷ ws) = change c r (a ∷ ws)
spelt_plain c verbs.Send [] = count
spelt_plain c verbs.Send (a ∷ []) = count
spelt_plain c verbs.Send (r ∷ s ∷ []) = send c r s (Ok 0) (Ok fates.Done) tt tt
spelt_plain c verbs.Send (r ∷ s ∷ w ∷ []) = send c r s (Ok 0) (doubt_in w) tt (doubt w)
spelt_plain c verbs.Send (r ∷ s ∷ p ∷ i ∷ []) = send c r s (part_in p i) (Ok fates.Done) (part p i) tt
spelt_plain c verbs.Send (r ∷ s ∷ p ∷ i ∷ w ∷ []) = send c r s (part_in p i) (doubt_in w) (part p i) (doubt w)
spelt_plain c verbs.Send (a ∷ b ∷ d ∷ e ∷ f ∷ h ∷ ws) = count
spelt_plain c verbs.Deliver [] = count
spelt_plain c verbs.Deliver (d ∷ []) = deliver d _ tt
spelt_plain c verbs.Deliver (d ∷ w ∷ []) = deliver d _ (fate w)
spelt_plain c verbs.Deliver (a ∷ b ∷ d ∷ ws) = count
spelt_plain c verbs.Junk [] = count
spelt_plain c verbs.Junk (a ∷ []) = count
spelt_plain c verbs.Junk (a ∷ b ∷ []) = count
spelt_plain c verbs.Junk (n ∷ a ∷ h ∷ []) = then _ _ (node c n) (λ to. then _ _ (address a) (λ from. then _ _ (bytes h) (λ bytes. tt)))
spelt_plain c verbs.Junk (a ∷ b ∷ d ∷ e ∷ ws) = count
spelt_plain c verbs.Tick [] = count
spelt_plain c verbs.Tick (m ∷ []) = then _ _ (numeral m) (λ ms. tt)
spelt_plain c verbs.Tick (a ∷ b ∷ ws) = count
spelt_plain c verbs.Restart [] = count
spelt_plain c verbs.Restart (a ∷ []) = count
spelt_plain c verbs.Restart (n ∷ p ∷ []) = restart c n p
spelt_plain c verbs.Restart (n ∷ p ∷ w ∷ ws) = restart_given c n p (w ∷ ws)
spelt_plain c verbs.Rotate [] = count
spelt_plain c verbs.Rotate (a ∷ []) = count
spelt_plain c verbs.Rotate (r ∷ k ∷ []) = rotate c r k _ tt
spelt_plain c verbs.Rotate (r ∷ k ∷ w ∷ []) = rotate c r k _ (load_fails w)
spelt_plain c verbs.Rotate (a ∷ b ∷ d ∷ e ∷ ws) = count
spelt_plain c verbs.Lose [] = count
spelt_plain c verbs.Lose (a ∷ []) = count
spelt_plain c verbs.Lose (r ∷ k ∷ []) = lose c r k
spelt_plain c verbs.Lose (r ∷ k ∷ w ∷ ws) = lose_given c r k (w ∷ ws)
spelt_plain c verbs.Notice [] = count
spelt_plain c verbs.Notice (a ∷ []) = count
spelt_plain c verbs.Notice (s ∷ r ∷ []) = notice c s r _ tt
spelt_plain c verbs.Notice (s ∷ r ∷ w ∷ []) = notice c s r _ (fate w)
spelt_plain c verbs.Notice (a ∷ b ∷ d ∷ e ∷ ws) = count
spelt_plain c verbs.Resend [] = count
spelt_plain c verbs.Resend (a ∷ []) = count
spelt_plain c verbs.Resend (s ∷ r ∷ []) = then _ _ (server c s) (λ server. then _ _ (router c r) (λ router. tt))
spelt_plain c verbs.Resend (a ∷ b ∷ d ∷ ws) = count
spelt_plain c verbs.Reload [] = count
spelt_plain c verbs.Reload (a ∷ []) = count
spelt_plain c verbs.Reload (a ∷ b ∷ []) = count
spelt_plain c verbs.Reload (s ∷ m ∷ w ∷ ws) = reload c s m (w ∷ ws)
spelt_plain c verbs.Hold [] = count
spelt_plain c verbs.Hold (s ∷ []) = then _ _ (server c s) (λ server. tt)
spelt_plain c verbs.Hold (a ∷ b ∷ ws) = count
spelt_plain c verbs.Acks [] = count
spelt_plain c verbs.Acks (r ∷ []) = then _ _ (router c r) (λ router. tt)
spelt_plain c verbs.Acks (a ∷ b ∷ ws) = count
spelt_plain c verbs.Ask [] = count
spelt_plain c verbs.Ask (a ∷ []) = count
spelt_plain c verbs.Ask (s ∷ a ∷ []) = then _ _ (server c s) (λ server. then _ _ (address a) (λ addr. tt))
spelt_plain c verbs.Ask (a ∷ b ∷ d ∷ ws) = count
spelt_plain c verbs.Request [] = count
spelt_plain c verbs.Request (a ∷ []) = count
spelt_plain c verbs.Request (s ∷ p ∷ []) = request c s p (Ok None) tt
spelt_plain c verbs.Request (a ∷ b ∷ d ∷ []) = count
spelt_plain c verbs.Request (s ∷ p ∷ w ∷ a ∷ []) = request c s p (source_in w a) (source w a)
spelt_plain c verbs.Request (a ∷ b ∷ d ∷ e ∷ f ∷ ws) = count
spelt_plain c verbs.Due [] = count
spelt_plain c verbs.Due (n ∷ []) = then _ _ (node c n) (λ node. tt)
spelt_plain c verbs.Due (a ∷ b ∷ ws) = count

-- ---- lines

command : (c : ConfigValue) (w : List ℕ) (ws : List (List ℕ)) → Plain (command_of c w ws)
command c w ws = then (verb_of w) _ (or_plain _ _ word) (λ verb. spelt_plain c verb ws)

words_plain : (c : ConfigValue) (ws : List (List ℕ)) → Plain (in_words c ws)
words_plain c [] = tt
words_plain c (w ∷ ws) = then (command_of c w ws) _ (command c w ws) (λ found. tt)

line_plain : (c : ConfigValue) (line : List ℕ) → Plain (in_line c line)
line_plain c line = either (is_comment line) _ _ tt (words_plain c (words_of line))

never : {X : Type 0} (read : Result X ScriptWhat) → Plain read → read ≢ Err whats.Memory
never (Ok x) plain e = absurd cc
never (Err what) plain e = plain cc

pub in_line_plain : (c : ConfigValue) (line : List ℕ) → in_line c line ≢ Err whats.Memory
in_line_plain c line = never (in_line c line) (line_plain c line)
