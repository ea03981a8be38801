-- Which commands the lines of a script spell, or its first faulty line: the first word is looked at first, then the
-- number of words, then the words from left to right.
use Rattle.std.specs.Prelude.{◌≡◌, ◌≢◌, ℕ, ◌+◌, ◌==◌, Bool, false, nat_lt, List, [], ◌∷◌, ◌++◌, length, codes, Option, Some, None, Result, Ok, Err, IsOk, if◌then◌else◌}
use Rattle.std.specs.List.{find}
use Rattle.std.specs.Option.{option_map, option_to_list, ok_or}
use Rattle.std.specs.Str.Lines.{lines}
use Rattle.lisp_records.specs.Result.{◌>>=◌}
use Rattle.lisp_records.specs.declared.address.Addr.{Addr}
use Rattle.lisp_nonces.specs.declared.fate.Fate.{Fate}
use Rattle.lisp_nonces.specs.declared.fate.Fate.TheVariants.{Done}
use Rattle.lisp_policy.specs.Configuration.{ConfigValue}
use Rattle.lisp_model.specs.declared.event.Event.TheVariants as events
use Rattle.lisp_script.specs.declared.command.Command.TheVariants.{Act, Hold, Acks, Ask, Request, Due}
use Rattle.lisp_script.specs.declared.verb.Verb.{Verb}
use Rattle.lisp_script.specs.declared.verb.Verb.TheVariants as verbs
use Rattle.lisp_script.specs.declared.fault.ScriptWhat.{ScriptWhat}
use Rattle.lisp_script.specs.declared.fault.ScriptWhat.TheVariants as whats
use Rattle.lisp_script.specs.declared.fault.ScriptFault.{ScriptFault}
use Rattle.lisp_script.specs.Command.{CommandValue}
use Rattle.lisp_script.specs.Words.{words_of, is_word, node_of, server_of, router_of, number_in, key_in, address_in, prefix_in, bytes_in, doubt_in, load_fails_in, fate_in, database_in, mark_in, sites_in_words}

-- the first words
abbrev pub first_words : List (List ℕ × Verb)
first_words =
    (codes "change", verbs.Change) ∷ (codes "send", verbs.Send) ∷ (codes "deliver", verbs.Deliver) ∷ (codes "junk", verbs.Junk)
    ∷ (codes "tick", verbs.Tick) ∷ (codes "restart", verbs.Restart) ∷ (codes "rotate", verbs.Rotate) ∷ (codes "lose", verbs.Lose)
    ∷ (codes "notice", verbs.Notice) ∷ (codes "resend", verbs.Resend) ∷ (codes "reload", verbs.Reload) ∷ (codes "hold", verbs.Hold) ∷ (codes "acks", verbs.Acks) ∷ (codes "ask", verbs.Ask)
    ∷ (codes "request", verbs.Request) ∷ (codes "due", verbs.Due) ∷ []

abbrev pub verb_of : List ℕ → Result Verb ScriptWhat
verb_of word = ok_or (option_map (λ p. p.1) (find (λ p. is_word p.0 word) first_words)) whats.Word

-- change R, with a database
unfoldable pub change_of : ConfigValue → List ℕ → List (List ℕ) → Result CommandValue ScriptWhat
change_of c r records = do
  router ← router_of c r
  db ← database_in records
  Ok (Act (events.Change router db))

-- part I
abbrev pub part_in : List ℕ → List ℕ → Result ℕ ScriptWhat
part_in word i = if is_word (codes "part") word then number_in i else Err whats.Word

-- send R S, and which part, the first where none is named
unfoldable pub send_of : ConfigValue → List ℕ → List ℕ → Result ℕ ScriptWhat → Result Fate ScriptWhat → Result CommandValue ScriptWhat
send_of c r s which becomes = do
  router ← router_of c r
  server ← server_of c s
  part ← which
  fate ← becomes
  Ok (Act (events.Send router server part fate))

-- deliver D
unfoldable pub deliver_of : List ℕ → Result Fate ScriptWhat → Result CommandValue ScriptWhat
deliver_of d becomes = do
  k ← number_in d
  fate ← becomes
  Ok (Act (events.Deliver k fate))

-- notice S R
unfoldable pub notice_of : ConfigValue → List ℕ → List ℕ → Result Fate ScriptWhat → Result CommandValue ScriptWhat
notice_of c s r becomes = do
  server ← server_of c s
  router ← router_of c r
  fate ← becomes
  Ok (Act (events.Notice server router fate))

-- a database is given to a router alone
abbrev pub given_to : ConfigValue → ℕ → Result ℕ ScriptWhat
given_to c node = if nat_lt node (length c.servers) then Err whats.Name else Ok node

-- restart N P
unfoldable pub restart_of : ConfigValue → List ℕ → List ℕ → Result CommandValue ScriptWhat
restart_of c n p = do
  node ← node_of c n
  pick ← number_in p
  Ok (Act (events.Restart node pick None))

-- restart N P, with a database
unfoldable pub restart_with : ConfigValue → List ℕ → List ℕ → List (List ℕ) → Result CommandValue ScriptWhat
restart_with c n p records = do
  node ← node_of c n
  pick ← number_in p
  router ← given_to c node
  db ← database_in records
  Ok (Act (events.Restart router pick (Some db)))

-- rotate R K
unfoldable pub rotate_of : ConfigValue → List ℕ → List ℕ → Result Fate ScriptWhat → Result CommandValue ScriptWhat
rotate_of c r k becomes = do
  router ← router_of c r
  key ← key_in k
  fate ← becomes
  Ok (Act (events.Rotate router key fate))

-- lose R K
unfoldable pub lose_of : ConfigValue → List ℕ → List ℕ → Result CommandValue ScriptWhat
lose_of c r k = do
  router ← router_of c r
  key ← key_in k
  Ok (Act (events.Lose router key None))

-- lose R K, with a database
unfoldable pub lose_with : ConfigValue → List ℕ → List ℕ → List (List ℕ) → Result CommandValue ScriptWhat
lose_with c r k records = do
  router ← router_of c r
  key ← key_in k
  db ← database_in records
  Ok (Act (events.Lose router key (Some db)))

-- reload S, with sites behind a mark
unfoldable pub reload_of : ConfigValue → List ℕ → List ℕ → List (List ℕ) → Result CommandValue ScriptWhat
reload_of c s mark words = do
  server ← server_of c s
  behind ← mark_in mark
  sites ← sites_in_words words
  Ok (Act (events.Reload server sites))

-- an address is named
abbrev pub some_source : Result Addr ScriptWhat → Result (Option Addr) ScriptWhat
some_source read = do
  addr ← read
  Ok (Some addr)

-- from A
abbrev pub source_in : List ℕ → List ℕ → Result (Option Addr) ScriptWhat
source_in word a = if is_word (codes "from") word then some_source (address_in a) else Err whats.Word

-- request S P, and from which address, from none where none is named
unfoldable pub request_of : ConfigValue → List ℕ → List ℕ → Result (Option Addr) ScriptWhat → Result CommandValue ScriptWhat
request_of c s p source = do
  server ← server_of c s
  asked ← prefix_in p
  from ← source
  Ok (Request server asked from)

-- a line of the table for each form of a command: what its words stand for
unfoldable pub spelt : ConfigValue → Verb → List (List ℕ) → Result CommandValue ScriptWhat
spelt c verbs.Change (r ∷ first ∷ more) = change_of c r (first ∷ more)
spelt c verbs.Send (r ∷ s ∷ []) = send_of c r s (Ok 0) (Ok Done)
spelt c verbs.Send (r ∷ s ∷ doubt ∷ []) = send_of c r s (Ok 0) (doubt_in doubt)
spelt c verbs.Send (r ∷ s ∷ part ∷ i ∷ []) = send_of c r s (part_in part i) (Ok Done)
spelt c verbs.Send (r ∷ s ∷ part ∷ i ∷ doubt ∷ []) = send_of c r s (part_in part i) (doubt_in doubt)
spelt c verbs.Deliver (d ∷ []) = deliver_of d (Ok Done)
spelt c verbs.Deliver (d ∷ fate ∷ []) = deliver_of d (fate_in fate)
spelt c verbs.Junk (n ∷ a ∷ h ∷ []) = do
  to ← node_of c n
  from ← address_in a
  bytes ← bytes_in h
  Ok (Act (events.Junk to from bytes))
spelt c verbs.Tick (m ∷ []) = do
  ms ← number_in m
  Ok (Act (events.Tick ms))
spelt c verbs.Restart (n ∷ p ∷ []) = restart_of c n p
spelt c verbs.Restart (n ∷ p ∷ first ∷ more) = restart_with c n p (first ∷ more)
spelt c verbs.Rotate (r ∷ k ∷ []) = rotate_of c r k (Ok Done)
spelt c verbs.Rotate (r ∷ k ∷ fate ∷ []) = rotate_of c r k (load_fails_in fate)
spelt c verbs.Lose (r ∷ k ∷ []) = lose_of c r k
spelt c verbs.Lose (r ∷ k ∷ first ∷ more) = lose_with c r k (first ∷ more)
spelt c verbs.Notice (s ∷ r ∷ []) = notice_of c s r (Ok Done)
spelt c verbs.Notice (s ∷ r ∷ fate ∷ []) = notice_of c s r (fate_in fate)
spelt c verbs.Resend (s ∷ r ∷ []) = do
  server ← server_of c s
  router ← router_of c r
  Ok (Act (events.Resend server router))
spelt c verbs.Reload (s ∷ mark ∷ first ∷ more) = reload_of c s mark (first ∷ more)
spelt c verbs.Hold (s ∷ []) = do
  server ← server_of c s
  Ok (Hold server)
spelt c verbs.Acks (r ∷ []) = do
  router ← router_of c r
  Ok (Acks router)
spelt c verbs.Ask (s ∷ a ∷ []) = do
  server ← server_of c s
  addr ← address_in a
  Ok (Ask server addr)
spelt c verbs.Request (s ∷ p ∷ []) = request_of c s p (Ok None)
spelt c verbs.Request (s ∷ p ∷ from ∷ a ∷ []) = request_of c s p (source_in from a)
spelt c verbs.Due (n ∷ []) = do
  node ← node_of c n
  Ok (Due node)
spelt c _ _ = Err whats.Count

-- a command by its first word and the words behind it
abbrev pub command_of : ConfigValue → List ℕ → List (List ℕ) → Result CommandValue ScriptWhat
command_of c word words = do
  verb ← verb_of word
  spelt c verb words

-- a comment begins with '#' (35)
abbrev pub is_comment : List ℕ → Bool
is_comment [] = false
is_comment (b ∷ line) = b == 35

-- a line has a command, or none where it is a comment or blank
abbrev pub in_words : ConfigValue → List (List ℕ) → Result (Option CommandValue) ScriptWhat
in_words c [] = Ok None
in_words c (word ∷ words) = do
  found ← command_of c word words
  Ok (Some found)

abbrev pub in_line : ConfigValue → List ℕ → Result (Option CommandValue) ScriptWhat
in_line c line = if is_comment line then Ok None else in_words c (words_of line)

-- commands, and behind them that of a line
abbrev pub with_line : ConfigValue → List CommandValue → List ℕ → Result (List CommandValue) ScriptWhat
with_line c before line = do
  found ← in_line c line
  Ok (before ++ option_to_list found)

-- commands, and behind them that of the words of a line
abbrev pub with_words : ConfigValue → List CommandValue → List (List ℕ) → Result (List CommandValue) ScriptWhat
with_words c before words = do
  found ← in_words c words
  Ok (before ++ option_to_list found)

-- the fault of a line, with its number
abbrev pub at_line : {X : Type 0} → ℕ → Result X ScriptWhat → Result X ScriptFault
at_line number (Ok x) = Ok x
at_line number (Err what) = Err (record { line = number; what = what })

-- the commands of lines, numbered from a number on
abbrev pub and_more : Option CommandValue → List CommandValue → List CommandValue
and_more None orders = orders
and_more (Some first) orders = first ∷ orders

unfoldable pub in_lines : ConfigValue → ℕ → List (List ℕ) → Result (List CommandValue) ScriptFault
in_lines c number [] = Ok []
in_lines c number (line ∷ more) = do
  first ← at_line number (in_line c line)
  others ← in_lines c (number + 1) more
  Ok (and_more first others)

-- the commands of a script
abbrev pub script_of : ConfigValue → List ℕ → Result (List CommandValue) ScriptFault
script_of c text = in_lines c 1 (lines text)

-- words that tell a Map-Server sites
abbrev pub TellsSites : List (List ℕ) → Type 0
TellsSites [] = ⊥
TellsSites (word ∷ words) = verb_of word ≡ Ok verbs.Reload

-- a script has such a line
pub record HasReload (text : List ℕ) : Type 0 where
  pub before : List (List ℕ)
  pub line : List ℕ
  pub behind : List (List ℕ)
  pub parts : lines text ≡ before ++ line ∷ behind
  pub sites : TellsSites (words_of line)

-- a line that is neither a comment nor blank
abbrev pub HasWords : List ℕ → Type 0
HasWords line = (is_comment line ≡ false) × (words_of line ≢ [])

-- the line of a script with a number has words, and the lines before it are read without fault
pub record IsReached (c : ConfigValue) (text : List ℕ) (number : ℕ) : Type 0 where
  pub before : List (List ℕ)
  pub line : List ℕ
  pub behind : List (List ℕ)
  pub parts : lines text ≡ before ++ line ∷ behind
  pub place : number ≡ length before + 1
  pub read : IsOk (in_lines c 1 before)
  pub words : HasWords line
