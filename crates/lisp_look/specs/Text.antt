-- What is printed of a Map-Reply (RFC 9301 section 5.4).
use Rattle.std.specs.Prelude.{ℕ, ◌==◌, List, [], ◌∷◌, ◌++◌, codes, if◌then◌else◌}
use Rattle.std.specs.Fmt.{decimal}
use Rattle.std.specs.List.{flat_map}
use Rattle.lisp_records.specs.declared.locator.Locator.{Locator}
use Rattle.lisp_records.specs.Record.{MapRecordValue}
use Rattle.lisp_texts.specs.Written.{addr_text, record_text}
use Rattle.lisp_look.specs.Answer.{AnswerValue}

-- from whom it came, and after how many ms
abbrev pub head_text : AnswerValue → List ℕ
head_text answer = codes "reply from " ++ (addr_text answer.from ++ (codes " after " ++ (decimal answer.ms ++ codes " ms\n")))

-- what an ITR does where a record has no locators, by its ACT
unfoldable pub act_words : ℕ → List ℕ
act_words act = if act == 0 then codes "No-Action: nothing is known of it"
    else if act == 1 then codes "Natively-Forward: packets go on without LISP"
    else if act == 2 then codes "Send-Map-Request: packets make an ITR ask again"
    else if act == 3 then codes "Drop/No-Reason: packets are dropped"
    else if act == 4 then codes "Drop/Policy-Denied: packets are dropped by policy"
    else if act == 5 then codes "Drop/Auth-Failure: packets are dropped, since an authentication failed"
    else codes "an ACT that isn't assigned"

-- a record: with locators, or a negative one
abbrev pub entry_text : List Locator → MapRecordValue → List ℕ
entry_text [] m = codes "negative " ++ (record_text m ++ (codes " " ++ (act_words m.act ++ codes "\n")))
entry_text (_ ∷ _) m = codes "record " ++ (record_text m ++ codes "\n")

abbrev pub record_line : MapRecordValue → List ℕ
record_line m = entry_text m.locators m

-- a line for it, then one for each record
abbrev pub answer_text : AnswerValue → List ℕ
answer_text answer = head_text answer ++ flat_map record_line answer.reply.records
