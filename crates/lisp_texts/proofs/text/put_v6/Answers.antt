use Rattle.std.proofs.Common.{arith, ◌++◌, lit<, rules}
use Rattle.std.proofs.lemmas.Str.{encode_ascii}
use Rattle.std.specs.Prelude.{string_bytes}
use Rattle.std.specs.List.{join_with_byte}
use Rattle.lisp_texts.specs.Written.{groups_text}
use Rattle.lisp_texts.proofs.WrittenGroups.{groups_first, groups_next, groups_done}
use Rattle.lisp_texts.proofs.text.put_v6.Goals as goal

pub loop-at-preserved : goal.loop-at-preserved
loop-at-preserved g c =
    let colon = rw (encode_ascii 58 (lit< tt)) at c.in_ok-try_push.ensures.bytes in
    groups_next (string_bytes c.loop-at.text) (string_bytes c.try_push.new.self) (string_bytes c.put_group-in-loop-at.new.text) (string_bytes c.args.text.now ++ join_with_byte 58 (groups_text c.args.octets)) c.args.octets c.loop-at.at (search rules) c.loop-at-test.true colon c.in_ok-put_group-2.ensures.text c.loop-at.invariant

pub returns-clause-text : goal.returns-clause-text
returns-clause-text g c = groups_done (string_bytes c.loop-at.text) (string_bytes c.args.text.now ++ join_with_byte 58 (groups_text c.args.octets)) c.args.octets c.loop-at.at (search rules) (omega arith) c.loop-at.invariant

pub loop-at-init : goal.loop-at-init
loop-at-init g c = groups_first (string_bytes c.args.text.now) (string_bytes c.put_group.new.text) c.args.octets (search rules) c.in_ok-put_group.ensures.text
