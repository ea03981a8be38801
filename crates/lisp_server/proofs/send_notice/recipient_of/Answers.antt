use Rattle.std.proofs.Common.{◌≢◌, [], ap, length, ◌∙◌}
use Rattle.lisp_lookup.specs.Records.{live_of}
use Rattle.lisp_server.proofs.SendNoticeLaws.{heard_of, some_ok, no_fault}
use Rattle.lisp_server.proofs.send_notice.recipient_of.Goals as goal

pub returns-clause-registered : goal.returns-clause-registered
returns-clause-registered g c =
    let some : live_of c.args.tables.now.rows.rows c.args.router.now c.args.now ≢ [] = λ none. c.if-count-eq0.false (c.in-Some.ensures.count ∙ ap length none) in
    let known = heard_of c.args.sites.now c.args.tables.now.rows.rows c.args.tables.now.contacts.contacts c.args.router.now c.args.now c.requires some in
    rw c.ok_or.ensures.value (some_ok c.heard.result _ _ _ (λ none. c.heard.ensures.none none known) (λ to h. (record { some = some; fits = c.in-Some.ensures.fits; heard = h.0 }, h.1, h.2)) c.heard.ensures.some)

pub returns-clause-refused : goal.returns-clause-refused
returns-clause-refused g c =
    let some : live_of c.args.tables.now.rows.rows c.args.router.now c.args.now ≢ [] = λ none. c.if-count-eq0.false (c.in-Some.ensures.count ∙ ap length none) in
    let known = heard_of c.args.sites.now c.args.tables.now.rows.rows c.args.tables.now.contacts.contacts c.args.router.now c.args.now c.requires some in
    rw c.ok_or.ensures.value (no_fault c.heard.result _ _ (λ none. c.heard.ensures.none none known))
