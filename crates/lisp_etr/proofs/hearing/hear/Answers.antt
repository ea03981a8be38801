use Rattle.std.proofs.Common.{ℕ, ◌<◌, List, length, sym, ap, ◌∙◌, subst, is_ok, true≢false, refl}
use Rattle.std.proofs.lemmas.List.Quantifiers.{position-Some}
use Rattle.lisp_records.specs.declared.address.Addr.{Addr}
use Rattle.lisp_records.specs.Address.{addr_eq}
use Rattle.std.proofs.lemmas.Result.{err_from_is_err_and}
use Rattle.lisp_messages.specs.Authentic.{is_authentic}
use Rattle.lisp_messages.specs.Message.{MapNotifyValue}
use Rattle.lisp_messages.specs.Reading.{message_at}
use Rattle.lisp_messages.specs.declared.notify.MapNotify.{MapNotify}
use Rattle.lisp_etr.specs.Config.{EtrConfigValue}
use Rattle.lisp_etr.specs.Hearing.{server_at}
use Rattle.lisp_etr.proofs.HearingLaws.{found, unread, wrong_key, bad_auth, passes, not_out, not_mine, missed}
use Rattle.lisp_etr.proofs.hearing.hear.Goals as goal

pub returns-in_default-clause-early : goal.returns-in_default-clause-early
returns-in_default-clause-early g c fault kind = absurd (true≢false (ap is_ok (c.in_ok-notify.ensures.early fault kind)))

pub returns-then-notify-config-clause-early : goal.returns-then-notify-config-clause-early
returns-then-notify-config-clause-early g c fault kind = absurd (true≢false (ap is_ok (c.in_ok-notify.ensures.early fault kind)))

pub returns-then-not-authentic_under-clause-early : goal.returns-then-not-authentic_under-clause-early
returns-then-not-authentic_under-clause-early g c fault kind = absurd (true≢false (ap is_ok (c.in_ok-notify.ensures.early fault kind)))

pub returns-clause-early : goal.returns-clause-early
returns-clause-early g c fault kind = absurd (true≢false (ap is_ok (c.in_ok-notify.ensures.early fault kind)))

pub returns-in_err-notify-clause-exact : goal.returns-in_err-notify-clause-exact
returns-in_err-notify-clause-exact g c =
    let p = err_from_is_err_and c.from_residual.result c.from_residual.ensures.1 in
    rw (p.1, p.2) (unread c.args.config.now c.args.bytes.now (message_at c.args.bytes.now) (server_at c.args.config.now.servers c.args.from) {X = ℕ × MapNotify g.row.A.Denot} (λ x. record { server = x.0; message = x.1 }) c.in_err-notify.field-0.0 c.in_err-notify.ensures.exact)

pub returns-then-notify-config-clause-exact : goal.returns-then-notify-config-clause-exact
returns-then-notify-config-clause-exact g c =
    let config = c.config.view_is in
    let its = found c.args.from c.in-Some.server (c.as_slice.ensures ∙ ap (λ (s : EtrConfigValue). s.servers) config) c.in-Some.ensures in
    let own = ap (λ (m : MapNotifyValue). m.key_id) c.notify.view_is in
    wrong_key c.args.config.now c.args.bytes.now (message_at c.args.bytes.now) (server_at c.args.config.now.servers c.args.from) c.in_ok-notify.notify c.in_ok-notify.ensures.exact c.in-Some.server its
    (λ same. c.if-notify-config.true (own ∙ same ∙ sym (ap (λ (s : EtrConfigValue). s.key_id) config)))

pub returns-then-not-authentic_under-clause-exact : goal.returns-then-not-authentic_under-clause-exact
returns-then-not-authentic_under-clause-exact g c =
    let config = c.config.view_is in
    let its = found c.args.from c.in-Some.server (c.as_slice.ensures ∙ ap (λ (s : EtrConfigValue). s.servers) config) c.in-Some.ensures in
    let key = sym (ap (λ (m : MapNotifyValue). m.key_id) c.notify.view_is) ∙ c.if-notify-config.false ∙ ap (λ (s : EtrConfigValue). s.key_id) config in
    let secret = ap (λ (s : EtrConfigValue). s.secret) config in
    bad_auth c.args.config.now c.args.bytes.now (message_at c.args.bytes.now) (server_at c.args.config.now.servers c.args.from) c.in_ok-notify.notify c.in_ok-notify.ensures.exact c.in-Some.server its key
    (ap (is_authentic c.args.bytes.now) (sym secret) ∙ sym c.authentic_under.ensures.test ∙ c.if-not-authentic_under.true)

pub returns-clause-exact : goal.returns-clause-exact
returns-clause-exact g c =
    let config = c.config.view_is in
    let its = found c.args.from c.in-Some.server (c.as_slice.ensures ∙ ap (λ (s : EtrConfigValue). s.servers) config) c.in-Some.ensures in
    let key = sym (ap (λ (m : MapNotifyValue). m.key_id) c.notify.view_is) ∙ c.if-notify-config.false ∙ ap (λ (s : EtrConfigValue). s.key_id) config in
    let secret = ap (λ (s : EtrConfigValue). s.secret) config in
    passes c.args.config.now c.args.bytes.now (message_at c.args.bytes.now) (server_at c.args.config.now.servers c.args.from) c.in_ok-notify.notify c.in_ok-notify.ensures.exact c.in-Some.server its key
    (ap (is_authentic c.args.bytes.now) (sym secret) ∙ sym c.authentic_under.ensures.test ∙ c.if-not-authentic_under.false)

pub returns-clause-server : goal.returns-clause-server
returns-clause-server g c =
    let place = position-Some (λ server. addr_eq server c.args.from) c.as_slice.result.now c.in-Some.server c.args.from (sym c.in-Some.ensures) in
    rw (← c.config.view_is) (subst (λ (servers : List Addr). c.in-Some.server < length servers) c.as_slice.ensures place.0)

pub returns-then-not-authentic_under-clause-memory : goal.returns-then-not-authentic_under-clause-memory
returns-then-not-authentic_under-clause-memory g c = not_out _ refl

pub returns-clause-memory : goal.returns-clause-memory
returns-clause-memory g c = not_out _ refl

pub returns-clause-key : goal.returns-clause-key
returns-clause-key g c = ap (λ (m : MapNotifyValue). m.key_id) (sym c.notify.view_is) ∙ c.if-notify-config.false ∙ ap (λ (s : EtrConfigValue). s.key_id) c.config.view_is

pub returns-then-notify-config-clause-memory : goal.returns-then-notify-config-clause-memory
returns-then-notify-config-clause-memory g c = not_out _ refl

pub returns-in_default-clause-memory : goal.returns-in_default-clause-memory
returns-in_default-clause-memory g c = not_out _ refl

pub returns-in_default-clause-exact : goal.returns-in_default-clause-exact
returns-in_default-clause-exact g c = not_mine c.args.config.now c.args.bytes.now (message_at c.args.bytes.now) (server_at c.args.config.now.servers c.args.from) c.in_ok-notify.notify c.in_ok-notify.ensures.exact
    (missed c.args.from (c.as_slice.ensures ∙ ap (λ (s : EtrConfigValue). s.servers) c.config.view_is) (sym c.server_at.ensures ∙ c.in_default.is))
