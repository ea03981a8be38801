use Rattle.std.proofs.Common.{◌≡◌, ◌<◌, ℕ, List, [], ◌∷◌, ◌++◌, length, map, take, get_or, append-nil, arith, sym, ap, ◌∙◌}
use Rattle.std.proofs.Math.Seq.{take-length}
use Rattle.lisp_policy.specs.Configuration.{ServerEntryValue, RouterEntryValue}
use Rattle.lisp_sites.proofs.Mapped.{more_mapped}
use Rattle.lisp_sites.proofs.config.Config.addresses.Goals as goal

pub loop-server-preserved : goal.loop-server-preserved
loop-server-preserved g c =
    let same = c.servers-server-items.ensures in
    let low : c.loop-server.server-index < length c.args.self.now.servers = (let long = ap length same in omega (arith, c.loop-server-test.true, long)) in
    more_mapped [] (λ s. s.address) c.args.self.now.servers _ _ c.loop-server.server-index c.server-item.result low
    (c.server-item.is ∙ ap (λ (l : List ServerEntryValue). get_or l c.loop-server.server-index c.server-item.result) same) c.loop-server.invariant
    (c.in_ok-try_push.ensures.items ∙ ap (λ (s : ServerEntryValue). c.loop-server.addresses.items ++ s.address ∷ []) c.server.view_is)

pub loop-router-preserved : goal.loop-router-preserved
loop-router-preserved g c =
    let same = c.routers-router-items.ensures.routers in
    let low : c.loop-router.router-index < length c.args.self.now.routers = (let long = ap length same in omega (arith, c.loop-router-test.true, long)) in
    more_mapped _ (λ r. r.address) c.args.self.now.routers _ _ c.loop-router.router-index c.router-item.result low
    (c.router-item.is ∙ ap (λ (l : List RouterEntryValue). get_or l c.loop-router.router-index c.router-item.result) same) c.loop-router.invariant
    (c.in_ok-try_push-2.ensures.items ∙ ap (λ (r : RouterEntryValue). c.loop-router.addresses.items ++ r.address ∷ []) c.router.view_is)

pub loop-router-init : goal.loop-router-init
loop-router-init g c =
    let servers = c.args.self.now.servers in
    let long = ap length c.servers-server-items.ensures in
    let all : c.loop-server.server-index ≡ length servers = omega (arith, long, c.loop-server-test.false, c.loop-server.auto.server-index-end) in
    c.loop-server.invariant ∙ ap (λ (n : ℕ). map (λ (s : ServerEntryValue). s.address) (take n servers)) all
    ∙ ap (map (λ (s : ServerEntryValue). s.address)) (take-length servers) ∙ sym (append-nil _)
