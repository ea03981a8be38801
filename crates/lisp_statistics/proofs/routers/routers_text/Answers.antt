use Rattle.std.proofs.Common.{ℕ, ◌≡◌, List, ap, refl, ◌∙◌}
use Rattle.std.specs.List.{flat_map}
use Rattle.std.specs.String.{string_bytes}
use Rattle.lisp_records.specs.declared.router.RouterId.{RouterId}
use Rattle.lisp_statistics.specs.declared.hearing.Hearing.{Hearing}
use Rattle.lisp_lines.specs.Name.{node_name}
use Rattle.lisp_statistics.specs.Routers.{counted_text, heard_text, router_text, routers_head, routers_lines}
use Rattle.lisp_statistics.proofs.Counting.{routers_and_unheard}
use Rattle.lisp_statistics.proofs.routers.routers_text.Goals as goal

pub returns-clause-text : goal.returns-clause-text
returns-clause-text g c =
    let heard = c.args.statistics.now.heard.entries in
    let head = routers_head (node_name c.args.config.now c.args.number) (routers_lines c.args.config.now c.args.number heard c.args.runs.now) in
    let first : string_bytes c.in_ok-text.text ≡ head
    = c.in_ok-text.ensures.text ∙ (λ i. routers_head (c.node_name-name.ensures i) (c.count_lines.ensures i)) in
    routers_and_unheard _ _ _ head _ _ _ c.in_ok-put_unheard.ensures.text c.in_ok-put_routers.ensures.text first refl

pub returns-clause-rows : goal.returns-clause-rows
returns-clause-rows g c = λ counted counts.
    let heard = c.args.statistics.now.heard.entries in
    let head = routers_head (node_name c.args.config.now c.args.number) (routers_lines c.args.config.now c.args.number heard c.args.runs.now) in
    let routers = flat_map (heard_text c.args.config.now c.args.now counted) heard in
    let lines : flat_map (counted_text c.args.config.now c.args.now c.args.rows.now.routers) heard ≡ routers
    = ap (λ (shown : RouterId × Hearing → List ℕ). flat_map shown heard) (λ i h. router_text c.args.config.now c.args.now h.0 h.1 (counts h.0 i)) in
    let first : string_bytes c.in_ok-text.text ≡ head
    = c.in_ok-text.ensures.text ∙ (λ i. routers_head (c.node_name-name.ensures i) (c.count_lines.ensures i)) in
    routers_and_unheard _ _ _ head routers _ _ c.in_ok-put_unheard.ensures.text c.in_ok-put_routers.ensures.text first lines
