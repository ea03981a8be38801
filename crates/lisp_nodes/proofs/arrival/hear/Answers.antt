use Rattle.std.proofs.Common.{ℕ, ◌-◌, ◌<◌, List, length, get_or, ◌++◌, arith, inl, inr, sym, subst, ap, ◌∙◌}
use Rattle.std.proofs.lemmas.Option.{slice_get-get_or}
use Rattle.std.specs.Prelude.{slice_get, slice_set}
use borrow.Author.Rules.{scaled_Fits}
use Rattle.lisp_refinement.specs.Calls.{NodeReceives}
use Rattle.lisp_refinement.specs.Events.{address_of, datagram_to, server_line}
use Rattle.lisp_refinement.specs.World.{ServerNodeState, RouterNodeState}
use Rattle.lisp_nodes.proofs.arrival.hear.Goals as goal

pub returns-then-node-servers-clause-hears : goal.returns-then-node-servers-clause-hears
returns-then-node-servers-clause-hears g c = λ w servers routers clock next.
    let place = c.args.node - length c.args.servers.now in
    let within : place < length c.args.routers.now = omega (arith, c.requires, c.if-node-servers.true) in
    let more = datagram_to (address_of w c.args.node) c.args.how.from c.router_hears.result.1 in
    inr (record {
      more = more;
      acts = record {
        place = place;
        number = let long = ap length servers in omega (arith, long, c.if-node-servers.true);
        before = get_or c.args.routers.now place c.index-routers-node.result;
        after = c.router_hears.new.router;
        was = ap (λ (nodes : List RouterNodeState). slice_get nodes place) routers ∙ slice_get-get_or _ _ _ within;
        left = λ i. record w { bag = w.bag ++ more; servers = sym servers i; routers = slice_set (sym routers i) place c.router_hears.new.router };
      };
      hears = c.router_hears.ensures.hears w next;
    })

pub returns-clause-hears : goal.returns-clause-hears
returns-clause-hears g c = λ w servers routers clock next.
    let before = get_or c.args.servers.now c.args.node c.index-servers-node.result in
    let after = c.server_hears.new.server in
    let how = c.args.how in
    let heard = c.server_hears.ensures.hears in
    inl (record {
      answer = heard.0;
      acts = record {
        before = before;
        after = after;
        was = ap (λ (nodes : List ServerNodeState). slice_get nodes c.args.node) servers ∙ slice_get-get_or _ _ _ c.if-node-servers.false;
        left = λ i. record w {
          bag = w.bag ++ sym (heard.3 (address_of w c.args.node) how.from) i;
          servers = slice_set (sym servers i) c.args.node after;
          routers = sym routers i;
        };
      };
      receives = subst (λ (now : ℕ). NodeReceives before after how.fate how.from c.args.bytes.now now heard.0) (sym clock) heard.1;
      said = heard.2 ∙ ap (λ (number : ℕ). server_line c.args.node number heard.0) (sym next);
    })

pub overflow_sub-node : goal.overflow_sub-node
overflow_sub-node g c = c.if-node-servers.true

-- a node's size is a long term, over which a search takes seconds: where it stands, the lemma and its facts are named
pub offset_bounds-routers-node : goal.offset_bounds-routers-node
offset_bounds-routers-node g c =
    let within : c.args.node - length c.args.servers.now < length c.args.routers.now = omega (arith, c.requires, c.if-node-servers.true) in
    scaled_Fits _ (length c.args.routers.now) _ within c.well_formed.1.0.1

pub bounds-routers-node : goal.bounds-routers-node
bounds-routers-node g c = omega (arith, c.requires, c.if-node-servers.true)

pub returns-then-node-servers-clause-tells : goal.returns-then-node-servers-clause-tells
returns-then-node-servers-clause-tells g c = c.router_hears.ensures.tells

pub offset_bounds-servers-node : goal.offset_bounds-servers-node
offset_bounds-servers-node g c = scaled_Fits _ (length c.args.servers.now) _ c.if-node-servers.false c.well_formed.0.1

pub bounds-servers-node : goal.bounds-servers-node
bounds-servers-node g c = c.if-node-servers.false

pub returns-clause-tells : goal.returns-clause-tells
returns-clause-tells g c = c.server_hears.ensures.tells
