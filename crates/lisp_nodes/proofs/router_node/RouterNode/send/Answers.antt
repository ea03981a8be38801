use Rattle.std.proofs.Common.{List, ℕ, ap, refl, sym, subst, ◌∙◌, Err}
use Rattle.lisp_nonces.specs.Kept.{NoneBelow, kept_at}
use Rattle.lisp_etr.specs.{Config.sent_pair, Etr.EtrState}
use Rattle.lisp_refinement.specs.{Calls.CoreAnswersSend, Events.place_of}
use Rattle.lisp_nodes.specs.Cores.{core_of}
use Rattle.lisp_nodes.proofs.NodeCalls.{server_there, part_there, nonce_left, why_not_sent}
use Rattle.lisp_nodes.proofs.router_node.RouterNode.send.Goals.{in-Ok, in-Err}
use Rattle.lisp_nodes.proofs.router_node.RouterNode.send.Goals as goal

pub returns-clause-up : goal.returns-clause-up
returns-clause-up g c =
    rw (← c.self.view_is)
    (record {
      etr = c.in-Up.etr;
      was = ap core_of c.in-Up.is;
      left = c.send-answer.new.self;
      is = refl;
      call = record {
        armed = g.S.NonceStore.seen c.arm.new.store;
        called = g.S.NonceStore.seen c.send-answer.new.store;
        uses = record { arms = c.arm.ensures; proceeds = c.send-answer.ensures.store.proceeds; disarms = c.arm-2.ensures };
        call = subst (λ (place : ℕ). CoreAnswersSend c.in-Up.etr c.send-answer.new.self (g.S.NonceStore.seen c.arm.new.store) (g.S.NonceStore.seen c.send-answer.new.store) place c.args.part c.args.now c.match-answer.result)
            (c.place_of-place.ensures ∙ ap (λ (listed : List ℕ). place_of listed c.args.server) c.as_slice.ensures)
            (elim c.match-answer.branch [
              | in-Ok w ↦ let there = server_there c.send-answer.result _ _ (λ clash. absurd (let both = sym w.in-Ok.is ∙ clash in cc)) c.send-answer.ensures.no_server in
                  let its = part_there c.send-answer.result _ _ _ _ (λ clash. absurd (let both = sym w.in-Ok.is ∙ clash in cc)) there c.send-answer.ensures.no_part in
                  rw w.result-is (record {
                    within = there;
                    there = its;
                    fits = w.in-Ok.ensures.fits;
                    left = nonce_left c.send-answer.result _ _ _ _ _ (λ clash. absurd (let both = sym w.in-Ok.is ∙ clash in cc)) there its c.send-answer.ensures.spent;
                    datagram = w.from_vec.ensures ∙ w.in-Ok.ensures.datagram;
                    known = w.in-Ok.ensures.known;
                    sends = w.in-Ok.ensures.sends;
                    safe = w.in-Ok.ensures.store.safe;
                    keeps_safe = c.send-answer.ensures.store.keeps_safe;
                    settles = w.in-Ok.ensures.store.settles;
                    unasked = c.send-answer.ensures.store.unasked;
                    saves = w.in-Ok.ensures.store.saves;
                    others = c.send-answer.ensures.store.others;
                  })
              | in-Err w ↦ rw w.result-is (record {
                why = why_not_sent _ c.in-Up.etr c.place_of-place.result c.args.part _ w.in-Err.ensures.no_server w.in-Err.ensures.no_part w.in-Err.ensures.spent;
                err = w.in-Err.ensures.err;
                keeps_safe = λ honest none. subst (λ (e : EtrState). NoneBelow e.safe (kept_at (g.S.NonceStore.seen c.send-answer.new.store).kept (sent_pair c.in-Up.etr.config))) w.in-Err.ensures.err (c.send-answer.ensures.store.keeps_safe honest none);
                leaves = w.in-Err.ensures.store.leaves;
                others = c.send-answer.ensures.store.others;
                refused = w.in-Err.ensures.store.refused;
                cause = λ e. w.in-Err.ensures.store.cause (ap Err e);
                sound = λ e. w.in-Err.ensures.store.sound (ap Err e);
                save_fails = λ e. w.in-Err.ensures.store.save_fails (ap Err e);
                doubted = λ e. w.in-Err.ensures.store.doubted (ap Err e);
              })
            ]);
      };
    })
