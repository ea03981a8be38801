use Rattle.std.proofs.Common.{Some, IfOk, sym, ap, ◌∙◌, subst}
use Rattle.lisp_captures.specs.Capture.{GivesStep, Step}
use Rattle.lisp_captures.specs.CaptureValue.{CaptureValue}
use Rattle.lisp_captures.proofs.Steps.{blocks, records}
use Rattle.lisp_captures.proofs.capture.Capture.step.Goals as goal

pub returns-in-Pcap-clause-step : goal.returns-in-Pcap-clause-step
returns-in-Pcap-clause-step g c =
    let is = ap (λ (v : CaptureValue). v.format) (sym c.self.view_is) ∙ c.in-Pcap.is in
    subst (λ (s : Step). GivesStep c.record.new.self s (Some c.record.result)) (sym (records c.args.self.now c.in-Pcap.interface is)) c.record.ensures

pub returns-in-Pcapng-clause-step : goal.returns-in-Pcapng-clause-step
returns-in-Pcapng-clause-step g c =
    let is = ap (λ (v : CaptureValue). v.format) (sym c.self.view_is) ∙ c.in-Pcapng.is in
    subst (λ (s : Step). IfOk c.block.result (GivesStep c.block.new.self s)) (sym (blocks c.args.self.now is)) c.block.ensures.step
