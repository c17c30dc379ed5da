-- `script::carry` meets its contract. Assumes nothing.
use Rattle.std.proofs.Common.{◌≡◌, refl, ap, ◌∙◌}
use Rattle.system.specs.Answers.{SystemOutcome}
use Rattle.calls.specs.declared.Call.{Call}
use Rattle.sched.proofs.Laws.{by-stores}
use Rattle.host.specs.Step.{step}
use Rattle.script.specs.Script.{carried}
use Rattle.script.proofs.Turn.{frame-stands}
use Rattle.script.proofs.carry.Goals as goal

pub returns-in-Refuse-clause-carried : goal.returns-in-Refuse-clause-carried
unfolding carried
returns-in-Refuse-clause-carried c = rw c.in-Refuse.is refl

pub returns-in-Build-clause-carried : goal.returns-in-Build-clause-carried
unfolding carried
returns-in-Build-clause-carried c = rw c.in-Build.is c.build-told.ensures

-- a request in the system's own frame is the call
pub returns-in-Call-Ask : goal.returns-in-Call-Ask
unfolding carried step
returns-in-Call-Ask c =
    let h = c.args.host.now in
    let k = c.in-Call-Ask in
    let call : k.field-0 ≡ Call.Ask k.dom k.vcpu k.request = rw k.is at k.field-0-is in
    let asked = rw c.requires.known at c.request_in_place-answer.ensures ∙ by-stores h.system k.dom k.vcpu k.request in
    let did =
    ap (λ (o : SystemOutcome). record { number = o.number; host = record { system = o.system; scheduler = h.scheduler }; count = 0 })
    asked in
    record {
      carried = rw (k.is, call) did;
      framed = frame-stands h c.requires (Call.Ask k.dom k.vcpu k.request) _ did;
    }

pub returns-in-Call : goal.returns-in-Call
unfolding carried
returns-in-Call c =
    let did = c.step.ensures.stepped in
    record {
      carried = rw c.in-Call.is did;
      framed = frame-stands c.args.host.now c.requires c.in-Call.call _ did;
    }
