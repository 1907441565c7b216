-- The trace is that of the machine's scenario.
use Rattle.std.proofs.Common.{◌∙◌, Ok, Err, subst, ap}
use Rattle.zy_io.specs.Writing.{Wrote}
use Rattle.zy_isa.specs.Scenario.{Scenario}
use Rattle.zy_machine.specs.Histories.{History}
use Rattle.zy_trace.specs.Steps.{ran}
use Rattle.zy_trace.specs.Trace.{trace}
use Rattle.zy_trace.proofs.trace.write_trace.Goals as goal

pub returns-in-Err : goal.returns-in-Err
returns-in-Err g c =
    let Text : Scenario → Type 0 = λ sc. Wrote (g.K.Sink.sent c.args.sink.now) (g.K.Sink.sent c.write_run.new.sink) {X = Unit {0}} (Err c.in-Err.fault) (trace sc) in
    record { wrote = subst Text (ap (λ (h : History). h.scenario) c.in_ok-machine.ensures) c.in-Err.ensures.wrote; machine = tt }

pub returns-in-Ok : goal.returns-in-Ok
returns-in-Ok g c =
    let Text : Scenario → Type 0 = λ sc. Wrote (g.K.Sink.sent c.args.sink.now) (g.K.Sink.sent c.write_run.new.sink) {X = Unit {0}} (Ok c.in-Ok.field-0) (trace sc) in
    record {
      wrote = subst Text (ap (λ (h : History). h.scenario) c.in_ok-machine.ensures) c.in-Ok.ensures.wrote;
      machine = c.in-Ok.ensures.made ∙ ap (λ (h : History). ran h.scenario h.scenario.choices) c.in_ok-machine.ensures;
    }
