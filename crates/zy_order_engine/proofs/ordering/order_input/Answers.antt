-- What is answered of the scenario and the logs is answered of the input.
use Rattle.std.proofs.Common.{List, Ok, Err, ap, subst, sym}
use Rattle.std.proofs.lemmas.Result.{err_from_is_err_and}
use Rattle.zy_isa.specs.Scenario.{Scenario}
use Rattle.zy_text.specs.Cut.{cut}
use Rattle.zy_text.specs.Text.{Means}
use Rattle.zy_logs.specs.declared.logs.NumberedLine.{NumberedLine}
use Rattle.zy_machine.specs.Histories.{History}
use Rattle.zy_engine.specs.declared.faults.BenchFault.TheVariants.{Memory}
use Rattle.zy_engine.specs.Inputs.{IsTextFault}
use Rattle.zy_order_engine.specs.declared.ordering.OrderedLogs.{OrderedLogs}
use Rattle.zy_order_engine.specs.Ordering.{CanFollow, IsAnswerOf, WroteOrder}
use Rattle.zy_order_engine.proofs.BelowLemmas.{can_follow, reads_cut}
use Rattle.zy_order_engine.proofs.AnswerLemmas.{refused_text, refused_below, wrote_to, failed_to}
use Rattle.zy_order_engine.proofs.TakenLemmas.{ran_own}
use Rattle.zy_order_engine.proofs.ordering.order_input.Goals as goal

pub order_from-requires-clause-ran : goal.order_from-requires-clause-ran
order_from-requires-clause-ran g c = ran_own _ c.in_ok-scenario.scenario c.in_ok-machine.ensures.run

pub order_from-requires-clause-input : goal.order_from-requires-clause-input
order_from-requires-clause-input g c =
    let text = c.split_scenario.result.0.now in
    rw c.deref.ensures.value (subst (λ (h : History). CanFollow h c.args.options.gap c.in_ok-lines.lines.items) (sym c.in_ok-machine.ensures.run)
    (can_follow c.args.options.logs c.args.options.gap text c.split_scenario.result.1.now c.in_ok-scenario.scenario c.in_ok-lines.lines.items
    c.in_ok-scenario.ensures.accepted.stands.0 c.in_ok-lines.ensures))

pub returns-in_err-scenario-clause-answers : goal.returns-in_err-scenario-clause-answers
returns-in_err-scenario-clause-answers g c =
    let input = c.args.input.now in
    let text = c.split_scenario.ensures.part in
    let fault = c.in_err-scenario.field-0.0 in
    let p = err_from_is_err_and c.from_residual.result c.from_residual.ensures.1 in
    rw (p.1, p.2) (
    refused_text c.args.options input (g.K.Sink.sent c.args.sink.now) fault
    (subst (λ t. IsTextFault t fault) text c.in_err-scenario.ensures.fault)
    )

pub returns-in_err-lines-clause-answers : goal.returns-in_err-lines-clause-answers
returns-in_err-lines-clause-answers g c =
    let input = c.args.input.now in
    let sc = c.in_ok-scenario.scenario in
    let text = c.split_scenario.ensures.part in
    let under = c.split_scenario.ensures.below in
    let fault = c.in_err-lines.field-0.0 in
    let p = err_from_is_err_and c.from_residual-in_err-lines.result c.from_residual-in_err-lines.ensures.1 in
    rw (p.1, p.2) (
    refused_below c.args.options input (g.K.Sink.sent c.args.sink.now) sc
    (subst (λ t. Means t sc) text c.in_ok-scenario.ensures.accepted.stands) fault (reads_cut c.args.options.logs c.args.options.gap input c.split_scenario.result.0.now c.split_scenario.result.1.now sc (Err fault) text under c.in_err-lines.ensures)
    )

pub returns-in_err-machine-clause-answers : goal.returns-in_err-machine-clause-answers
returns-in_err-machine-clause-answers g c =
    let p = err_from_is_err_and c.from_residual-in_err-machine.result c.from_residual-in_err-machine.ensures.1 in
    rw (p.1, p.2, c.in_err-machine.ensures.fault) (
    refused_text c.args.options c.args.input.now (g.K.Sink.sent c.args.sink.now) Memory tt
    )

pub returns-in-Ok-clause-answers : goal.returns-in-Ok-clause-answers
returns-in-Ok-clause-answers g c =
    let input = c.args.input.now in
    let sc = c.in_ok-scenario.scenario in
    let text = c.split_scenario.ensures.part in
    let under = c.split_scenario.ensures.below in
    let means = subst (λ t. Means t sc) text c.in_ok-scenario.ensures.accepted.stands in
    let says = reads_cut c.args.options.logs c.args.options.gap input c.split_scenario.result.0.now c.split_scenario.result.1.now sc (Ok c.in_ok-lines.lines) text under c.in_ok-lines.ensures in
    let old = g.K.Sink.sent c.args.sink.now in
    let new = g.K.Sink.sent c.order_from.new.sink in
    let ordered : OrderedLogs = record { report = c.in-Ok.report; machine = c.in_ok-machine.machine; lines = c.in_ok-lines.lines } in
    wrote_to c.args.options input old sc c.in_ok-lines.lines.items means says new ordered
    (subst (λ (ls : List NumberedLine). WroteOrder (IsAnswerOf c.args.options sc ls) old new (Ok c.in-Ok.report)) c.deref.ensures.value
    (subst (λ (s : Scenario). WroteOrder (IsAnswerOf c.args.options s c.deref.result.now) old new (Ok c.in-Ok.report))
    (ap (λ (h : History). h.scenario) c.in_ok-machine.ensures.run) c.in-Ok.ensures))

pub returns-in-Ok-clause-run : goal.returns-in-Ok-clause-run
returns-in-Ok-clause-run g c =
    let sc = c.in_ok-scenario.scenario in
    let same = ap (λ (h : History). h.scenario) c.in_ok-machine.ensures.run in
    record {
      means = subst (Means (cut c.args.input.now)) (sym same) (subst (λ t. Means t sc) c.split_scenario.ensures.part c.in_ok-scenario.ensures.accepted.stands);
      ran = ran_own _ sc c.in_ok-machine.ensures.run;
    }

pub returns-in-Err-clause-answers : goal.returns-in-Err-clause-answers
returns-in-Err-clause-answers g c =
    let input = c.args.input.now in
    let sc = c.in_ok-scenario.scenario in
    let text = c.split_scenario.ensures.part in
    let under = c.split_scenario.ensures.below in
    let means = subst (λ t. Means t sc) text c.in_ok-scenario.ensures.accepted.stands in
    let says = reads_cut c.args.options.logs c.args.options.gap input c.split_scenario.result.0.now c.split_scenario.result.1.now sc (Ok c.in_ok-lines.lines) text under c.in_ok-lines.ensures in
    let old = g.K.Sink.sent c.args.sink.now in
    let new = g.K.Sink.sent c.order_from.new.sink in
    let fault = c.in-Err.fault in
    rw c.from.ensures (
    failed_to c.args.options input old sc c.in_ok-lines.lines.items means says new fault
    (subst (λ (ls : List NumberedLine). WroteOrder (IsAnswerOf c.args.options sc ls) old new (Err fault)) c.deref.ensures.value
    (subst (λ (s : Scenario). WroteOrder (IsAnswerOf c.args.options s c.deref.result.now) old new (Err fault))
    (ap (λ (h : History). h.scenario) c.in_ok-machine.ensures.run) c.in-Err.ensures))
    )
