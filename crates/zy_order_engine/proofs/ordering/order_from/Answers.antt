-- The answer is that of the search; where there was no memory for it, nothing went out.
use Rattle.std.proofs.Common.{◌∙◌, List, inl, refl, subst}
use Rattle.std.proofs.lemmas.Result.{err_from_is_err_and}
use Rattle.zy_logs.specs.declared.log_line.LogLine.{LogLine}
use Rattle.zy_machine.specs.Histories.{History}
use Rattle.zy_order.specs.Answers.{IsAnswer}
use Rattle.zy_logs.specs.Logs.{steps}
use Rattle.zy_order_engine.proofs.MissingLemmas.{input_is}
use Rattle.zy_order_engine.proofs.AnswerLemmas.{wrote_failed}
use Rattle.zy_order_engine.proofs.ordering.order_from.Goals as goal

pub order-requires : goal.order-requires
order-requires g c =
    rw (c.deref.ensures.value, c.in_ok-steps.ensures) (input_is c.args.run.machine.now c.args.options.gap c.args.run.lines.now c.in_ok-gaps.gaps
    c.requires.input c.in_ok-gaps.ensures)

pub write_answer-requires-clause-ran : goal.write_answer-requires-clause-ran
write_answer-requires-clause-ran g c = c.requires.ran

pub returns-in_err-steps : goal.returns-in_err-steps
returns-in_err-steps g c =
    let p = err_from_is_err_and c.from_residual.result c.from_residual.ensures.1 in
    rw (p.1, p.2) (inl refl, refl)

pub returns-in_err-gaps : goal.returns-in_err-gaps
returns-in_err-gaps g c =
    let p = err_from_is_err_and c.from_residual-in_err-gaps.result c.from_residual-in_err-gaps.ensures.1 in
    rw (p.1, p.2) (inl refl, refl)

pub returns-in_err-report : goal.returns-in_err-report
returns-in_err-report g c =
    let p = err_from_is_err_and c.from_residual-in_err-report.result c.from_residual-in_err-report.ensures.1 in
    rw (p.1, p.2) (inl refl, refl)

pub returns-in_err-write_answer : goal.returns-in_err-write_answer
returns-in_err-write_answer g c =
    let old = g.K.Sink.sent c.args.sink.now in
    let new = g.K.Sink.sent c.write_answer.new.sink in
    let o = c.args.options in
    let numbered = c.args.run.lines.now in
    let gaps = c.in_ok-gaps.gaps in
    let a = c.in_ok-report.report.answer in
    let fault = c.in_err-write_answer.field-0.0 in
    let lines = c.deref.ensures.value ∙ c.in_ok-steps.ensures in
    let is = subst (λ (h : History). IsAnswer h (steps numbered) gaps o.end a) c.requires.ran
    (subst (λ (ls : List LogLine). IsAnswer c.args.run.machine.now ls gaps o.end a) lines c.in_ok-report.ensures) in
    let wrote = c.in_err-write_answer.ensures in
    let p = err_from_is_err_and c.from_residual-in_err-write_answer.result c.from_residual-in_err-write_answer.ensures.1 in
    rw (p.1, p.2) (wrote_failed o c.args.run.machine.now.scenario numbered gaps a old new fault c.in_ok-gaps.ensures is wrote)

pub returns : goal.returns
returns g c =
    let old = g.K.Sink.sent c.args.sink.now in
    let new = g.K.Sink.sent c.write_answer.new.sink in
    let o = c.args.options in
    let numbered = c.args.run.lines.now in
    let gaps = c.in_ok-gaps.gaps in
    let a = c.in_ok-report.report.answer in
    let lines = c.deref.ensures.value ∙ c.in_ok-steps.ensures in
    let is = subst (λ (h : History). IsAnswer h (steps numbered) gaps o.end a) c.requires.ran
    (subst (λ (ls : List LogLine). IsAnswer c.args.run.machine.now ls gaps o.end a) lines c.in_ok-report.ensures) in
    let wrote = c.in_ok-write_answer.ensures in (
      (
        wrote.text,
        record { gaps = gaps; are = c.in_ok-gaps.ensures; answer = is; is = wrote.is },
        wrote.wrote.0,
      ),
      wrote.wrote.1,
    )
