-- What is answered of the plan is answered of the lines.
use Rattle.std.proofs.Common.{subst}
use Rattle.std.proofs.lemmas.Result.{IfOk-weaker}
use Rattle.zy_order.specs.declared.end.End.{End}
use Rattle.zy_order.specs.declared.answer.OrderReport.{OrderReport}
use Rattle.zy_order.specs.Answers.{IsAnswer}
use Rattle.zy_order.specs.Reaches.{AnswersFor}
use Rattle.zy_order.proofs.AnswerLemmas.{answers}
use Rattle.zy_order.proofs.order.order.Goals as goal

pub returns : goal.returns
returns g c =
    let p = c.in_ok-plan.plan in
    IfOk-weaker c.report-report.result (λ (r : OrderReport). AnswersFor p r.answer) (λ (r : OrderReport). IsAnswer c.args.start.now c.args.lines.now c.args.gaps c.args.end r.answer)
    (λ r a.
    subst (λ (e : End). IsAnswer c.args.start.now c.args.lines.now c.args.gaps e r.answer) c.in_ok-plan.ensures.end
    (answers p c.args.start.now c.args.lines.now c.args.gaps r.answer c.in_ok-plan.ensures.start c.in_ok-plan.ensures.logs c.in_ok-plan.ensures.plan a))
    c.report-report.ensures
