-- The report has the answer that was found.
use Rattle.std.proofs.Common.{subst, sym}
use Rattle.zy_search.specs.Searches.{IsAnswer, IsDue}
use Rattle.zy_search.proofs.search.report_from.Goals as goal

pub returns-clause-answer : goal.returns-clause-answer
returns-clause-answer g c =
    let plan = c.args.plan.now in
    subst (IsAnswer plan.start plan.sought) (sym c.report_of.ensures) c.in_ok-answer.ensures.answer

pub returns-clause-due : goal.returns-clause-due
returns-clause-due g c =
    let plan = c.args.plan.now in
    subst (IsDue plan.start plan.sought plan.most) (sym c.report_of.ensures) c.in_ok-answer.ensures.due
