-- The plan starts from the machine.
use Rattle.zy_search.proofs.search.search.Goals as goal

pub returns-clause-answer : goal.returns-clause-answer
returns-clause-answer g c =
    let plan = c.in_ok-plan.ensures in
    rw (plan.start, plan.sought) at c.report-report.ensures.answer

pub returns-clause-due : goal.returns-clause-due
returns-clause-due g c =
    let plan = c.in_ok-plan.ensures in
    rw (plan.start, plan.sought, plan.most) at c.report-report.ensures.due
