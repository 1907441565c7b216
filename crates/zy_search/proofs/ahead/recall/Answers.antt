use Rattle.std.proofs.Common.{◌∙◌, sym}
use Rattle.std.proofs.Math.Bool.{false≢true}
use Rattle.zy_search.proofs.ReachedLemmas.{remembered_leads}
use Rattle.zy_search.proofs.ahead.recall.Goals as goal

pub returns-clause-leads : goal.returns-clause-leads
returns-clause-leads c =
    let turn = c.args.turn in
    remembered_leads c.args.plan.now c.args.reached.now c.requires.informed turn.branch c.requires.there turn.choice c.requires.choice c.in-Some.step.now
    c.as_slice-here.result.now _ (rw c.as_slice-here.ensures.value c.requires.here) (λ moved. c.in_ok-follow.ensures) c.in-Some.ensures

pub returns-then-is_still-clause-leads : goal.returns-then-is_still-clause-leads
returns-then-is_still-clause-leads c =
    let turn = c.args.turn in
    remembered_leads c.args.plan.now c.args.reached.now c.requires.informed turn.branch c.requires.there turn.choice c.requires.choice c.in-Some.step.now
    c.as_slice-here.result.now _ (rw c.as_slice-here.ensures.value c.requires.here) (λ moved. absurd (false≢true (sym moved ∙ (sym c.is_still.ensures ∙ c.if-is_still.true))))
    c.in-Some.ensures
