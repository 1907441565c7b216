use Rattle.std.proofs.Common.{◌∙◌, arith, sym}
use Rattle.std.proofs.lemmas.Grind.{common_steps}
use Rattle.zy_search.specs.Visits.{states_of, state_by}
use Rattle.zy_search.proofs.AheadLemmas.{still_known}
use Rattle.zy_search.proofs.ReachedLemmas.{known_by}
use Rattle.zy_search.proofs.ahead.successor_of.Goals as goal

pub returns-then-rests-clause-successor : goal.returns-then-rests-clause-successor
returns-then-rests-clause-successor c =
    still_known c.args.plan.now c.args.reached.now.tree c.args.turn.branch c.requires.there (c.rests.ensures c.if-rests.true)

pub returns-then-is_still-clause-successor : goal.returns-then-is_still-clause-successor
returns-then-is_still-clause-successor c =
    let leads = rw c.in-Some.is at c.in_ok-outcome.ensures.leads in
    still_known c.args.plan.now c.args.reached.now.tree c.args.turn.branch c.requires.there (sym leads.still ∙ (sym c.is_still.ensures ∙ c.if-is_still.true))

pub returns-in-Some-find-clause-successor : goal.returns-in-Some-find-clause-successor
returns-in-Some-find-clause-successor c =
    let p = c.args.plan.now in
    let x = c.args.reached.now in
    let leads = rw c.in-Some.is at c.in_ok-outcome.ensures.leads in
    let sc = p.start.scenario in
    let states = states_of p.start x.tree in
    let to = state_by p x.tree c.args.turn.branch in
    let knows = c.requires.informed.knows in
    let numbers = leads.numbers (sym c.is_still.ensures ∙ c.if-is_still.false) in
    known_by p x c.requires.informed c.in-Some-find.field-0 to (c.in-Some-find.ensures.there sc states knows)
    (λ s at. c.in-Some-find.ensures.alike sc states s to knows at (rw c.deref-2.ensures.value numbers))

pub returns-clause-successor : goal.returns-clause-successor
returns-clause-successor c = grind (arith, common_steps)
