use Rattle.std.proofs.Common.{◌+◌, ◌<◌, inl, length, arith}
use Rattle.zy_search.specs.Visits.{length_at}
use Rattle.zy_search.proofs.SearchLemmas.{none_at_all, none_below, fills, spent_well, spent_due}
use Rattle.zy_search.proofs.search.settle.Goals as goal

pub returns-then-len-at-clause-answer : goal.returns-then-len-at-clause-answer
returns-then-len-at-clause-answer c =
    none_at_all c.args.plan.now.start c.args.plan.now.sought c.args.tree.now c.requires.visits c.args.at c.requires.expanded
    (omega (arith, c.len.ensures.value, c.if-len-at.true))

pub returns-clause-answer : goal.returns-clause-answer
returns-clause-answer c =
    spent_well c.args.plan.now.start c.args.plan.now.sought (length_at c.args.tree.now c.args.at + 1) c.spent_at.result
    (none_below c.args.plan.now.start c.args.plan.now.sought c.args.tree.now c.requires.visits c.args.at c.requires.expanded) c.spent_at.ensures

pub returns-clause-due : goal.returns-clause-due
returns-clause-due c =
    let lt : c.args.at < length c.args.tree.now = omega (arith, c.len.ensures.value, c.if-len-at.false) in
    spent_due c.args.plan.now.start c.args.plan.now.sought c.args.plan.now.most (length_at c.args.tree.now c.args.at + 1) c.spent_at.result
    (inl (fills c.args.plan.now.start c.args.plan.now.sought c.args.plan.now.most c.args.at c.args.tree.now c.requires.visits (c.requires.near lt)
    (omega (arith, c.requires.many, lt)))) c.spent_at.ensures
