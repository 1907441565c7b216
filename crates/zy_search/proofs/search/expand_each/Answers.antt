use Rattle.std.proofs.Common.{◌≡◌, ◌+◌, ◌<◌, [], ◌∷◌, length, arith, subst}
use Rattle.zy_search.specs.Visits.{IsEdge, IsExpanded, length_at}
use Rattle.zy_search.proofs.SearchLemmas.{none_at_all, finds_first, spent_below, spent_well, expanded_grown, near_first, edge_next, stops, stops_grown}
use Rattle.zy_search.proofs.AheadLemmas.{rest_on}
use Rattle.zy_search.proofs.SearchLemmas.{spent_due}
use Rattle.zy_search.proofs.EdgeLemmas.{ends_first, ends_later}
use Rattle.zy_goals.proofs.EachLemmas.{more}
use Rattle.zy_search.proofs.search.expand_each.Goals as goal

pub loop-at-init : goal.loop-at-init
loop-at-init g c =
    let first = c.requires.begins.first in
    record {
      visits = c.requires.begins.visits;
      within = omega arith;
      expanded = λ i lt. absurd (omega (arith, lt));
      near = rw first (λ _. record { near = near_first; ends = ends_later ([] ∷ []) 0 1 (omega arith) ends_first });
      ends = rw first ends_first;
      informed = c.requires.begins.informed;
      outlook = c.requires.outlook;
      scratch = c.requires.scratch;
    }

pub returns-then-len-at-clause-answer : goal.returns-then-len-at-clause-answer
returns-then-len-at-clause-answer g c =
    none_at_all c.args.plan.now.start c.args.plan.now.sought c.loop-at.reached.tree c.loop-at.invariant.visits c.loop-at.at c.loop-at.invariant.expanded
    (omega (arith, c.len.ensures.value, c.if-len-at.true))

pub returns-in-Found-clause-answer : goal.returns-in-Found-clause-answer
returns-in-Found-clause-answer g c =
    finds_first c.args.plan.now.start c.args.plan.now.sought c.loop-at.reached.tree c.loop-at.invariant.visits c.loop-at.at c.in-Found.path.items
    c.loop-at.invariant.expanded (rw c.in-Found.is at c.in_ok-expand.ensures.well)

pub returns-in-Spent-clause-answer : goal.returns-in-Spent-clause-answer
returns-in-Spent-clause-answer g c =
    let h = c.args.plan.now.start in
    let q = c.args.plan.now.sought in
    let lt : c.loop-at.at < length c.loop-at.reached.tree = omega (arith, c.len.ensures.value, c.if-len-at.false) in
    let below = spent_below h q c.loop-at.reached.tree c.loop-at.invariant.visits c.expand.new.reached.tree c.loop-at.at lt c.loop-at.invariant.expanded
    (stops_grown h q c.args.plan.now.most c.loop-at.at _ _ (rw c.in-Spent.is at c.in_ok-expand.ensures.well)) in
    spent_well h q (length_at c.expand.new.reached.tree c.loop-at.at + 1) c.spent_at.result below c.spent_at.ensures

pub loop-at-preserved : goal.loop-at-preserved
loop-at-preserved g c =
    let h = c.args.plan.now.start in
    let q = c.args.plan.now.sought in
    let old = c.loop-at.reached.tree in
    let new = c.expand.new.reached.tree in
    let x = rw c.in-Whole.is at c.in_ok-expand.ensures.well in
    record {
      visits = x.visits;
      within = omega (arith, x.grows.longer, c.len.ensures.value, c.if-len-at.false);
      expanded = more (IsExpanded h q new) c.loop-at.at
          (λ i lt. expanded_grown h q old new i x.grows (omega (arith, lt, c.loop-at.invariant.within)) (c.loop-at.invariant.expanded i lt)) x.expanded;
      near = λ lt. edge_next h q new c.loop-at.at x.visits x.near lt;
      ends = x.near.ends;
      informed = c.in_ok-expand.ensures.informed;
      outlook = record {
        ahead = c.in_ok-expand.ensures.ahead;
        rest = rest_on c.args.plan.now c.loop-at.reached c.expand.new.reached c.in_ok-expand.ensures.goes_on _ c.in_ok-go_to.ensures.rest;
      };
      scratch = c.in_ok-expand.ensures.scratch;
    }

pub returns-in-Spent-clause-due : goal.returns-in-Spent-clause-due
returns-in-Spent-clause-due g c =
    let h = c.args.plan.now.start in
    let q = c.args.plan.now.sought in
    let lt : c.loop-at.at < length c.loop-at.reached.tree = omega (arith, c.len.ensures.value, c.if-len-at.false) in
    let stop = stops h q c.args.plan.now.most c.loop-at.at c.loop-at.reached.tree c.expand.new.reached.tree lt (rw c.in-Spent.is at c.in_ok-expand.ensures.well) in
    spent_due h q c.args.plan.now.most (length_at c.expand.new.reached.tree c.loop-at.at + 1) c.spent_at.result stop c.spent_at.ensures

pub expand-requires-clause-end : goal.expand-requires-clause-end
expand-requires-clause-end g c = c.loop-at.invariant.ends c.loop-at.at (omega arith) (omega (arith, c.len.ensures.value, c.if-len-at.false))

pub settle-requires-clause-expanded : goal.settle-requires-clause-expanded
settle-requires-clause-expanded g c = λ i lt. c.loop-at.invariant.expanded i (omega (arith, lt, c.loop-at-test.false))

pub settle-requires-clause-near : goal.settle-requires-clause-near
settle-requires-clause-near g c lt =
    let here : c.loop-at.at ≡ 4294967295 = omega (arith, c.loop-at.auto.at-end, c.loop-at-test.false) in
    subst (IsEdge c.loop-at.reached.tree) here (c.loop-at.invariant.near (omega (arith, lt, here)))
