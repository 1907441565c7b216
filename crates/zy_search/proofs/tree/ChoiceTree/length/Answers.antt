use Rattle.std.proofs.Common.{◌≡◌, ◌+◌, ◌-◌, ◌<◌, List, length, arith, ap, [], ◌∷◌, length-append, get_or}
use Rattle.zy_isa.specs.declared.choice.Choice.{Choice}
use Rattle.zy_search.specs.Paths.{paths_of}
use Rattle.zy_search.proofs.PathLemmas.{length-grown, rooted_at, path_at, path_none}
use Rattle.zy_search.proofs.tree.ChoiceTree.length.Goals as goal

pub loop-at-init : goal.loop-at-init
loop-at-init c =
    let all = length-grown ([] ∷ []) c.self.inside.branches.items in
    let lt : c.args.i < length (paths_of c.self.inside.branches.items) = rw c.self.view_is c.requires in
    record {
      within = omega (arith, all, lt);
      few = omega arith;
      counted = omega arith;
    }

pub loop-at-smaller : goal.loop-at-smaller
loop-at-smaller c =
    let bs = c.self.inside.branches.items in
    let root = rooted_at 1 (c.loop-at.at - 1) c.index-branch.result.now bs c.self.invariant (omega (arith, c.loop-at.invariant.within, c.loop-at-test.true)) in
    let is = c.index-branch.ensures in
    rw is (omega (arith, root, c.loop-at-test.true))

pub loop-at-preserved : goal.loop-at-preserved
loop-at-preserved c =
    let bs = c.self.inside.branches.items in
    let d = c.index-branch.result.now in
    let i = c.loop-at.invariant in
    let lt : c.loop-at.at - 1 < length bs = omega (arith, i.within, c.loop-at-test.true) in
    let root = rooted_at 1 (c.loop-at.at - 1) d bs c.self.invariant lt in
    let is = c.index-branch.ensures in
    let e : (c.loop-at.at - 1) + 1 ≡ c.loop-at.at = omega (arith, c.loop-at-test.true) in
    let p = path_at (c.loop-at.at - 1) d bs c.self.invariant lt in
    let here = rw (e, ← is) at p in
    let long = ap (λ (l : List Choice). length l) here in
    let below = rw (← is) at root in
    record {
      within = omega (arith, below, lt);
      few = omega (arith, below, i.few, c.loop-at-test.true);
      counted = omega (arith, i.counted, long, length-append (get_or (paths_of bs) d.from []) (d.by ∷ []));
    }

pub returns : goal.returns
returns c =
    let none : c.loop-at.at ≡ 0 = c.loop-at-test.false in
    let w = rw (none, path_none c.self.inside.branches.items) at c.loop-at.invariant.counted in
    record {
      value = rw (← c.self.view_is) (omega (arith, w));
      few = omega (arith, c.loop-at.invariant.few);
    }
