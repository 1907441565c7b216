use Rattle.std.proofs.Common.{◌≡◌, ◌+◌, ◌-◌, ◌<◌, length, arith, sym, [], ◌∷◌, append-nil}
use Rattle.zy_search.specs.Paths.{paths_of}
use Rattle.zy_search.proofs.PathLemmas.{length-grown, rooted_at, path_at, path_none, walked}
use Rattle.zy_search.proofs.tree.ChoiceTree.path.Goals as goal

pub loop-at-init : goal.loop-at-init
loop-at-init c =
    let all = length-grown ([] ∷ []) c.self.inside.branches.items in
    let lt : c.args.i < length (paths_of c.self.inside.branches.items) = rw c.self.view_is c.requires in
    record {
      within = omega (arith, all, lt);
      walked = rw c.new-path.ensures.items (sym (append-nil _));
    }

pub loop-at-smaller : goal.loop-at-smaller
loop-at-smaller c =
    let bs = c.self.inside.branches.items in
    let root = rooted_at 1 (c.loop-at.at - 1) c.index-branch.result.now bs c.self.invariant (omega (arith, c.loop-at.invariant.within, c.loop-at-test.true)) in
    let is = c.index-branch.ensures in
    rw is (omega (arith, root, c.loop-at-test.true))

pub loop-at-preserved : goal.loop-at-preserved
loop-at-preserved c =
    let bs = c.self.inside.branches.items in
    let d = c.index-branch.result.now in
    let lt : c.loop-at.at - 1 < length bs = omega (arith, c.loop-at.invariant.within, c.loop-at-test.true) in
    let root = rooted_at 1 (c.loop-at.at - 1) d bs c.self.invariant lt in
    let is = c.index-branch.ensures in
    let e : (c.loop-at.at - 1) + 1 ≡ c.loop-at.at = omega (arith, c.loop-at-test.true) in
    let p = path_at (c.loop-at.at - 1) d bs c.self.invariant lt in
    let here = rw (e, ← is) at p in
    record {
      within = rw is (omega (arith, root, lt));
      walked = rw c.in_ok-push.ensures.items (walked _ _ _ c.loop-at.path.items d.by c.loop-at.invariant.walked here);
    }

pub returns : goal.returns
returns c =
    let none : c.loop-at.at ≡ 0 = c.loop-at-test.false in
    let w = rw (none, path_none c.self.inside.branches.items) at c.loop-at.invariant.walked in
    rw (c.reverse.ensures.items, ← c.self.view_is) (sym w)
