use Rattle.std.proofs.Common.{◌≡◌, ◌+◌, ◌-◌, ◌<◌, arith, length, [], ◌∷◌}
use Rattle.zy_search.specs.Paths.{paths_of}
use Rattle.zy_search.proofs.PathLemmas.{length-grown, rooted_at, path_at}
use Rattle.zy_search.proofs.tree.ChoiceTree.branch.Goals as goal

pub index-requires : goal.index-requires
index-requires c =
    let all = length-grown ([] ∷ []) c.self.inside.branches.items in
    let lt : c.args.i < length (paths_of c.self.inside.branches.items) = rw c.self.view_is c.requires.there in
    omega (arith, all, lt, c.requires.some)

pub returns : goal.returns
returns c =
    let bs = c.self.inside.branches.items in
    let d = c.index.result.now in
    let all = length-grown ([] ∷ []) bs in
    let there : c.args.i < length (paths_of bs) = rw c.self.view_is c.requires.there in
    let lt : c.args.i - 1 < length bs = omega (arith, all, there, c.requires.some) in
    let e : (c.args.i - 1) + 1 ≡ c.args.i = omega (arith, c.requires.some) in
    let is = c.index.ensures in
    let root = rooted_at 1 (c.args.i - 1) d bs c.self.invariant lt in
    let p = path_at (c.args.i - 1) d bs c.self.invariant lt in
    record {
      path = rw (← c.self.view_is) (rw (e, ← is) at p);
      earlier = rw is (omega (arith, root, c.requires.some));
    }
