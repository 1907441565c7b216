use Rattle.std.proofs.Common.{◌<◌, length, arith, [], ◌∷◌}
use Rattle.zy_search.specs.Paths.{paths_of}
use Rattle.zy_search.proofs.PathLemmas.{length-grown, grown-push, rooted_push}
use Rattle.zy_search.proofs.tree.ChoiceTree.push.Goals as goal

pub invariant_of-self-2 : goal.invariant_of-self-2
invariant_of-self-2 c =
    let bs = c.self.inside.branches.items in
    let b = c.args.branch in
    let all = length-grown ([] ∷ []) bs in
    let more = rw c.unwrap.ensures at c.push.ensures.items in
    let lt : c.args.branch.from < length (paths_of bs) = rw c.self.view_is c.requires in
    rw (more, c.reserve.ensures.items) (rooted_push 1 bs b c.self.invariant (omega (arith, all, lt)))

pub returns-clause-ok : goal.returns-clause-ok
returns-clause-ok c =
    let bs = c.self.inside.branches.items in
    let b = c.args.branch in
    let more = rw c.unwrap.ensures at c.push.ensures.items in
    rw (more, c.reserve.ensures.items, ← c.self.view_is) (grown-push ([] ∷ []) bs b)
