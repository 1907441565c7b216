use Rattle.std.proofs.Common.{◌≡◌, ◌≤◌, ◌+◌, [], length, get_or}
use Rattle.zy_search.specs.Paths.{paths_of}
use Rattle.zy_search.proofs.tree.ChoiceTree.length.Given as goal

abbrev pub invariant-loop-at : goal.invariant-loop-at
invariant-loop-at l =
    record {
      within : l.at ≤ length l.self-inside.branches.items;
      few : l.count + l.at ≤ l.i;
      counted : length (get_or (paths_of l.self-inside.branches.items) l.i []) ≡ length (get_or (paths_of l.self-inside.branches.items) l.at []) + l.count;
    }

abbrev pub decreases-loop-at : goal.decreases-loop-at
decreases-loop-at l = l.at
