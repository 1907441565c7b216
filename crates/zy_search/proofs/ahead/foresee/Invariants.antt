use Rattle.std.proofs.Common.{◌≡◌}
use Rattle.std.specs.List.{All}
use Rattle.zy_search.specs.Ahead.{AreSuccessors}
use Rattle.zy_search.proofs.ahead.foresee.Given as goal

abbrev pub invariant-loop-at : goal.invariant-loop-at
invariant-loop-at l = record {
  found : All (AreSuccessors l.plan l.reached l.ahead.numbers) l.ahead.found.items;
  none : l.ahead.taken ≡ 0;
}
