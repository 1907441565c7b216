use Rattle.std.proofs.Common.{inr, arith}
use Rattle.zy_search.proofs.AheadLemmas.{stays}
use Rattle.zy_search.proofs.SearchLemmas.{grows_not}
use Rattle.zy_search.proofs.expand.expand.Goals as goal

pub returns-then-deepest-depth-clause-well : goal.returns-then-deepest-depth-clause-well
returns-then-deepest-depth-clause-well c =
    inr (grows_not c.args.reached.now.tree, omega (arith, c.deepest.ensures, c.if-deepest-depth.true, c.len.ensures.value, c.length.ensures.value))

pub returns-then-deepest-depth-clause-goes_on : goal.returns-then-deepest-depth-clause-goes_on
returns-then-deepest-depth-clause-goes_on c = stays c.args.reached.now
