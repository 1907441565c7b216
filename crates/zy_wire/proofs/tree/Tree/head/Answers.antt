use Rattle.std.proofs.Common.{arith}
use Rattle.zy_wire.proofs.tree.Tree.head.Goals as goal

pub returns-in-None-clause-at : goal.returns-in-None-clause-at
returns-in-None-clause-at c = c.raise.ensures.at c.args.key (omega (arith, c.ranges.key.fits))
