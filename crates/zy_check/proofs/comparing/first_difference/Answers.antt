-- The second text is at its end.
use Rattle.std.proofs.Common.{arith}
use Rattle.zy_check.proofs.CommonLemmas.{common_right}
use Rattle.zy_check.proofs.comparing.first_difference.Goals as goal

pub returns-else-at-y : goal.returns-else-at-y
returns-else-at-y c = omega (arith, common_right c.args.x.now c.args.y.now c.loop-at.at c.if-at-y.false, c.loop-at.invariant.rest)
