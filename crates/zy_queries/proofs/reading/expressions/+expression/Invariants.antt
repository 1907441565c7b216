-- A part is counted before an expression is read within another one. Between two counts the calls go down from operands of
-- `or` to those of `and`, and then to what stands alone.
use Rattle.std.proofs.Common.{◌+◌, ◌*◌}
use Rattle.zy_queries.proofs.ReadLemmas.{height_of}
use Rattle.zy_queries.proofs.reading.expressions.+expression.Given as goal

abbrev pub decreases-bracketed : goal.decreases-bracketed
decreases-bracketed l = 8 * l.spare

abbrev pub decreases-negation : goal.decreases-negation
decreases-negation l = 8 * l.spare

abbrev pub decreases-one : goal.decreases-one
decreases-one l = 8 * l.spare + 1

abbrev pub decreases-operand : goal.decreases-operand
decreases-operand l = 8 * l.spare + height_of l.operator

abbrev pub decreases-chain : goal.decreases-chain
decreases-chain l = 8 * l.spare + (height_of l.operator + 1)

abbrev pub decreases-more : goal.decreases-more
decreases-more l = 8 * l.first.spare
