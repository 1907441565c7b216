use Rattle.std.proofs.Common.{◌≡◌, ◌++◌, length}
use Rattle.zy_logs.specs.Logs.{steps}
use Rattle.zy_order_engine.proofs.logs_below.steps.Given as goal

abbrev pub invariant-loop-rest : goal.invariant-loop-rest
invariant-loop-rest l = l.steps.items ++ steps l.rest ≡ steps l.lines

abbrev pub decreases-loop-rest : goal.decreases-loop-rest
decreases-loop-rest l = length l.rest
