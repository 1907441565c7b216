use Rattle.std.proofs.Common.{length}
use Rattle.zy_search.proofs.last.+run_along.Given as goal

abbrev pub decreases-run_along : goal.decreases-run_along
decreases-run_along l = length l.path.now
