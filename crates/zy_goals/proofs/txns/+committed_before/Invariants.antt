use Rattle.std.proofs.Common.{length}
use Rattle.zy_goals.proofs.txns.+committed_before.Given as goal

abbrev pub decreases-committed_before : goal.decreases-committed_before
decreases-committed_before l = length l.commits.now
