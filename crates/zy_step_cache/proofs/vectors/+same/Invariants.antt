use Rattle.std.proofs.Common.{length}
use Rattle.zy_step_cache.proofs.vectors.+same.Given as goal

-- each call compares fewer numbers
abbrev pub decreases-same : goal.decreases-same
decreases-same l = length l.xs.now
