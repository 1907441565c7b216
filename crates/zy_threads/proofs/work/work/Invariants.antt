use Rattle.std.proofs.Common.{◌≡◌}
use Rattle.zy_threads.proofs.work.work.Given as goal

abbrev pub invariant-loop-taken : goal.invariant-loop-taken
invariant-loop-taken g l = (l.share.parts ≡ 1) × (l.share.amount ≡ l.taken)
