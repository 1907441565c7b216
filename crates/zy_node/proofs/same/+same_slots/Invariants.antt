use Rattle.std.proofs.Common.{◌+◌, length}
use Rattle.zy_node.proofs.same.+same_slots.Given as goal

abbrev pub decreases-same_slots : goal.decreases-same_slots
decreases-same_slots l = length l.xs.now + length l.ys.now
