use Rattle.std.proofs.Common.{length, ◌-◌}
use Rattle.zy_isa.specs.Limits.{max_choices}
use Rattle.zy_ending.specs.Ways.{IsOnWay}
use Rattle.zy_ending.proofs.ending.go_on.Given as goal

abbrev pub invariant-onward : goal.invariant-onward
invariant-onward l = IsOnWay l.machine l.replay l.made.items

abbrev pub decreases-onward : goal.decreases-onward
decreases-onward l = max_choices - length l.replay.entries
