use Rattle.std.proofs.Common.{◌-◌, length}
use Rattle.zy_debug.specs.Checkpoints.{HoldReplaysOf, IsBelow}
use Rattle.zy_debug.proofs.checkpoints.Checkpoints.halve.Given as goal

abbrev pub invariant-way : goal.invariant-way
invariant-way l =
    record {
      below : IsBelow l.fn.machine.scenario l.target l.machine;
      kept : HoldReplaysOf l.fn.machine.scenario l.self;
    }

abbrev pub decreases-way : goal.decreases-way
decreases-way l = l.target - length l.machine.entries
