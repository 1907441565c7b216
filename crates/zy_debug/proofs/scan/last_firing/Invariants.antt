use Rattle.std.proofs.Common.{◌≡◌, ◌+◌, length, map}
use Rattle.zy_machine.specs.Replays.{Follows}
use Rattle.zy_debug.specs.Scans.{LastIn, watch_of}
use Rattle.zy_debug.proofs.scan.last_firing.Given as goal

abbrev pub invariant-loop-m : goal.invariant-loop-m
invariant-loop-m l =
    record {
      scenario : l.machine.scenario ≡ l.fn.machine.scenario;
      follows : Follows l.machine;
      position : length l.machine.entries + 1 ≡ l.m;
      watched : l.watched.items ≡ map (watch_of l.machine.state) l.slots;
      last : LastIn l.fn.machine.scenario l.slots (length l.fn.machine.entries) l.m l.last;
    }
