use Rattle.std.proofs.Common.{◌≡◌, length}
use Rattle.zy_machine.specs.Replays.{Follows}
use Rattle.zy_machine.proofs.replay.advance_to.Given as goal

abbrev pub invariant-loop : goal.invariant-loop
invariant-loop l =
    record {
      scenario : l.machine.scenario ≡ l.fn.machine.scenario;
      follows : Follows l.machine;
      position : length l.machine.entries ≡ l.counter;
    }
