use Rattle.std.proofs.Common.{◌≡◌, ◌<◌, ◌≤◌, ℕ, length, map, None}
use Rattle.zy_debug.specs.Stops.{firing}
use Rattle.zy_machine.specs.Replays.{Follows}
use Rattle.zy_debug.specs.Scans.{watch_of}
use Rattle.zy_debug.proofs.scan.cont.Given as goal

abbrev pub invariant-loop : goal.invariant-loop
invariant-loop l =
    record {
      scenario : l.machine.scenario ≡ l.fn.machine.scenario;
      follows : Follows l.machine;
      position : length l.machine.entries ≡ l.counter;
      watched : l.watched.items ≡ map (watch_of l.machine.state) l.slots;
      none : (k : ℕ) → length l.fn.machine.entries < k → k ≤ l.counter → firing l.fn.machine.scenario l.slots k ≡ None;
    }
