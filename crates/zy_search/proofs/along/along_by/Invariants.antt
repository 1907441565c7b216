use Rattle.std.proofs.Common.{◌≡◌, ◌≤◌, filter, length}
use Rattle.zy_machine.specs.Replays.{Follows}
use Rattle.zy_machine.specs.Replays.{state_at}
use Rattle.zy_search.specs.Along.{below}
use Rattle.zy_search.specs.Searches.{shows}
use Rattle.zy_search.proofs.along.along_by.Given as goal

abbrev pub invariant-loop-m : goal.invariant-loop-m
invariant-loop-m l =
    record {
      scenario : l.machine.scenario ≡ l.initial.machine.scenario;
      follows : Follows l.machine;
      made : length l.machine.entries ≤ l.m;
      spare : l.spare.scenario ≡ l.initial.machine.scenario;
      positions : l.positions.items ≡ filter (λ n. shows l.initial.machine.scenario l.sought (state_at l.initial.machine.scenario n)) (below l.m);
    }
