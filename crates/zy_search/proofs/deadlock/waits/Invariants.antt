use Rattle.std.proofs.Common.{◌≡◌}
use Rattle.zy_search.specs.Deadlocks.{waits_below}
use Rattle.zy_search.proofs.deadlock.waits.Given as goal

-- the waits of the first t transactions are there
abbrev pub invariant-loop-t : goal.invariant-loop-t
invariant-loop-t l =
    record {
      spare : l.spare.scenario ≡ l.machine.scenario;
      waits : l.waits.items ≡ waits_below l.machine.scenario l.machine.state l.t;
    }
