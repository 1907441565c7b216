use Rattle.std.proofs.Common.{◌≡◌}
use Rattle.zy_search.specs.Deadlocks.{left}
use Rattle.zy_search.proofs.deadlock.in_cycle.Given as goal

-- what is left after as many times as were made
abbrev pub invariant-loop : goal.invariant-loop
invariant-loop l = l.left.items ≡ left l.machine.state l.initial.left.items l.counter
