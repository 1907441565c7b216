use Rattle.std.proofs.Common.{◌≡◌, ◌++◌, drop, length}
use Rattle.zy_isa.specs.Scenario.{AreNamed}
use Rattle.zy_laws.specs.WayOut.{kills}
use Rattle.zy_ending.proofs.ending.kills.Given as goal

abbrev pub invariant-loop-t : goal.invariant-loop-t
invariant-loop-t l = record {
  rest : l.kills.items ++ kills l.t (drop l.t l.machine.state.txns) ≡ kills 0 l.machine.state.txns;
  named : AreNamed (length l.machine.scenario.programs) l.kills.items;
}
