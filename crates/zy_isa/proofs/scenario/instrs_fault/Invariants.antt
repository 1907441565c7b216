use Rattle.std.proofs.Common.{◌≡◌, drop}
use Rattle.zy_isa.specs.Scenario.{instrs_fault}
use Rattle.zy_isa.proofs.scenario.instrs_fault.Given as goal

abbrev pub invariant-loop-t : goal.invariant-loop-t
invariant-loop-t l = instrs_fault l.fn.version l.t (drop l.t l.fn.programs) ≡ instrs_fault l.fn.version 0 l.fn.programs
