use Rattle.std.proofs.Common.{drop}
use Rattle.zy_isa.specs.Scenario.{ArePrograms}
use Rattle.zy_isa.proofs.scenario.are_programs.Given as goal

abbrev pub invariant-loop-program : goal.invariant-loop-program
invariant-loop-program l = ArePrograms (drop l.program-index l.programs) → ArePrograms l.programs
