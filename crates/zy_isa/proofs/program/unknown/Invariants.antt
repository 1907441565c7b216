use Rattle.std.proofs.Common.{◌≡◌, drop}
use Rattle.zy_isa.specs.Programs.{unknown, unknown_from}
use Rattle.zy_isa.proofs.program.unknown.Given as goal

abbrev pub invariant-loop-i : goal.invariant-loop-i
invariant-loop-i l = unknown_from l.version l.i (drop l.i l.words) ≡ unknown l.version l.words
