use Rattle.std.proofs.Common.{drop}
use Rattle.zy_isa.specs.Programs.{Values}
use Rattle.zy_isa.proofs.program.have_values.Given as goal

abbrev pub invariant-loop-word : goal.invariant-loop-word
invariant-loop-word l = Values (drop l.word-index l.words) → Values l.words
