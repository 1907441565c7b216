use Rattle.std.proofs.Common.{◌≡◌, take}
use Rattle.zy_isa.proofs.program.words_of.Given as goal

abbrev pub invariant-loop-instr : goal.invariant-loop-instr
invariant-loop-instr l = l.words.items ≡ take l.instr-index l.fn.instrs
