-- What an instruction does, once its registers are read.
use Rattle.std.specs.Prelude.{ℕ, ◌+◌, ◌%◌, ◌^◌, ◌==◌, List}
use Rattle.zy_isa.specs.declared.instr.Instr.{Instr}
use Rattle.zy_isa.specs.declared.instr.Instr.TheVariants.{Set, Read, Write, Insert, Add, Sum, Beq, Commit, Abort}
use Rattle.zy_table.specs.declared.access.Access.TheVariants.{Reads, Writes, Inserts}
use Rattle.zy_table.specs.declared.effect.Effect.{Effect}
use Rattle.zy_table.specs.declared.effect.Effect.TheVariants.{Sets, Jumps, Accesses, Sums, Commits, Aborts}
use Rattle.zy_table.specs.Change.{reg}

abbrev pub effect_of : Instr → List ℕ → Effect
effect_of (Set r v) regs = Sets r v
effect_of (Read r q) regs = Accesses (Reads r) (reg regs q)
effect_of (Write r q) regs = Accesses (Writes (reg regs q)) (reg regs r)
effect_of (Insert r q) regs = Accesses (Inserts (reg regs q)) (reg regs r)
effect_of (Add r q) regs = Sets r ((reg regs r + reg regs q) % 2 ^ 32)
effect_of (Sum r q) regs = Sums r (reg regs r) (reg regs q)
effect_of (Beq r q to) regs = Jumps (reg regs r == reg regs q) to
effect_of Commit regs = Commits
effect_of Abort regs = Aborts
