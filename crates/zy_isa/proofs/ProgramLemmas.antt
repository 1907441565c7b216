-- What every program keeps, as the tests of its list of instructions.
use Rattle.std.proofs.Common.{◌≡◌, ◌==◌, ℕ, ◌<◌, false, List, None, length, arith, refl}
use Rattle.zy_isa.specs.declared.instr.Instr.{Instr}
use Rattle.zy_isa.specs.Limits.{max_instrs}
use Rattle.zy_isa.specs.Programs.{program_fault, IsProgram}
use Rattle.zy_isa.proofs.ResultLemmas.{over_not}
use borrow.Author.Tests.{tests}

-- a number above 0 fails the test for 0
pub is_some : (n : ℕ) → 0 < n → (n == 0) ≡ false
is_some n h = grind (arith, tests)

-- a program has no fault
pub no_program_fault : (is : List Instr) → IsProgram is → program_fault is ≡ None
no_program_fault is p =
    let some : (length is == 0) ≡ false = is_some (length is) p.some in
    rw (some, over_not (length is) max_instrs p.few, p.targets, p.last) refl
