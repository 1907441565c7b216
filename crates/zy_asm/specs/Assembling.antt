-- What an answer of the assembler says.
use Rattle.std.specs.Prelude.{◌≡◌, Result, Ok, Err}
use Rattle.zy_isa.specs.Scenario.{Scenario}
use Rattle.zy_asm.specs.declared.faults.LineFault.{LineFault}
use Rattle.zy_asm.specs.declared.faults.AsmKind.TheVariants as kinds
use Rattle.zy_asm.specs.Reasons.{kind_of}

-- the answer is this scenario, unless there was no memory
abbrev pub GivesScenario : Result Scenario LineFault → Scenario → Type 0
GivesScenario (Ok t) s = t ≡ s
GivesScenario (Err r) s = kind_of r.reason ≡ kinds.Memory
