-- Instructions of a program that is still open, and what they are once its labels are known.
use Rattle.std.specs.Prelude.{ℕ, List, [], ◌∷◌, Option, Some, None, Result, Ok, Err, ok_or}
use Rattle.zy_isa.specs.declared.instr.Reg.{Reg}
use Rattle.zy_isa.specs.declared.instr.Instr.{Instr}
use Rattle.zy_isa.specs.declared.operation.JumpOperation.{JumpOperation}
use Rattle.zy_isa.specs.declared.operation.Parts.TheVariants as parts
use Rattle.zy_isa.specs.declared.program.ProgramFault.{ProgramFault}
use Rattle.zy_text.specs.Names.{Mark, place}
use Rattle.zy_isa.specs.Operations.{instr_with}
use Rattle.zy_isa.specs.Programs.{program_fault}
use Rattle.zy_isa.specs.Results.{◌>>=◌}
use Rattle.zy_asm.specs.declared.faults.AsmKind.{AsmKind}
use Rattle.zy_asm.specs.declared.faults.AsmKind.TheVariants as kinds
use Rattle.zy_asm.specs.declared.pending.Unresolved.{Unresolved}
use Rattle.zy_asm.specs.declared.pending.Unresolved.TheVariants.{Whole, Jump}

-- an instruction, or a jump to a label
pub data Pending : Type 0 where
  whole : Instr → Pending
  jump : JumpOperation → Reg → Reg → List ℕ → Pending

abbrev pub pending_of : Unresolved → Pending
pending_of (Whole i) = whole i
pending_of (Jump o a b name) = jump o a b name.items

abbrev pub resolved : List Mark → Pending → Result Instr AsmKind
resolved labels (whole i) = Ok i
resolved labels (jump o a b name) = ok_or (place name labels) kinds.Label >>= λ n. Ok (instr_with (parts.Jump o a b n))

abbrev pub all_resolved : List Mark → List Pending → Result (List Instr) AsmKind
all_resolved labels [] = Ok []
all_resolved labels (p ∷ ps) = do
  i ← resolved labels p
  is ← all_resolved labels ps
  Ok (i ∷ is)

abbrev pub checked_instrs : Option ProgramFault → List Instr → Result (List Instr) AsmKind
checked_instrs None is = Ok is
checked_instrs (Some f) is = Err kinds.Program

-- the program of these labels and instructions
abbrev pub program_of : List Mark → List Pending → Result (List Instr) AsmKind
program_of labels ps = all_resolved labels ps >>= λ is. checked_instrs (program_fault is) is
