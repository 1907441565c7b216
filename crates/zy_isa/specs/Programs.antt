-- Which lists of instructions are programs.
use Rattle.std.specs.Prelude.{◌≡◌, ◌==◌, ◌+◌, ◌-◌, ◌<◌, ◌≤◌, ◌^◌, ◌⊎◌, nat_lt, not, ℕ, List, [], ◌∷◌, length, position}
use Rattle.std.specs.Prelude.{slice_get, option_map, Bool, true, false, Option, Some, None, Result, Ok, Err}
use Rattle.std.specs.Prelude.{if◌then◌else◌}
use Rattle.std.specs.Option.{option_map_or, option_or}
use Rattle.zy_isa.specs.Limits.{max_instrs}
use Rattle.zy_isa.specs.declared.instr.Instr.{Instr}
use Rattle.zy_isa.specs.declared.instr.Instr.TheVariants.{Set, Read, Write, Insert, Add, Sum, Beq, Commit, Abort}
use Rattle.zy_isa.specs.declared.operation.Parts.{Parts}
use Rattle.zy_isa.specs.declared.operation.Parts.TheVariants.{Number, Pair, Jump, Lone}
use Rattle.zy_isa.specs.declared.version.Version.{Version}
use Rattle.zy_isa.specs.declared.program.ProgramFault.{ProgramFault}
use Rattle.zy_isa.specs.declared.program.ProgramFault.TheVariants as fault
use Rattle.zy_isa.specs.Operations.{has, parts_of}

-- a program may end with it
abbrev pub ends : Instr → Bool
ends (Set r x) = false
ends (Read r q) = false
ends (Write r q) = false
ends (Insert r q) = false
ends (Add r q) = false
ends (Sum r q) = false
ends (Beq r q to) = false
ends Commit = true
ends Abort = true

-- where it may jump to is below count
abbrev pub target_below : ℕ → Parts → Bool
target_below count (Number o a n) = true
target_below count (Pair o a b) = true
target_below count (Jump o a b n) = nat_lt n count
target_below count (Lone o) = true

abbrev pub targets_below : ℕ → Instr → Bool
targets_below count i = target_below count (parts_of i)

-- the last instruction ends the program
abbrev pub ends_well : List Instr → Bool
ends_well is = option_map_or ends (slice_get is (length is - 1)) false

-- the index of the first instruction whose target is not in the program
abbrev pub stray_target : List Instr → Option ℕ
stray_target is = position (λ i. not (targets_below (length is) i)) is

-- the first fault of a list of instructions
abbrev pub program_fault : List Instr → Option ProgramFault
program_fault is =
    if length is == 0 then Some fault.Empty else
    if nat_lt max_instrs (length is) then Some fault.TooLong else
    option_or (option_map fault.Target (stray_target is)) (
    if ends_well is then None else
    Some fault.NoEnd)

-- the values in an instruction fit their fields
abbrev pub PartsFit : Parts → Type 0
PartsFit (Number o a n) = n < 2 ^ 32
PartsFit (Pair o a b) = Unit {0}
PartsFit (Jump o a b n) = n < 2 ^ 32
PartsFit (Lone o) = Unit {0}

abbrev pub HasValue : Instr → Type 0
HasValue i = PartsFit (parts_of i)

abbrev pub Values : List Instr → Type 0
Values [] = Unit {0}
Values (i ∷ is) = HasValue i × Values is

-- what every program keeps
pub record IsProgram (is : List Instr) : Type 0 where
  pub some : 0 < length is
  pub few : length is ≤ max_instrs
  pub targets : stray_target is ≡ None
  pub last : ends_well is ≡ true
  pub values : Values is

-- the index of the first instruction that a version does not have, where the first of these has index n
abbrev pub unknown_from : Version → ℕ → List Instr → Option ℕ
unknown_from version n [] = None
unknown_from version n (i ∷ is) = if has version i then unknown_from version (n + 1) is else Some n

abbrev pub unknown : Version → List Instr → Option ℕ
unknown version is = unknown_from version 0 is

-- a version has each instruction
abbrev pub HasEach : Version → List Instr → Type 0
HasEach version [] = Unit {0}
HasEach version (i ∷ is) = (has version i ≡ true) × HasEach version is

-- the answer is the program, or the first fault, or out of memory where there is none
abbrev pub IsVerified : Result (List Instr) ProgramFault → List Instr → Type 0
IsVerified (Ok p) is = (program_fault is ≡ None) × (p ≡ is)
IsVerified (Err e) is = (program_fault is ≡ Some e) ⊎ ((program_fault is ≡ None) × (e ≡ fault.Memory))

-- the answer is the program, or its first fault
abbrev pub IsKept : Result (List Instr) ProgramFault → List Instr → Type 0
IsKept (Ok p) is = (program_fault is ≡ None) × (p ≡ is)
IsKept (Err e) is = program_fault is ≡ Some e
