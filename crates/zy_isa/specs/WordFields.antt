-- What the fields of a word give, for the steps of decoding.
use Rattle.std.specs.Prelude.{◌==◌, ◌&&◌, ◌%◌, ℕ, List, drop, get_or, unwrap_or, Option, Some, None, if◌then◌else◌}
use Rattle.std.specs.Prelude.{option_map}
use Rattle.std.specs.List.{find}
use Rattle.std.specs.Int.{w32, from_be_bytes}
use Rattle.zy_isa.specs.declared.instr.Reg.{Reg}
use Rattle.zy_isa.specs.declared.instr.Reg.TheVariants.{R7}
use Rattle.zy_isa.specs.declared.instr.Instr.{Instr}
use Rattle.zy_isa.specs.declared.operation.Operation.{Operation}
use Rattle.zy_isa.specs.declared.operation.Operation.TheVariants as op
use Rattle.zy_isa.specs.declared.operation.LoneOperation.TheVariants.{Abort}
use Rattle.zy_isa.specs.declared.operation.Parts.{Parts}
use Rattle.zy_isa.specs.declared.operation.Parts.TheVariants.{Number, Pair, Jump, Lone}
use Rattle.zy_isa.specs.Registers.{number_of, register_count, registers}
use Rattle.zy_isa.specs.Operations.{coded, instr_with}

abbrev pub register_at : ℕ → Option Reg
register_at n = find (λ r. n == number_of r) registers

abbrev pub pair_of : Option Reg → Option Reg → Option (Reg × Reg)
pair_of None b = None
pair_of (Some a) None = None
pair_of (Some a) (Some b) = Some (a, b)

abbrev pub registers_at : ℕ → ℕ → Option (Reg × Reg)
registers_at a b = pair_of (register_at a) (register_at b)

-- the operation with the operands in these fields; a field for which there is none is 0
abbrev pub parts_at : Operation → ℕ → ℕ → ℕ → Option Parts
parts_at (op.Number o) a b n = if b == 0 then option_map (λ r. Number o r n) (register_at a) else None
parts_at (op.Pair o) a b n = if n == 0 then option_map (λ p. Pair o p.0 p.1) (registers_at a b) else None
parts_at (op.Jump o) a b n = option_map (λ p. Jump o p.0 p.1 n) (registers_at a b)
parts_at (op.Lone o) a b n = if a == 0 && b == 0 && n == 0 then Some (Lone o) else None

abbrev pub instr_at : Option Operation → ℕ → ℕ → ℕ → Option Instr
instr_at None a b n = None
instr_at (Some o) a b n = option_map instr_with (parts_at o a b n)

-- the instruction of a word of eight bytes, if there is one
abbrev pub decoded : List ℕ → Option Instr
decoded w = if get_or w 3 0 == 0 then instr_at (coded (get_or w 0 0)) (get_or w 1 0) (get_or w 2 0)
    (from_be_bytes w32 (drop 4 w)) else None

-- ---- a word that is known to be one: no field is tested

abbrev pub register_in : ℕ → Reg
register_in n = unwrap_or (register_at (n % register_count)) R7

abbrev pub operation_in : ℕ → Operation
operation_in n = unwrap_or (coded n) (op.Lone Abort)

-- an operation with the operands in these fields
abbrev pub parts_in : Operation → ℕ → ℕ → ℕ → Parts
parts_in (op.Number o) a b n = Number o (register_in a) n
parts_in (op.Pair o) a b n = Pair o (register_in a) (register_in b)
parts_in (op.Jump o) a b n = Jump o (register_in a) (register_in b) n
parts_in (op.Lone o) a b n = Lone o

-- the instruction of a word
abbrev pub instr_in : List ℕ → Instr
instr_in w =
    instr_with (parts_in (operation_in (get_or w 0 0)) (get_or w 1 0) (get_or w 2 0) (from_be_bytes w32 (drop 4 w)))
