-- The instruction that the words of a line spell, and the fault where they spell none.
use Rattle.std.specs.Prelude.{◌==◌, ℕ, List, [], ◌∷◌, Result, Ok, Err, ok_or, if◌then◌else◌}
use Rattle.std.specs.List.{find}
use Rattle.std.specs.Str.{bytes_eq}
use Rattle.zy_isa.specs.Limits.{max_value, max_target}
use Rattle.zy_isa.specs.declared.instr.Reg.{Reg}
use Rattle.zy_isa.specs.declared.instr.Instr.{Instr}
use Rattle.zy_isa.specs.declared.operation.NumberOperation.{NumberOperation}
use Rattle.zy_isa.specs.declared.operation.JumpOperation.{JumpOperation}
use Rattle.zy_isa.specs.declared.operation.Operation.{Operation}
use Rattle.zy_isa.specs.declared.operation.Operation.TheVariants as op
use Rattle.zy_isa.specs.declared.operation.Parts.TheVariants.{Number, Pair, Jump, Lone}
use Rattle.zy_asm.specs.declared.faults.AsmKind.{AsmKind}
use Rattle.zy_asm.specs.declared.faults.AsmKind.TheVariants as kinds
use Rattle.zy_isa.specs.Registers.{registers}
use Rattle.zy_isa.specs.Operations.{instr_with}
use Rattle.zy_text.specs.Canon.{reg_text}
use Rattle.zy_isa.specs.Results.{◌>>=◌}
use Rattle.zy_text.specs.Names.{is_name}
use Rattle.zy_asm.specs.Steps.{number_in}
use Rattle.zy_asm.specs.Pending.{Pending, whole, jump}

abbrev pub register_of : List ℕ → Result Reg AsmKind
register_of w = ok_or (find (λ r. bytes_eq w (reg_text r)) registers) kinds.Word

abbrev pub two : List ℕ → List ℕ → Result (Reg × Reg) AsmKind
two a b = do
  x ← register_of a
  y ← register_of b
  Ok (x, y)

abbrev pub pair_of : List (List ℕ) → Result (Reg × Reg) AsmKind
pair_of (a ∷ b ∷ []) = two a b
pair_of _ = Err kinds.Word

abbrev pub number_to : NumberOperation → List ℕ → List ℕ → Result Instr AsmKind
number_to o a n = do
  x ← register_of a
  i ← number_in n 0 max_value
  Ok (instr_with (Number o x i))

abbrev pub with_number : NumberOperation → List (List ℕ) → Result Instr AsmKind
with_number o (a ∷ n ∷ []) = number_to o a n
with_number o _ = Err kinds.Word

-- to `@N`, or to a label
abbrev pub jump_to : JumpOperation → Reg → Reg → List ℕ → Result Pending AsmKind
jump_to o a b [] = Err kinds.Word
jump_to o a b (c ∷ cs) =
    if c == 64 then (number_in cs 0 max_target >>= λ n. Ok (whole (instr_with (Jump o a b n)))) else
    if is_name (c ∷ cs) then Ok (jump o a b (c ∷ cs)) else
    Err kinds.Word

abbrev pub jump_where : JumpOperation → List ℕ → List ℕ → List ℕ → Result Pending AsmKind
jump_where o a b t = two a b >>= λ p. jump_to o p.0 p.1 t

abbrev pub with_target : JumpOperation → List (List ℕ) → Result Pending AsmKind
with_target o (a ∷ b ∷ t ∷ []) = jump_where o a b t
with_target o _ = Err kinds.Word

abbrev pub alone : List (List ℕ) → Instr → Result Instr AsmKind
alone [] i = Ok i
alone (w ∷ ws) i = Err kinds.Word

-- an operation with the words behind it
abbrev pub instr_of : Operation → List (List ℕ) → Result Pending AsmKind
instr_of (op.Number o) ws = with_number o ws >>= λ i. Ok (whole i)
instr_of (op.Pair o) ws = pair_of ws >>= λ p. Ok (whole (instr_with (Pair o p.0 p.1)))
instr_of (op.Jump o) ws = with_target o ws
instr_of (op.Lone o) ws = alone ws (instr_with (Lone o)) >>= λ i. Ok (whole i)
