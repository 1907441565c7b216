-- The word of an instruction: eight bytes, as an image has them.
use Rattle.std.specs.Prelude.{◌≡◌, ℕ, List, ◌∷◌}
use Rattle.std.specs.Int.{w32, to_be_bytes}
use Rattle.zy_isa.specs.declared.instr.Instr.{Instr}
use Rattle.zy_isa.specs.declared.operation.Operation.TheVariants as op
use Rattle.zy_isa.specs.declared.operation.Parts.{Parts}
use Rattle.zy_isa.specs.declared.operation.Parts.TheVariants.{Number, Pair, Jump, Lone}
use Rattle.zy_isa.specs.Registers.{number_of}
use Rattle.zy_isa.specs.Programs.{HasValue}
use Rattle.zy_isa.specs.Operations.{opcode, parts_of}

-- the operation's number, two registers, 0, and a number from its highest byte down
abbrev pub word : ℕ → ℕ → ℕ → ℕ → List ℕ
word operation a b number = operation ∷ a ∷ b ∷ 0 ∷ to_be_bytes w32 number

-- a field for which there is no operand is 0
abbrev pub word_with : Parts → List ℕ
word_with (Number o a n) = word (opcode (op.Number o)) (number_of a) 0 n
word_with (Pair o a b) = word (opcode (op.Pair o)) (number_of a) (number_of b) 0
word_with (Jump o a b n) = word (opcode (op.Jump o)) (number_of a) (number_of b) n
word_with (Lone o) = word (opcode (op.Lone o)) 0 0 0

abbrev pub word_of : Instr → List ℕ
word_of i = word_with (parts_of i)

-- the bytes are the word of an instruction whose value fits its field
abbrev pub IsWordOf : List ℕ → Instr → Type 0
IsWordOf bytes i = HasValue i × (bytes ≡ word_of i)
