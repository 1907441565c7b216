-- The operations: what each is in an image and in a text, and the instruction that it makes with its operands.
use Rattle.std.specs.Prelude.{◌==◌, ℕ, Bool, List, [], ◌∷◌, codes, Option, Some, None, if◌then◌else◌}
use Rattle.std.specs.List.{find}
use Rattle.std.specs.Str.{bytes_eq}
use Rattle.zy_isa.specs.declared.instr.Instr.{Instr}
use Rattle.zy_isa.specs.declared.instr.Instr.TheVariants as instr
use Rattle.zy_isa.specs.declared.version.Version.{Version}
use Rattle.zy_isa.specs.declared.version.Version.TheVariants as version
use Rattle.zy_isa.specs.Versions.{has_since}
use Rattle.zy_isa.specs.declared.operation.NumberOperation.TheVariants.{Set}
use Rattle.zy_isa.specs.declared.operation.PairOperation.TheVariants.{Read, Write, Insert, Add, Sum}
use Rattle.zy_isa.specs.declared.operation.JumpOperation.TheVariants.{Beq}
use Rattle.zy_isa.specs.declared.operation.LoneOperation.TheVariants.{Commit, Abort}
use Rattle.zy_isa.specs.declared.operation.Operation.{Operation}
use Rattle.zy_isa.specs.declared.operation.Operation.TheVariants as op
use Rattle.zy_isa.specs.declared.operation.Parts.{Parts}
use Rattle.zy_isa.specs.declared.operation.Parts.TheVariants.{Number, Pair, Jump, Lone}

-- the number of each operation in an image, and its word in a text
abbrev pub table : Operation → ℕ × List ℕ
table (op.Number Set) = (0, codes "set")
table (op.Pair Read) = (1, codes "read")
table (op.Pair Write) = (2, codes "write")
table (op.Pair Insert) = (3, codes "insert")
table (op.Pair Add) = (4, codes "add")
table (op.Jump Beq) = (5, codes "beq")
table (op.Lone Commit) = (6, codes "commit")
table (op.Lone Abort) = (7, codes "abort")
table (op.Pair Sum) = (8, codes "sum")

abbrev pub opcode : Operation → ℕ
opcode o = (table o).0

abbrev pub mnemonic : Operation → List ℕ
mnemonic o = (table o).1

-- the version that an operation came with
abbrev pub since : Operation → Version
since (op.Pair Sum) = version.Two
since o = version.One

abbrev pub operations : List Operation
operations = op.Number Set ∷ op.Pair Read ∷ op.Pair Write ∷ op.Pair Insert ∷ op.Pair Add ∷ op.Jump Beq ∷ op.Lone Commit
    ∷ op.Lone Abort ∷ op.Pair Sum ∷ []

-- the operation with this number
abbrev pub coded : ℕ → Option Operation
coded n = find (λ o. n == opcode o) operations

-- the operation with this word
abbrev pub named : List ℕ → Option Operation
named w = find (λ o. bytes_eq w (mnemonic o)) operations

-- a version has an operation
abbrev pub is_of : Version → Operation → Bool
is_of version o = has_since (since o) version

-- an operation that the version has
abbrev pub if_of : Version → Option Operation → Option Operation
if_of version None = None
if_of version (Some o) = if is_of version o then Some o else None

-- the operation with this word in a version
abbrev pub named_in : Version → List ℕ → Option Operation
named_in version w = if_of version (named w)

-- the instruction of an operation with its operands
abbrev pub instr_with : Parts → Instr
instr_with (Number Set a n) = instr.Set a n
instr_with (Pair Read a b) = instr.Read a b
instr_with (Pair Write a b) = instr.Write a b
instr_with (Pair Insert a b) = instr.Insert a b
instr_with (Pair Add a b) = instr.Add a b
instr_with (Pair Sum a b) = instr.Sum a b
instr_with (Jump Beq a b n) = instr.Beq a b n
instr_with (Lone Commit) = instr.Commit
instr_with (Lone Abort) = instr.Abort

-- the operation of an instruction, and its operands
abbrev pub parts_of : Instr → Parts
parts_of (instr.Set a n) = Number Set a n
parts_of (instr.Read a b) = Pair Read a b
parts_of (instr.Write a b) = Pair Write a b
parts_of (instr.Insert a b) = Pair Insert a b
parts_of (instr.Add a b) = Pair Add a b
parts_of (instr.Sum a b) = Pair Sum a b
parts_of (instr.Beq a b n) = Jump Beq a b n
parts_of instr.Commit = Lone Commit
parts_of instr.Abort = Lone Abort

-- the operation that has these operands
abbrev pub operation_of : Parts → Operation
operation_of (Number o a n) = op.Number o
operation_of (Pair o a b) = op.Pair o
operation_of (Jump o a b n) = op.Jump o
operation_of (Lone o) = op.Lone o

-- whether a version has an instruction
abbrev pub has : Version → Instr → Bool
has version i = is_of version (operation_of (parts_of i))
