-- The canonical text of a scenario: each line as its words, with one space between them.
use Rattle.std.specs.Prelude.{ℕ, ◌+◌, List, [], ◌∷◌, ◌++◌, map, codes}
use Rattle.std.specs.Fmt.{decimal}
use Rattle.std.specs.List.{flat_map}
use Rattle.zy_isa.specs.declared.node.Node.{Node}
use Rattle.zy_isa.specs.declared.node.Node.TheVariants.{A, B}
use Rattle.zy_isa.specs.declared.rule.Rule.{Rule}
use Rattle.zy_isa.specs.declared.rule.Rule.TheVariants.{Held, Loose}
use Rattle.zy_isa.specs.declared.row.Row.{Row}
use Rattle.zy_isa.specs.declared.instr.Reg.{Reg}
use Rattle.zy_isa.specs.declared.instr.Reg.TheVariants.{R0, R1, R2, R3, R4, R5, R6, R7}
use Rattle.zy_isa.specs.declared.instr.Instr.{Instr}
use Rattle.zy_isa.specs.declared.operation.Operation.TheVariants as op
use Rattle.zy_isa.specs.declared.operation.Parts.{Parts}
use Rattle.zy_isa.specs.declared.operation.Parts.TheVariants.{Number, Pair, Jump, Lone}
use Rattle.zy_isa.specs.declared.choice.Choice.{Choice}
use Rattle.zy_isa.specs.declared.choice.Choice.TheVariants.{Start, Begin, Kill, Run, Take, Finish, Push}
use Rattle.zy_isa.specs.Versions.{word}
use Rattle.zy_text.specs.Words.{spaced}
use Rattle.zy_isa.specs.Operations.{mnemonic, parts_of}
use Rattle.zy_io.specs.Writing.{line_of}
use Rattle.zy_isa.specs.Scenario.{Scenario}

abbrev pub node_text : Node → List ℕ
node_text A = codes "A"
node_text B = codes "B"

abbrev pub rule_text : Rule → List ℕ
rule_text Held = codes "held"
rule_text Loose = codes "loose"

abbrev pub reg_text : Reg → List ℕ
reg_text R0 = codes "r0"
reg_text R1 = codes "r1"
reg_text R2 = codes "r2"
reg_text R3 = codes "r3"
reg_text R4 = codes "r4"
reg_text R5 = codes "r5"
reg_text R6 = codes "r6"
reg_text R7 = codes "r7"

abbrev pub parts_words : Parts → List (List ℕ)
parts_words (Number o a n) = mnemonic (op.Number o) ∷ reg_text a ∷ decimal n ∷ []
parts_words (Pair o a b) = mnemonic (op.Pair o) ∷ reg_text a ∷ reg_text b ∷ []
parts_words (Jump o a b n) = mnemonic (op.Jump o) ∷ reg_text a ∷ reg_text b ∷ (64 ∷ decimal n) ∷ []
parts_words (Lone o) = mnemonic (op.Lone o) ∷ []

abbrev pub instr_words : Instr → List (List ℕ)
instr_words i = parts_words (parts_of i)

abbrev pub choice_words : Choice → List (List ℕ)
choice_words Start = codes "C" ∷ codes "start" ∷ []
choice_words (Begin t) = codes "C" ∷ codes "begin" ∷ decimal t ∷ []
choice_words (Kill t) = codes "C" ∷ codes "kill" ∷ decimal t ∷ []
choice_words (Run n t) = node_text n ∷ codes "run" ∷ decimal t ∷ []
choice_words (Take n) = node_text n ∷ codes "take" ∷ []
choice_words (Finish n) = node_text n ∷ codes "finish" ∷ []
choice_words (Push n) = node_text n ∷ codes "push" ∷ []

abbrev pub instr_text : Instr → List ℕ
instr_text i = spaced (instr_words i)

abbrev pub choice_text : Choice → List ℕ
choice_text c = spaced (choice_words c)

abbrev pub row_words : Row → List (List ℕ)
row_words r = codes "row" ∷ decimal r.key ∷ decimal r.value ∷ []

abbrev pub row_text : Row → List ℕ
row_text r = spaced (row_words r)

abbrev pub header_words : Scenario → List (List (List ℕ))
header_words s =
    (codes "zephyr" ∷ word s.version ∷ [])
    ∷ (codes "cap" ∷ decimal s.cap ∷ [])
    ∷ (codes "pages" ∷ decimal s.pages ∷ [])
    ∷ (codes "rule" ∷ rule_text s.rule ∷ []) ∷ []

-- the programs from number k on, each under its number
abbrev pub program_words : ℕ → List (List Instr) → List (List (List ℕ))
program_words k [] = []
program_words k (p ∷ ps) = (codes "txn" ∷ decimal k ∷ []) ∷ map instr_words p ++ program_words (k + 1) ps

-- the words of each line of the canonical text
abbrev pub canon_words : Scenario → List (List (List ℕ))
canon_words s =
    header_words s
    ++ (map row_words s.rows ++ (program_words 0 s.programs
    ++ (map choice_words s.choices ++ (codes "end" ∷ []) ∷ [])))

-- the canonical text of a scenario
abbrev pub canon : Scenario → List ℕ
canon s = flat_map (λ ws. line_of (spaced ws)) (canon_words s)
