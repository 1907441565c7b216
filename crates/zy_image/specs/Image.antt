-- The image of a scenario: its fields one behind the other, each number from its highest byte down.
use Rattle.std.specs.Prelude.{◌≡◌, ℕ, List, [], ◌∷◌, ◌++◌, length}
use Rattle.std.specs.List.{flat_map}
use Rattle.std.specs.Int.{w16, w32, to_be_bytes}
use Rattle.zy_isa.specs.declared.rule.Rule.{Rule}
use Rattle.zy_isa.specs.declared.rule.Rule.TheVariants.{Held, Loose}
use Rattle.zy_isa.specs.declared.row.Row.{Row}
use Rattle.zy_isa.specs.declared.node.Node.{Node}
use Rattle.zy_isa.specs.declared.node.Node.TheVariants.{A, B}
use Rattle.zy_isa.specs.declared.instr.Instr.{Instr}
use Rattle.zy_isa.specs.declared.choice.Choice.{Choice}
use Rattle.zy_isa.specs.declared.choice.Choice.TheVariants.{Start, Begin, Kill, Run, Take, Finish, Push}
use Rattle.zy_isa.specs.Versions.{magic}
use Rattle.zy_isa.specs.InstrWords.{word_of}
use Rattle.zy_isa.specs.Scenario.{Scenario, IsScenario}

abbrev pub rule_byte : Rule → ℕ
rule_byte Held = 0
rule_byte Loose = 1

abbrev pub head_image : Scenario → List ℕ
head_image s = magic s.version ++ (s.cap ∷ to_be_bytes w16 s.pages ++ rule_byte s.rule ∷ [])

abbrev pub row_image : Row → List ℕ
row_image r = to_be_bytes w16 r.key ++ to_be_bytes w32 r.value

-- how many rows, and each of them
abbrev pub rows_image : List Row → List ℕ
rows_image rows = to_be_bytes w16 (length rows) ++ flat_map row_image rows

-- how many instructions, and the word of each
abbrev pub program_image : List Instr → List ℕ
program_image is = length is ∷ flat_map word_of is

abbrev pub programs_image : List (List Instr) → List ℕ
programs_image ps = length ps ∷ flat_map program_image ps

abbrev pub node_byte : Node → ℕ
node_byte A = 1
node_byte B = 2

-- who makes it, what is done, and with which transaction; 0 where none is named
abbrev pub choice_image : Choice → List ℕ
choice_image Start = 0 ∷ 0 ∷ 0 ∷ []
choice_image (Begin t) = 0 ∷ 1 ∷ t ∷ []
choice_image (Kill t) = 0 ∷ 2 ∷ t ∷ []
choice_image (Run n t) = node_byte n ∷ 3 ∷ t ∷ []
choice_image (Take n) = node_byte n ∷ 4 ∷ 0 ∷ []
choice_image (Finish n) = node_byte n ∷ 5 ∷ 0 ∷ []
choice_image (Push n) = node_byte n ∷ 6 ∷ 0 ∷ []

abbrev pub choices_image : List Choice → List ℕ
choices_image cs = to_be_bytes w16 (length cs) ++ flat_map choice_image cs

abbrev pub image_of : Scenario → List ℕ
image_of s = head_image s ++ (rows_image s.rows ++ (programs_image s.programs ++ choices_image s.choices))

-- the bytes are the image of the scenario
abbrev pub IsImage : List ℕ → Scenario → Type 0
IsImage bytes s = IsScenario s × (bytes ≡ image_of s)
