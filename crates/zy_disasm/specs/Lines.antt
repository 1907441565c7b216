-- The lines of the canonical text, one definition for each part.
use Rattle.std.specs.Prelude.{ℕ, ◌+◌, List, [], ◌∷◌, ◌++◌, map, codes}
use Rattle.std.specs.Fmt.{decimal}
use Rattle.std.specs.List.{flat_map}
use Rattle.zy_isa.specs.declared.version.Version.{Version}
use Rattle.zy_isa.specs.declared.rule.Rule.{Rule}
use Rattle.zy_isa.specs.declared.instr.Instr.{Instr}
use Rattle.zy_isa.specs.Versions.{word}
use Rattle.zy_text.specs.Words.{spaced}
use Rattle.zy_text.specs.Canon.{rule_text, row_text, instr_text}
use Rattle.zy_isa.specs.Scenario.{Scenario}

abbrev pub version_line : Version → List ℕ
version_line v = spaced (codes "zephyr" ∷ word v ∷ [])

-- a word, and a number
abbrev pub number_text : List ℕ → ℕ → List ℕ
number_text word n = spaced (word ∷ decimal n ∷ [])

abbrev pub rule_line : Rule → List ℕ
rule_line r = spaced (codes "rule" ∷ rule_text r ∷ [])

abbrev pub header_texts : Scenario → List (List ℕ)
header_texts s =
    version_line s.version ∷ number_text (codes "cap") s.cap ∷ number_text (codes "pages") s.pages ∷ rule_line s.rule
    ∷ []

-- a program under its number
abbrev pub program_texts : ℕ → List Instr → List (List ℕ)
program_texts t p = number_text (codes "txn") t ∷ map instr_text p

-- the lines of each program, from number t on
abbrev pub program_parts : ℕ → List (List Instr) → List (List (List ℕ))
program_parts t [] = []
program_parts t (p ∷ ps) = program_texts t p ∷ program_parts (t + 1) ps

-- all lines before the choices
abbrev pub head_texts : Scenario → List (List ℕ)
head_texts s = header_texts s ++ (map row_text s.rows ++ flat_map (λ part. part) (program_parts 0 s.programs))

abbrev pub end_texts : List (List ℕ)
end_texts = codes "end" ∷ []
