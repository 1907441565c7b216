-- The lines of the header.
use Rattle.std.specs.Prelude.{ℕ, List, [], ◌∷◌, codes, Option}
use Rattle.std.specs.Prelude.{Some, None, Result, Ok, Err, ok_or, if◌then◌else◌}
use Rattle.std.specs.Str.{bytes_eq}
use Rattle.zy_isa.specs.Limits.{min_cap, max_cap, max_pages}
use Rattle.zy_isa.specs.declared.rule.Rule.{Rule as LockRule}
use Rattle.zy_isa.specs.declared.rule.Rule.TheVariants.{Held, Loose}
use Rattle.zy_isa.specs.Versions.{named as version_named}
use Rattle.zy_asm.specs.declared.faults.AsmKind.{AsmKind}
use Rattle.zy_asm.specs.declared.faults.AsmKind.TheVariants as kinds
use Rattle.zy_asm.specs.declared.state.Stage.TheVariants.{Cap, Pages, Rule, Rows}
use Rattle.zy_isa.specs.Results.{◌>>=◌}
use Rattle.zy_asm.specs.Steps.{number_in}
use Rattle.zy_asm.specs.Reading.Progress.{Seen}

-- the word behind the name of a header line
abbrev pub header_value : List (List ℕ) → List ℕ → Result (List ℕ) AsmKind
header_value (w ∷ v ∷ []) name = if bytes_eq w name then Ok v else Err kinds.Header
header_value _ name = Err kinds.Header

abbrev pub rule_of : List ℕ → Option LockRule
rule_of w =
    if bytes_eq w (codes "held") then Some Held else
    if bytes_eq w (codes "loose") then Some Loose else
    None

abbrev pub zephyr_line : Seen → List (List ℕ) → Result Seen AsmKind
zephyr_line s ws = do
  w ← header_value ws (codes "zephyr")
  v ← ok_or (version_named w) kinds.Header
  Ok (record s { stage = Cap; version = v })

abbrev pub cap_line : Seen → List (List ℕ) → Result Seen AsmKind
cap_line s ws = do
  w ← header_value ws (codes "cap")
  n ← number_in w min_cap max_cap
  Ok (record s { stage = Pages; cap = n })

abbrev pub pages_line : Seen → List (List ℕ) → Result Seen AsmKind
pages_line s ws = do
  w ← header_value ws (codes "pages")
  n ← number_in w 1 max_pages
  Ok (record s { stage = Rule; pages = n })

abbrev pub rule_line : Seen → List (List ℕ) → Result Seen AsmKind
rule_line s ws = do
  w ← header_value ws (codes "rule")
  r ← ok_or (rule_of w) kinds.Header
  Ok (record s { stage = Rows; rule = r })
