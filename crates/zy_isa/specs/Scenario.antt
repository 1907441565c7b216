-- What a scenario is, which ones are within the limits, and the first fault of one that is not.
use Rattle.std.specs.Prelude.{◌≡◌, ◌+◌, ◌/◌, ◌≤◌, ◌||◌, not, nat_lt, ℕ, zero, suc, List, [], ◌∷◌, length, position}
use Rattle.std.specs.Prelude.{option_map, Bool, true, Option, Some, None, Result, Ok, Err, if◌then◌else◌}
use Rattle.std.specs.Option.{option_or}
use Rattle.zy_isa.specs.Limits.{min_cap, max_cap, max_pages, max_rows, max_txns, max_choices}
use Rattle.zy_isa.specs.declared.version.Version.{Version}
use Rattle.zy_isa.specs.declared.rule.Rule.{Rule}
use Rattle.zy_isa.specs.declared.row.Row.{Row}
use Rattle.zy_isa.specs.declared.instr.Instr.{Instr}
use Rattle.zy_isa.specs.declared.choice.Choice.{Choice}
use Rattle.zy_isa.specs.declared.scenario.ScenarioFault.{ScenarioFault}
use Rattle.zy_isa.specs.declared.scenario.ScenarioFault.TheVariants as fault
use Rattle.zy_isa.specs.Rows.{Rising, RowsFit, misplaced_row}
use Rattle.zy_isa.specs.Programs.{IsProgram, HasEach, unknown}
use Rattle.zy_isa.specs.Choices.{names_below}

pub record Scenario : Type 0 where
  pub version : Version
  pub cap : ℕ
  pub pages : ℕ
  pub rule : Rule
  pub rows : List Row
  pub programs : List (List Instr)
  pub choices : List Choice

-- how many rows an opening page takes
abbrev pub opening_rows : ℕ → ℕ
opening_rows cap = (cap + 1) / 2

-- how many pages this number of rows opens with: one more for each full run of rows, and one where there is no row
abbrev pub opening_pages_for : ℕ → ℕ → ℕ
opening_pages_for cap zero = 1
opening_pages_for cap (suc rows) = rows / opening_rows cap + 1

-- the index of the first choice that names no transaction
abbrev pub misnamed_choice : ℕ → List Choice → Option ℕ
misnamed_choice count choices = position (λ c. not (names_below count c)) choices

abbrev pub is_outside : ℕ → ℕ → ℕ → Bool
is_outside least most n = nat_lt n least || nat_lt most n

-- more rows than a scenario may have, or more than its pages take when it opens
abbrev pub has_many_rows : Scenario → Bool
has_many_rows s = nat_lt max_rows (length s.rows) || nat_lt s.pages (opening_pages_for s.cap (length s.rows))

-- the first fault of choices among this number of transactions
abbrev pub choices_fault : ℕ → List Choice → Option ScenarioFault
choices_fault count cs =
    if nat_lt max_choices (length cs) then Some fault.ChoiceCount else
    option_map fault.Choice (misnamed_choice count cs)

-- the first instruction that a version does not have, in programs from number t on
abbrev pub instrs_fault : Version → ℕ → List (List Instr) → Option ScenarioFault
instrs_fault version t [] = None
instrs_fault version t (p ∷ ps) = option_or (option_map (fault.Instruction t) (unknown version p))
    (instrs_fault version (t + 1) ps)

-- the first fault of a scenario whose programs are verified
abbrev pub scenario_fault : Scenario → Option ScenarioFault
scenario_fault s =
    if is_outside min_cap max_cap s.cap then Some fault.Cap else
    if is_outside 1 max_pages s.pages then Some fault.Pages else
    if has_many_rows s then Some fault.RowCount else
    option_or (option_map fault.RowOrder (misplaced_row s.rows)) (
    if nat_lt max_txns (length s.programs) then Some fault.TxnCount else
    option_or (choices_fault (length s.programs) s.choices) (
    instrs_fault s.version 0 s.programs))

abbrev pub ArePrograms : List (List Instr) → Type 0
ArePrograms [] = Unit {0}
ArePrograms (p ∷ ps) = IsProgram p × ArePrograms ps

-- a version has each instruction of each program
abbrev pub AreKnown : Version → List (List Instr) → Type 0
AreKnown version [] = Unit {0}
AreKnown version (p ∷ ps) = HasEach version p × AreKnown version ps

-- each choice that names a transaction names one that exists
abbrev pub AreNamed : ℕ → List Choice → Type 0
AreNamed count [] = Unit {0}
AreNamed count (c ∷ cs) = (names_below count c ≡ true) × AreNamed count cs

-- what every scenario keeps
pub record IsScenario (s : Scenario) : Type 0 where
  pub cap_least : min_cap ≤ s.cap
  pub cap_most : s.cap ≤ max_cap
  pub pages_least : 1 ≤ s.pages
  pub pages_most : s.pages ≤ max_pages
  pub few_rows : length s.rows ≤ max_rows
  pub few_opening_pages : opening_pages_for s.cap (length s.rows) ≤ s.pages
  pub rows_rise : Rising 0 s.rows
  pub rows_fit : RowsFit s.rows
  pub few_programs : length s.programs ≤ max_txns
  pub programs : ArePrograms s.programs
  pub few_choices : length s.choices ≤ max_choices
  pub choices_named : AreNamed (length s.programs) s.choices
  pub instrs_known : AreKnown s.version s.programs

-- the answer is the scenario, or its first fault
abbrev pub IsTested : Result Scenario ScenarioFault → Scenario → Type 0
IsTested (Ok t) s = (scenario_fault s ≡ None) × (t ≡ s)
IsTested (Err e) s = scenario_fault s ≡ Some e

-- the same of parts that have the number of their version, or none: the scenario that they make in a version
abbrev pub IsTestedIn : Result Scenario ScenarioFault → Option Version → (Version → Scenario) → Type 0
IsTestedIn r None of = r ≡ Err fault.Version
IsTestedIn r (Some version) of = IsTested r (of version)

-- the answer is the scenario with these choices in place of its own, or their first fault
abbrev pub HasChoices : Result Scenario ScenarioFault → Scenario → List Choice → Type 0
HasChoices (Ok t) s cs = (choices_fault (length s.programs) cs ≡ None) × (t ≡ record s { choices = cs })
HasChoices (Err e) s cs = choices_fault (length s.programs) cs ≡ Some e
