-- What a text means: its lines with words spell statements, and the statements make the scenario.
use Rattle.std.specs.Prelude.{◌≡◌, ◌⊎◌, ◌≤◌, ◌+◌, true, ℕ, List, [], ◌∷◌, ◌++◌, length, map, codes, Option, Some, None}
use Rattle.std.specs.Prelude.{replicate, if◌then◌else◌}
use Rattle.std.specs.List.{flat_map}
use Rattle.zy_isa.specs.Limits.{max_choices}
use Rattle.zy_isa.specs.declared.version.Version.{Version}
use Rattle.zy_isa.specs.declared.rule.Rule.{Rule}
use Rattle.zy_isa.specs.declared.row.Row.{Row}
use Rattle.zy_isa.specs.declared.instr.Instr.{Instr}
use Rattle.zy_isa.specs.declared.operation.Operation.TheVariants as op
use Rattle.zy_isa.specs.declared.operation.Parts.{Parts}
use Rattle.zy_isa.specs.declared.operation.Parts.TheVariants.{Number, Pair, Jump, Lone}
use Rattle.zy_isa.specs.declared.choice.Choice.{Choice}
use Rattle.zy_isa.specs.declared.choice.Choice.TheVariants.{Start, Begin, Kill, Run, Take, Finish, Push}
use Rattle.zy_isa.specs.Versions.{word}
use Rattle.zy_text.specs.Words.{number_of, lines_with_words}
use Rattle.zy_text.specs.Names.{Mark, is_name, place, AreNew}
use Rattle.zy_isa.specs.Operations.{mnemonic, parts_of}
use Rattle.zy_text.specs.Canon.{node_text, rule_text, reg_text}
use Rattle.zy_isa.specs.Scenario.{Scenario, IsScenario}

-- ---- what is written

-- a line of a program: a label or none, and an instruction or none
pub record Code : Type 0 where
  pub label : Option (List ℕ)
  pub instr : Option Instr

-- a program: the word behind `txn`, and the lines below it
pub record Written : Type 0 where
  pub head : List ℕ
  pub body : List Code

-- a choice, and how often it is made in a row
pub record Times : Type 0 where
  pub choice : Choice
  pub times : ℕ

-- the programs and choices as a text has them
pub record Draft : Type 0 where
  pub programs : List Written
  pub choices : List Times

-- a line of a program is with the program's labels, a choice with the names of all programs
pub data Statement : Type 0 where
  zephyr : (v : Version) → Statement
  cap : (n : ℕ) → Statement
  pages : (n : ℕ) → Statement
  rule : (r : Rule) → Statement
  row : (r : Row) → Statement
  txn : (head : List ℕ) → Statement
  code : (labels : List Mark) → (c : Code) → Statement
  choice : (names : List Mark) → (c : Times) → Statement
  end : Statement

-- ---- what the words of a line spell

-- `@N`, or a label
abbrev pub SpellsTarget : List Mark → ℕ → List ℕ → Type 0
SpellsTarget labels n w = ((d : List ℕ) × (w ≡ 64 ∷ d) × (number_of d ≡ Some n))
    ⊎ ((is_name w ≡ true) × (place w labels ≡ Some n))

abbrev pub SpellsParts : List Mark → Parts → List (List ℕ) → Type 0
SpellsParts labels (Number o a n) ws = (w : List ℕ) × (ws ≡ mnemonic (op.Number o) ∷ reg_text a ∷ w ∷ [])
    × (number_of w ≡ Some n)
SpellsParts labels (Pair o a b) ws = ws ≡ mnemonic (op.Pair o) ∷ reg_text a ∷ reg_text b ∷ []
SpellsParts labels (Jump o a b n) ws = (w : List ℕ) × (ws ≡ mnemonic (op.Jump o) ∷ reg_text a ∷ reg_text b ∷ w ∷ [])
    × SpellsTarget labels n w
SpellsParts labels (Lone o) ws = ws ≡ mnemonic (op.Lone o) ∷ []

abbrev pub SpellsInstr : List Mark → Instr → List (List ℕ) → Type 0
SpellsInstr labels i ws = SpellsParts labels (parts_of i) ws

-- no word where there is no instruction
abbrev pub MaySpell : List Mark → Option Instr → List (List ℕ) → Type 0
MaySpell labels None ws = ws ≡ []
MaySpell labels (Some i) ws = SpellsInstr labels i ws

-- the name with a colon behind it, or no word
abbrev pub SpellsLabel : Option (List ℕ) → List (List ℕ) → Type 0
SpellsLabel None ws = ws ≡ []
SpellsLabel (Some name) ws = (ws ≡ (name ++ 58 ∷ []) ∷ []) × (is_name name ≡ true)

-- the transaction's number, or its name
abbrev pub Refers : List Mark → ℕ → List ℕ → Type 0
Refers names t w = (number_of w ≡ Some t) ⊎ ((is_name w ≡ true) × (place w names ≡ Some t))

abbrev pub SpellsChoice : List Mark → Choice → List (List ℕ) → Type 0
SpellsChoice names Start ws = ws ≡ codes "C" ∷ codes "start" ∷ []
SpellsChoice names (Begin t) ws = (w : List ℕ) × (ws ≡ codes "C" ∷ codes "begin" ∷ w ∷ []) × Refers names t w
SpellsChoice names (Kill t) ws = (w : List ℕ) × (ws ≡ codes "C" ∷ codes "kill" ∷ w ∷ []) × Refers names t w
SpellsChoice names (Run n t) ws = (w : List ℕ) × (ws ≡ node_text n ∷ codes "run" ∷ w ∷ []) × Refers names t w
SpellsChoice names (Take n) ws = ws ≡ node_text n ∷ codes "take" ∷ []
SpellsChoice names (Finish n) ws = ws ≡ node_text n ∷ codes "finish" ∷ []
SpellsChoice names (Push n) ws = ws ≡ node_text n ∷ codes "push" ∷ []

-- `x N`, or nothing for once
abbrev pub SpellsTimes : ℕ → List (List ℕ) → Type 0
SpellsTimes n ws = ((ws ≡ []) × (n ≡ 1)) ⊎ ((w : List ℕ) × (ws ≡ codes "x" ∷ w ∷ []) × (number_of w ≡ Some n) × (1 ≤ n)
    × (n ≤ max_choices))

abbrev pub Spells : Statement → List (List ℕ) → Type 0
Spells (zephyr v) ws = ws ≡ codes "zephyr" ∷ word v ∷ []
Spells (cap n) ws = (w : List ℕ) × (ws ≡ codes "cap" ∷ w ∷ []) × (number_of w ≡ Some n)
Spells (pages n) ws = (w : List ℕ) × (ws ≡ codes "pages" ∷ w ∷ []) × (number_of w ≡ Some n)
Spells (rule r) ws = ws ≡ codes "rule" ∷ rule_text r ∷ []
Spells (row r) ws = (k : List ℕ) × (v : List ℕ) × (ws ≡ codes "row" ∷ k ∷ v ∷ []) × (number_of k ≡ Some r.key)
    × (number_of v ≡ Some r.value)
Spells (txn head) ws = ws ≡ codes "txn" ∷ head ∷ []
Spells (code labels c) ws = (front : List (List ℕ)) × (back : List (List ℕ)) × (ws ≡ front ++ back)
    × SpellsLabel c.label front × MaySpell labels c.instr back
Spells (choice names c) ws = (front : List (List ℕ)) × (back : List (List ℕ)) × (ws ≡ front ++ back)
    × SpellsChoice names c.choice front × SpellsTimes c.times back
Spells end ws = ws ≡ codes "end" ∷ []

abbrev pub SpellEach : List Statement → List (List (List ℕ)) → Type 0
SpellEach [] [] = Unit {0}
SpellEach [] (l ∷ ls) = ⊥
SpellEach (x ∷ xs) [] = ⊥
SpellEach (x ∷ xs) (l ∷ ls) = Spells x l × SpellEach xs ls

-- ---- what a draft says

abbrev pub instr_in : Option Instr → List Instr
instr_in None = []
instr_in (Some i) = i ∷ []

-- the instructions of a program
abbrev pub instrs_of : List Code → List Instr
instrs_of body = flat_map (λ (c : Code). instr_in c.instr) body

abbrev pub label_at : Option (List ℕ) → ℕ → List Mark
label_at None k = []
label_at (Some name) k = (name, k) ∷ []

-- the labels of a program, k instructions of which are above: each is the index of the next instruction
abbrev pub labels_of : ℕ → List Code → List Mark
labels_of k [] = []
labels_of k (c ∷ cs) = label_at c.label k ++ labels_of (k + length (instr_in c.instr)) cs

-- the name of the program of number k, if its head is one
abbrev pub name_in : List ℕ → ℕ → List Mark
name_in head k = if is_name head then (head, k) ∷ [] else []

-- the names of the programs from number k on
abbrev pub names_of : ℕ → List Written → List Mark
names_of k [] = []
names_of k (p ∷ ps) = name_in p.head k ++ names_of (k + 1) ps

-- each program from number k on is under a name or its number
abbrev pub Headed : ℕ → List Written → Type 0
Headed k [] = Unit {0}
Headed k (p ∷ ps) = ((is_name p.head ≡ true) ⊎ (number_of p.head ≡ Some k)) × Headed (k + 1) ps

-- no program has a label twice
abbrev pub Labelled : List Written → Type 0
Labelled [] = Unit {0}
Labelled (p ∷ ps) = AreNew [] (labels_of 0 p.body) × Labelled ps

-- the choices, each as often as it says
abbrev pub repeated : List Times → List Choice
repeated cs = flat_map (λ (c : Times). replicate c.times c.choice) cs

-- the draft writes the programs and choices of the scenario
pub record IsDraftOf (d : Draft) (s : Scenario) : Type 0 where
  pub programs : map (λ (p : Written). instrs_of p.body) d.programs ≡ s.programs
  pub choices : repeated d.choices ≡ s.choices
  pub headed : Headed 0 d.programs
  pub names_new : AreNew [] (names_of 0 d.programs)
  pub labelled : Labelled d.programs

-- ---- the statements of a text

abbrev pub program_statements : Written → List Statement
program_statements p = txn p.head ∷ map (code (labels_of 0 p.body)) p.body

abbrev pub choice_statements : List Mark → List Times → List Statement
choice_statements names cs = map (choice names) cs ++ end ∷ []

-- the statements of a scenario whose programs and choices are written so
abbrev pub statements : Scenario → Draft → List Statement
statements s d =
    zephyr s.version ∷ cap s.cap ∷ pages s.pages ∷ rule s.rule
    ∷ map row s.rows ++ (flat_map program_statements d.programs ++ choice_statements (names_of 0 d.programs) d.choices)

-- the text means the scenario
abbrev pub Means : List ℕ → Scenario → Type 0
Means text s = IsScenario s × ((d : Draft) × IsDraftOf d s × SpellEach (statements s d) (lines_with_words text))
