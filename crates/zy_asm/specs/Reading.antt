-- Reading a text, line by line, up to the first fault.
pub mod Progress
pub mod Keywords
pub mod HeadLines
pub mod RowLines
pub mod ProgramLines
pub mod ChoiceLines
use Rattle.std.specs.Prelude.{◌≡◌, ◌+◌, ◌⊎◌, ℕ, List, [], ◌∷◌, Option}
use Rattle.std.specs.Prelude.{Some, None, Result, Ok, Err}
use Rattle.zy_isa.specs.declared.rule.Rule.TheVariants.{Held}
use Rattle.zy_isa.specs.declared.row.Row.{Row}
use Rattle.zy_isa.specs.declared.instr.Instr.{Instr}
use Rattle.zy_isa.specs.declared.choice.Choice.{Choice}
use Rattle.zy_isa.specs.declared.version.Version.TheVariants.{One}
use Rattle.zy_text.specs.Words.{lines_of, words_of}
use Rattle.zy_asm.specs.declared.faults.AsmKind.{AsmKind}
use Rattle.zy_asm.specs.declared.faults.AsmKind.TheVariants as kinds
use Rattle.zy_asm.specs.declared.faults.AsmFault.{AsmFault}
use Rattle.zy_asm.specs.declared.faults.LineFault.{LineFault}
use Rattle.zy_asm.specs.Reasons.{kind_of, fault_of}
use Rattle.zy_asm.specs.declared.choices.Action.TheVariants.{Txn}
use Rattle.zy_asm.specs.declared.reading.keyword.Keyword.{Keyword}
use Rattle.zy_asm.specs.declared.reading.keyword.Keyword.TheVariants as k
use Rattle.zy_asm.specs.declared.state.Stage.{Stage}
use Rattle.zy_asm.specs.declared.state.Stage.TheVariants.{Zephyr, Cap, Pages, Rule, Done}
use Rattle.zy_asm.specs.declared.state.Reader.{Reader}
use Rattle.zy_text.specs.Names.{label_of}
use Rattle.zy_isa.specs.Results.{◌>>=◌}
use Rattle.zy_asm.specs.Reading.Progress.{Seen, progress_of}
use Rattle.zy_asm.specs.Reading.Keywords.{keyword_of}
use Rattle.zy_asm.specs.Reading.HeadLines.{zephyr_line, cap_line, pages_line, rule_line}
use Rattle.zy_asm.specs.Reading.RowLines.{row_at}
use Rattle.zy_asm.specs.Reading.ProgramLines.{instr_at, label_line, closed, txn_at}
use Rattle.zy_asm.specs.Reading.ChoiceLines.{choice_line, end_line}

abbrev pub statement : Option Keyword → Seen → List (List ℕ) → Result Seen AsmKind
statement None s ws = Err kinds.Word
statement (Some k.Header) s ws = Err kinds.Order
statement (Some k.Row) s ws = row_at s.stage s ws
statement (Some k.Txn) s ws = txn_at s.stage s ws
statement (Some (k.Instr op)) s ws = instr_at s.stage s op ws
statement (Some (k.Choice a)) s ws = closed s >>= λ u. choice_line u a ws
statement (Some k.End) s ws = closed s >>= λ u. end_line u ws

-- a line that begins with a label, or with its keyword
abbrev pub line_led_by : Option (List ℕ) → Seen → List ℕ → List (List ℕ) → Result Seen AsmKind
line_led_by (Some name) s w ws = label_line s name ws
line_led_by None s w ws = statement (keyword_of s.version w) s ws

-- a line below the header
abbrev pub body_line : Seen → List (List ℕ) → Result Seen AsmKind
body_line s [] = Err kinds.Word
body_line s (w ∷ ws) = line_led_by (label_of w) s w ws

abbrev pub line_at : Stage → Seen → List (List ℕ) → Result Seen AsmKind
line_at Zephyr s ws = zephyr_line s ws
line_at Cap s ws = cap_line s ws
line_at Pages s ws = pages_line s ws
line_at Rule s ws = rule_line s ws
line_at Done s ws = Err kinds.End
line_at _ s ws = body_line s ws

-- a line with words, after what was seen
abbrev pub step : Seen → List (List ℕ) → Result Seen AsmKind
step s ws = line_at s.stage s ws

-- a line
abbrev pub line_step : Seen → List (List ℕ) → Result Seen AsmKind
line_step s [] = Ok s
line_step s (w ∷ ws) = step s (w ∷ ws)

-- the end of the input
abbrev pub end_reached : Stage → Result (Unit {0}) AsmKind
end_reached Done = Ok tt
end_reached _ = Err kinds.End

abbrev pub finish : Seen → Result Seen AsmKind
finish s = end_reached s.stage >>= λ _. Ok s

-- a fault of the line n
abbrev pub at_line : {X : Type 0} → ℕ → Result X AsmKind → Result X AsmFault
at_line n (Ok x) = Ok x
at_line n (Err e) = Err (record { line = n; kind = e })

-- the lines from the line n on
abbrev pub read_lines : Seen → ℕ → List (List ℕ) → Result Seen AsmFault
read_lines s n [] = at_line n (finish s)
read_lines s n (l ∷ ls) = at_line n (line_step s (words_of l)) >>= λ t. read_lines t (n + 1) ls

abbrev pub nothing_seen : Seen
nothing_seen = record {
  stage = Zephyr;
  version = One;
  cap = 2;
  pages = 1;
  rule = Held;
  rows = [];
  names = [];
  programs = [];
  labels = [];
  instrs = [];
  choices = [];
}

-- what a text gives, or its first fault
abbrev pub reading : List ℕ → Result Seen AsmFault
reading text = read_lines nothing_seen 1 (lines_of text)

-- the answer is what reading gives, unless there was no memory
abbrev pub Reads : Result Reader LineFault → Result Seen AsmFault → Type 0
Reads (Ok x) read = read ≡ Ok (progress_of x)
Reads (Err r) read = (kind_of r.reason ≡ kinds.Memory) ⊎ (read ≡ Err (fault_of r))
