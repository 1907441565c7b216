-- The programs: their heads, instructions and labels.
use Rattle.std.specs.Prelude.{is_some, ◌==◌, ℕ, List, [], ◌∷◌, ◌++◌, length, Option}
use Rattle.std.specs.Prelude.{Some, Result, Ok, Err, ok_or, if◌then◌else◌, nat_le}
use Rattle.zy_isa.specs.Limits.{max_txns, max_instrs}
use Rattle.zy_isa.specs.declared.operation.Operation.{Operation}
use Rattle.zy_text.specs.Words.{number_of, is_numeral}
use Rattle.zy_asm.specs.declared.faults.AsmKind.{AsmKind}
use Rattle.zy_asm.specs.declared.faults.AsmKind.TheVariants as kinds
use Rattle.zy_asm.specs.declared.reading.keyword.Keyword.{Keyword}
use Rattle.zy_asm.specs.declared.reading.keyword.Keyword.TheVariants as k
use Rattle.zy_asm.specs.declared.state.Stage.{Stage}
use Rattle.zy_asm.specs.declared.state.Stage.TheVariants.{Program, Choices}
use Rattle.zy_text.specs.Names.{is_name, place}
use Rattle.zy_isa.specs.Results.{◌>>=◌}
use Rattle.zy_asm.specs.Pending.{program_of}
use Rattle.zy_asm.specs.Instructions.{instr_of}
use Rattle.zy_asm.specs.Reading.Progress.{Seen}
use Rattle.zy_asm.specs.Reading.Keywords.{keyword_of}

abbrev pub instr_line : Seen → Operation → List (List ℕ) → Result Seen AsmKind
instr_line s op ws = instr_of op ws >>= λ i. if nat_le max_instrs (length s.instrs) then Err kinds.Count
    else Ok (record s { instrs = s.instrs ++ i ∷ [] })

abbrev pub instr_at : Stage → Seen → Operation → List (List ℕ) → Result Seen AsmKind
instr_at Program s op ws = instr_line s op ws
instr_at _ s op ws = Err kinds.Order

-- a label is noted once, with the index of the next instruction
abbrev pub note_label : Seen → List ℕ → Result Seen AsmKind
note_label s name = if is_some (place name s.labels) then Err kinds.Label
    else Ok (record s { labels = s.labels ++ (name, length s.instrs) ∷ [] })

-- behind a label is an instruction, or nothing
abbrev pub labelled_instr : Option Keyword → Seen → List (List ℕ) → Result Seen AsmKind
labelled_instr (Some (k.Instr op)) s ws = instr_line s op ws
labelled_instr _ s ws = Err kinds.Word

abbrev pub behind_label : Seen → List (List ℕ) → Result Seen AsmKind
behind_label s [] = Ok s
behind_label s (w ∷ ws) = labelled_instr (keyword_of s.version w) s ws

abbrev pub label_at : Stage → Seen → List ℕ → List (List ℕ) → Result Seen AsmKind
label_at Program s name ws = note_label s name >>= λ u. behind_label u ws
label_at _ s name ws = Err kinds.Order

abbrev pub label_line : Seen → List ℕ → List (List ℕ) → Result Seen AsmKind
label_line s name ws = if is_name name then label_at s.stage s name ws else Err kinds.Word

-- a program is closed by the line below it
abbrev pub closed_at : Stage → Seen → Result Seen AsmKind
closed_at Program s = program_of s.labels s.instrs >>= λ p. Ok
    (record s { stage = Choices; programs = s.programs ++ p ∷ []; labels = []; instrs = [] })
closed_at _ s = Ok s

abbrev pub closed : Seen → Result Seen AsmKind
closed s = closed_at s.stage s

-- the program's own number
abbrev pub own_number : ℕ → List ℕ → Result ℕ AsmKind
own_number count w = do
  n ← ok_or (number_of w) kinds.Number
  if n == count then Ok n else Err kinds.Label

-- a name is noted once, with the program's number
abbrev pub note_name : Seen → List ℕ → Result Seen AsmKind
note_name s name = if is_some (place name s.names) then Err kinds.Label
    else Ok (record s { names = s.names ++ (name, length s.programs) ∷ [] })

-- the head of a program: its own number, or a new name
abbrev pub head_line : Seen → List ℕ → Result Seen AsmKind
head_line s w =
    if is_numeral w then (own_number (length s.programs) w >>= λ _. Ok s) else
    if is_name w then note_name s w else
    Err kinds.Word

abbrev pub open_line : Seen → List (List ℕ) → Result Seen AsmKind
open_line s (t ∷ []) = head_line s t >>= λ u. if nat_le max_txns (length u.programs) then Err kinds.Count
    else Ok (record u { stage = Program })
open_line s _ = Err kinds.Word

abbrev pub txn_at : Stage → Seen → List (List ℕ) → Result Seen AsmKind
txn_at Choices s ws = Err kinds.Order
txn_at _ s ws = closed s >>= λ u. open_line u ws
