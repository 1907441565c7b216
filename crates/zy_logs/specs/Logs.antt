-- What the lines of a text say, each a line of a log.
use Rattle.std.specs.Prelude.{◌≡◌, ◌⊎◌, ℕ, ◌+◌, ◌-◌, ◌++◌, nat_le, List, [], ◌∷◌, map, Option, Some, None, Result, Ok, Err, if◌then◌else◌}
use Rattle.std.specs.declared.vec.Vec.{Vec}
use Rattle.std.specs.declared.alloc.Global.{Global}
use Rattle.zy_isa.specs.declared.choice.Choice.{Choice}
use Rattle.zy_isa.specs.Choices.{actor_of}
use Rattle.zy_isa.specs.declared.node.Actor.TheVariants.{C}
use Rattle.zy_isa.specs.Results.{◌>>=◌}
use Rattle.zy_text.specs.Words.{lines_of, words_of}
use Rattle.zy_logs.specs.declared.expected.ExpectedInLog.TheVariants.{FewerLines}
use Rattle.zy_logs.specs.declared.expected.Misread.{Misread}
use Rattle.zy_logs.specs.declared.faults.LogLineFault.{LogLineFault}
use Rattle.zy_logs.specs.declared.faults.LogFault.{LogFault}
use Rattle.zy_logs.specs.declared.faults.LogFault.TheVariants.{Refused, Memory}
use Rattle.zy_logs.specs.declared.log_line.LogLine.{LogLine}
use Rattle.zy_logs.specs.declared.log_line.Logged.{Logged}
use Rattle.zy_logs.specs.declared.log_line.Logged.TheVariants.{Step, Gap}
use Rattle.zy_logs.specs.declared.logs.LogReader.{LogReader}
use Rattle.zy_logs.specs.declared.logs.NumberedLine.{NumberedLine}
use Rattle.zy_logs.specs.declared.txns.Txns.{Txns}
use Rattle.zy_logs.specs.Words.{Word}
use Rattle.zy_logs.specs.Lines.{line_of}

-- a word of line n does not fit
abbrev pub in_line : {T : Type 0} → ℕ → Result T Misread → Result T LogLineFault
in_line n (Ok x) = Ok x
in_line n (Err e) = Err (record { line = n; word = e.word; expected = e.expected })

-- how many steps a line counts for: a gap for as many as it may stand for
abbrev pub steps_of : ℕ → Logged → ℕ
steps_of gap (Step line) = 1
steps_of gap (Gap x) = gap

-- how many steps lines count for
abbrev pub steps_in : ℕ → List NumberedLine → ℕ
steps_in gap [] = 0
steps_in gap (l ∷ lines) = steps_of gap l.logged + steps_in gap lines

-- line n, where there is room for its steps: there is room for `left` steps
abbrev pub fitting : ℕ → ℕ → ℕ → Logged → Result (Option NumberedLine) LogLineFault
fitting gap left n logged =
    if nat_le (steps_of gap logged) left then Ok (Some (record { number = n; logged = logged })) else
    Err (record { line = n; word = 0; expected = FewerLines })

-- what the words of line n say; a line without words says nothing
abbrev pub line_at : Txns → ℕ → ℕ → ℕ → List Word → Result (Option NumberedLine) LogLineFault
line_at txns gap left n [] = Ok None
line_at txns gap left n (w ∷ ws) = in_line n (line_of txns (w ∷ ws)) >>= fitting gap left n

-- one line, or none
abbrev pub listed : Option NumberedLine → List NumberedLine
listed None = []
listed (Some line) = line ∷ []

-- lines, and those that come after them
abbrev pub joined : List NumberedLine → Result (List NumberedLine) LogLineFault → Result (List NumberedLine) LogLineFault
joined lines (Ok more) = Ok (lines ++ more)
joined lines (Err r) = Err r

-- what lines say, the first of which is line n, where there is room for `left` steps; or the first fault
abbrev pub lines_from : Txns → ℕ → ℕ → ℕ → List (List ℕ) → Result (List NumberedLine) LogLineFault
lines_from txns gap left n [] = Ok []
lines_from txns gap left n (l ∷ ls) = line_at txns gap left n (words_of l)
    >>= λ first. joined (listed first) (lines_from txns gap (left - steps_in gap (listed first)) (n + 1) ls)

-- what a text says whose first line has number n, where a gap counts for `gap` steps, and there may be `most`
abbrev pub logs_of : Txns → ℕ → ℕ → ℕ → List ℕ → Result (List NumberedLine) LogLineFault
logs_of txns gap most n text = lines_from txns gap most n (lines_of text)

-- the line of a step, or none
abbrev pub step_of : Logged → List LogLine
step_of (Step line) = line ∷ []
step_of (Gap x) = []

-- the lines of steps
abbrev pub steps : List NumberedLine → List LogLine
steps [] = []
steps (l ∷ lines) = step_of l.logged ++ steps lines

-- their choices
abbrev pub choices_of : List NumberedLine → List Choice
choices_of lines = map (λ (line : LogLine). line.choice) (steps lines)

-- a line stands in the log of its choice's actor, or tells a choice of the client
abbrev pub IsInALog : LogLine → Type 0
IsInALog line = (actor_of line.choice ≡ line.log) ⊎ (actor_of line.choice ≡ C)

-- so does each of some lines
abbrev pub AreInLogs : List LogLine → Type 0
AreInLogs [] = Unit {0}
AreInLogs (line ∷ lines) = IsInALog line × AreInLogs lines

-- how a reader takes a line: it adds what the line tells, if anything, and has less room, unless the line is refused or there was no memory
abbrev pub TakesLine : Result (Unit {0}) LogFault → (old new : LogReader) → Result (Option NumberedLine) LogLineFault → Type 0
TakesLine (Ok u) old new line = (first : Option NumberedLine) × (line ≡ Ok first) × (new.lines.items ≡ old.lines.items ++ listed first)
    × (new.left ≡ old.left - steps_in old.gap (listed first)) × (new.txns ≡ old.txns) × (new.gap ≡ old.gap)
TakesLine (Err (Refused r)) old new line = line ≡ Err r
TakesLine (Err Memory) old new line = Unit {0}

-- the answer is what the text says, unless there was no memory
abbrev pub Reads : Result (Vec NumberedLine Global) LogFault → Result (List NumberedLine) LogLineFault → Type 0
Reads (Ok v) said = said ≡ Ok v.items
Reads (Err (Refused r)) said = said ≡ Err r
Reads (Err Memory) said = Unit {0}
