-- What the engine does: it reads a scenario and logs below it, and writes the scenario with an order of them.
use Rattle.std.specs.Prelude.{◌≡◌, ◌==◌, ◌≤◌, ◌+◌, ◌-◌, ◌++◌, ◌⊎◌, ℕ, List, [], None, Result, Ok, Err, IfOk, IfErr}
use Rattle.std.specs.Prelude.{count_by, drop, length}
use Rattle.std.specs.declared.vec.Vec.{Vec}
use Rattle.std.specs.declared.alloc.Global.{Global}
use Rattle.zy_io.specs.Streams.{Sent, Sends, SendsPrefix, NoneFailed, OneFailed}
use Rattle.zy_io.specs.declared.writing.TextFault.{TextFault}
use Rattle.zy_io.specs.declared.writing.TextFault.TheVariants.{Write, Memory}
use Rattle.zy_isa.specs.Limits.{max_choices}
use Rattle.zy_isa.specs.Scenario.{Scenario, AreNamed}
use Rattle.zy_machine.specs.Histories.{History}
use Rattle.zy_text.specs.Cut.{cut}
use Rattle.zy_text.specs.Lines.{texts}
use Rattle.zy_text.specs.Words.{lines_of}
use Rattle.zy_text.specs.Text.{Means}
use Rattle.zy_asm.specs.Names.{names_of}
use Rattle.zy_threads.specs.Orders.{reordered}
use Rattle.zy_logs.specs.declared.faults.LogFault.{LogFault}
use Rattle.zy_logs.specs.declared.faults.LogFault.TheVariants as reading
use Rattle.zy_logs.specs.declared.faults.LogLineFault.{LogLineFault}
use Rattle.zy_logs.specs.declared.logs.NumberedLine.{NumberedLine}
use Rattle.zy_logs.specs.declared.txns.Txns.{Txns}
use Rattle.zy_logs.specs.Logs.{AreInLogs, logs_of, steps, steps_in, choices_of}
use Rattle.zy_json.specs.declared.faults.JsonLineFault.{JsonLineFault}
use Rattle.zy_json.specs.Logs.{IsFirstNone, TellEach}
use Rattle.zy_order.specs.declared.answer.OrderAnswer.{OrderAnswer}
use Rattle.zy_order.specs.declared.answer.OrderAnswer.TheVariants as answer
use Rattle.zy_order.specs.declared.answer.OrderReport.{OrderReport}
use Rattle.zy_order.specs.declared.gaps.Gaps.{Gaps}
use Rattle.zy_order.specs.Answers.{IsAnswer}
use Rattle.zy_engine.specs.declared.wording.Wording.{Wording}
use Rattle.zy_engine.specs.declared.faults.BenchFault.TheVariants as bench
use Rattle.zy_engine.specs.Inputs.{IsTextFault}
use Rattle.zy_engine.specs.Searching.{history_of, IsWorded}
use Rattle.zy_order_engine.specs.declared.faults.BelowFault.{BelowFault}
use Rattle.zy_order_engine.specs.declared.faults.BelowFault.TheVariants as misread
use Rattle.zy_order_engine.specs.declared.options.OrderOptions.{OrderOptions}
use Rattle.zy_order_engine.specs.declared.ordering.OrderedLogs.{OrderedLogs}
use Rattle.zy_order_engine.specs.declared.faults.OrderFault.{OrderFault}
use Rattle.zy_order_engine.specs.declared.faults.OrderFault.TheVariants.{Bench, Log, Json}
use Rattle.zy_order_engine.specs.declared.log_format.LogFormat.{LogFormat}
use Rattle.zy_order_engine.specs.declared.log_format.LogFormat.TheVariants as format
use Rattle.zy_order_engine.specs.Faults.{failed_writes, IsQuiet}
use Rattle.zy_order_engine.specs.Missing.{AreGapsIn}

-- ---- the input

-- what is below the scenario part of an input
abbrev pub below : List ℕ → List ℕ
below input = drop (length (cut input)) input

-- the number of the line below this text
abbrev pub line_below : List ℕ → ℕ
line_below text = 1 + count_by (λ b. b == 10) text

-- how many choices a scenario has room for behind its own
abbrev pub room : Scenario → ℕ
room sc = max_choices - length sc.choices

-- the transactions of a scenario, with the names that its text gives them
pub record AreTxnsOf (sc : Scenario) (text : List ℕ) (txns : Txns) : Type 0 where
  pub count : txns.count ≡ length sc.programs
  pub names : texts txns.names.now ≡ names_of text

-- what the lines of logs below a scenario's text say, where a gap stands for at most `gap` steps
pub record Says (gap : ℕ) (text lines : List ℕ) (sc : Scenario) (said : Result (List NumberedLine) LogLineFault) : Type 0 where
  pub txns : Txns
  pub are : AreTxnsOf sc text txns
  pub logs : logs_of txns gap (room sc) (line_below text) lines ≡ said

-- what is below a scenario tells the lines of logs: it has them itself, or each of its lines is the object of one
abbrev pub TellsLogs : LogFormat → List ℕ → List ℕ → Type 0
TellsLogs format.Text under logs = logs ≡ under
TellsLogs format.Json under logs = TellEach (lines_of under) (lines_of logs)

-- what is said by what is below a scenario's text, where a gap stands for at most `gap` steps
pub record SaysIn (f : LogFormat) (gap : ℕ) (text under : List ℕ) (sc : Scenario) (said : Result (List NumberedLine) LogLineFault) : Type 0 where
  pub logs : List ℕ
  pub tells : TellsLogs f under logs
  pub says : Says gap text logs sc said

-- the first line below a scenario's text that is to be an object and tells no line of a log
abbrev pub IsNoObject : LogFormat → List ℕ → List ℕ → JsonLineFault → Type 0
IsNoObject f text under r = (f ≡ format.Json) × IsFirstNone (line_below text) (lines_of under) r

-- the answer is what the lines of logs say, unless there was no memory
abbrev pub ReadsLines : ℕ → List ℕ → List ℕ → Scenario → Result (Vec NumberedLine Global) LogFault → Type 0
ReadsLines gap text lines sc (Ok v) = Says gap text lines sc (Ok v.items)
ReadsLines gap text lines sc (Err (reading.Refused r)) = Says gap text lines sc (Err r)
ReadsLines gap text lines sc (Err reading.Memory) = Unit {0}

-- the answer is what is said below a scenario, unless there was no memory
abbrev pub ReadsBelow : LogFormat → ℕ → List ℕ → List ℕ → Scenario → Result (Vec NumberedLine Global) BelowFault → Type 0
ReadsBelow f gap text under sc (Ok v) = SaysIn f gap text under sc (Ok v.items)
ReadsBelow f gap text under sc (Err (misread.Log r)) = SaysIn f gap text under sc (Err r)
ReadsBelow f gap text under sc (Err (misread.Json r)) = IsNoObject f text under r
ReadsBelow f gap text under sc (Err misread.Memory) = Unit {0}

-- lines can be logs of steps that follow a machine's: each is of its log and names a transaction, and the history has room for all steps
pub record CanFollow (h : History) (gap : ℕ) (lines : List NumberedLine) : Type 0 where
  pub logs : AreInLogs (steps lines)
  pub named : AreNamed (length h.scenario.programs) (choices_of lines)
  pub room : length h.entries + steps_in gap lines ≤ max_choices

-- ---- the answer

-- a text of an answer: of the scenario with the choices of an order behind its own, or nothing
abbrev pub IsTextOf : Wording → Scenario → OrderAnswer → List ℕ → Type 0
IsTextOf w sc (answer.Found v) text = IsWorded w (reordered sc (sc.choices ++ v.items)) text
IsTextOf w sc (answer.OtherEnd v) text = text ≡ []
IsTextOf w sc (answer.Nowhere v) text = text ≡ []
IsTextOf w sc (answer.Spent v) text = text ≡ []

-- an answer for lines that follow a scenario's own choices, and a text of it
pub record IsAnswerOf (o : OrderOptions) (sc : Scenario) (lines : List NumberedLine) (a : OrderAnswer) (text : List ℕ) : Type 0 where
  pub gaps : Gaps
  pub are : AreGapsIn o.gap lines gaps
  pub answer : IsAnswer (history_of None sc) (steps lines) gaps o.end a
  pub is : IsTextOf o.wording sc a text

-- an answer for the scenario and the logs that an input means, and a text of it
pub record IsAnswerTo (o : OrderOptions) (input : List ℕ) (a : OrderAnswer) (text : List ℕ) : Type 0 where
  pub scenario : Scenario
  pub means : Means (cut input) scenario
  pub lines : List NumberedLine
  pub says : SaysIn o.logs o.gap (cut input) (below input) scenario (Ok lines)
  pub is : IsAnswerOf o scenario lines a text

-- the fault is the first one of an input, or that there was no memory, or that a call of the writer failed
abbrev pub IsFaultOf : OrderOptions → List ℕ → OrderFault → Type 0
IsFaultOf o input (Bench f) = IsTextFault (cut input) f ⊎ (f ≡ bench.Write)
IsFaultOf o input (Log r) = (sc : Scenario) × Means (cut input) sc × SaysIn o.logs o.gap (cut input) (below input) sc (Err r)
IsFaultOf o input (Json r) = (sc : Scenario) × Means (cut input) sc × IsNoObject o.logs (cut input) (below input) r

-- a machine that has made all choices of the scenario that an input means
pub record HasRun (input : List ℕ) (m : History) : Type 0 where
  pub means : Means (cut input) m.scenario
  pub ran : m ≡ history_of None m.scenario

-- ---- what goes out

-- nothing went out, or a prefix of a text of an answer
abbrev pub WrotePart : (OrderAnswer → List ℕ → Type 0) → Sent → Sent → Type 0
WrotePart Is old new = (new.written ≡ old.written) ⊎ ((a : OrderAnswer) × (text : List ℕ) × Is a text × SendsPrefix old new text)

-- a text of this answer went out
abbrev pub WroteText : (OrderAnswer → List ℕ → Type 0) → Sent → Sent → OrderAnswer → Type 0
WroteText Is old new a = (text : List ℕ) × Is a text × Sends old new text

-- a call that writes a text of an answer: at Ok all of it, and the answer is the one that is returned
abbrev pub WroteOrder : (OrderAnswer → List ℕ → Type 0) → Sent → Sent → Result OrderReport TextFault → Type 0
WroteOrder Is old new (Ok r) = WroteText Is old new r.answer × NoneFailed old new
WroteOrder Is old new (Err Write) = WrotePart Is old new × OneFailed old new
WroteOrder Is old new (Err Memory) = WrotePart Is old new × NoneFailed old new

-- the engine, on an input in hand
pub record Answers (o : OrderOptions) (input : List ℕ) (old new : Sent)
    (result : Result OrderedLogs OrderFault) : Type 0 where
  -- at Ok the answer is one for what the input means, and exactly a text of it went out
  pub answered : IfOk result (λ r. WroteText (IsAnswerTo o input) old new r.report.answer)
  -- whatever comes, nothing but a prefix of a text of an answer went out
  pub part : WrotePart (IsAnswerTo o input) old new
  -- a rejected input is reported by its first fault
  pub fault : IfErr result (IsFaultOf o input)
  -- before the input is accepted nothing is written
  pub quiet : IfErr result (λ f. IsQuiet f → new.written ≡ old.written)
  -- each fault of the writer is one failed call
  pub writes : new.failures ≡ old.failures + failed_writes result
