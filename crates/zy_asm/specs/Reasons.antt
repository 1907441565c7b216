-- The kind of fault that a reason is.
use Rattle.std.specs.Prelude.{◌≡◌, ◌⊎◌, ℕ, List, Result, Ok, Err}
use Rattle.std.specs.Borrow.{Bor}
use Rattle.zy_asm.specs.declared.faults.AsmKind.{AsmKind}
use Rattle.zy_asm.specs.declared.faults.AsmKind.TheVariants as kinds
use Rattle.zy_asm.specs.declared.faults.AsmFault.{AsmFault}
use Rattle.zy_asm.specs.declared.faults.Reason.{Reason}
use Rattle.zy_asm.specs.declared.faults.Reason.TheVariants as why
use Rattle.zy_asm.specs.declared.faults.LineFault.{LineFault}
use Rattle.zy_asm.specs.declared.word_fault.WordFault.{WordFault}

abbrev pub kind_of : Reason → AsmKind
kind_of why.NotTheHeader = kinds.Header
kind_of why.NotText = kinds.Word
kind_of (why.NotKnown word) = kinds.Word
kind_of (why.NotAName word) = kinds.Word
kind_of (why.NotAnInstr word) = kinds.Word
kind_of why.WordCount = kinds.Word
kind_of (why.NotDigits word) = kinds.Number
kind_of (why.OutOfRange number least most) = kinds.Range
kind_of why.Misplaced = kinds.Order
kind_of (why.NotAbove key last) = kinds.Order
kind_of (why.NoTransaction number count) = kinds.Label
kind_of (why.NotOwnNumber number own) = kinds.Label
kind_of (why.NoName name) = kinds.Label
kind_of (why.NameTwice name) = kinds.Label
kind_of (why.NoLabel name) = kinds.Label
kind_of (why.LabelTwice name) = kinds.Label
kind_of (why.NoProgram number fault) = kinds.Program
kind_of why.RowCount = kinds.Count
kind_of (why.PageCount pages) = kinds.Count
kind_of why.InstrCount = kinds.Count
kind_of why.ProgramCount = kinds.Count
kind_of why.ChoiceCount = kinds.Count
kind_of why.BelowEnd = kinds.End
kind_of why.NoEnd = kinds.End
kind_of why.NoMemory = kinds.Memory

abbrev pub fault_of : LineFault → AsmFault
fault_of r = record { line = r.line; kind = kind_of r.reason }

-- an answer with the kind of its fault alone
abbrev pub by_kind : {X : Type 0} → Result X Reason → Result X AsmKind
by_kind (Ok x) = Ok x
by_kind (Err r) = Err (kind_of r)

-- an answer without the number of the word at fault
abbrev pub by_reason : {X : Type 0} → Result X WordFault → Result X Reason
by_reason (Ok x) = Ok x
by_reason (Err f) = Err f.reason

-- the word that an answer lends
abbrev pub seen_word : Result (Bor (List ℕ)) WordFault → Result (List ℕ) AsmKind
seen_word (Ok w) = Ok w.now
seen_word (Err f) = Err (kind_of f.reason)

-- the answer, seen so, is what was given, unless there was no memory
abbrev pub Gives : {X Y : Type 0} → (X → Y) → Result X Reason → Result Y AsmKind → Type 0
Gives view (Ok x) given = given ≡ Ok (view x)
Gives view (Err r) given = (kind_of r ≡ kinds.Memory) ⊎ (given ≡ Err (kind_of r))
