-- What a run of a scenario text does.
use Rattle.std.specs.Prelude.{◌≡◌, ℕ, List, None, Some, Result}
use Rattle.zy_io.specs.Streams.{Sent}
use Rattle.zy_io.specs.Inputs.{IsAccepted, OnInput}
use Rattle.zy_io.specs.declared.reading.ReadFault.{ReadFault}
use Rattle.zy_io.specs.declared.reading.ReadFault.TheVariants as reading
use Rattle.zy_io.specs.declared.writing.TextFault.{TextFault}
use Rattle.zy_io.specs.declared.writing.TextFault.TheVariants as writing
use Rattle.zy_isa.specs.Scenario.{Scenario}
use Rattle.zy_machine.specs.Histories.{History}
use Rattle.zy_text.specs.Text.{Means}
use Rattle.zy_asm.specs.declared.faults.AsmKind.{AsmKind}
use Rattle.zy_asm.specs.declared.faults.AsmKind.TheVariants as kinds
use Rattle.zy_asm.specs.declared.faults.LineFault.{LineFault}
use Rattle.zy_asm.specs.Input.{input_fault}
use Rattle.zy_asm.specs.Reasons.{fault_of, kind_of}
use Rattle.zy_listing.specs.Run.{WroteRun, listing_run}
use Rattle.zy_first.specs.declared.faults.RunFault.{RunFault}
use Rattle.zy_first.specs.declared.faults.RunFault.TheVariants.{Input, TooLong, Read, Write, Memory}

-- ---- faults

-- the fault that is reported of one of reading, of one of writing, and of a refused text
abbrev pub of_reading : ReadFault → RunFault
of_reading reading.Read = Read
of_reading reading.TooLong = TooLong
of_reading reading.Memory = Memory

abbrev pub of_writing : TextFault → RunFault
of_writing writing.Write = Write
of_writing writing.Memory = Memory

abbrev pub of_kind : AsmKind → LineFault → RunFault
of_kind kinds.Memory r = Memory
of_kind _ r = Input r

abbrev pub of_refusal : LineFault → RunFault
of_refusal r = of_kind (kind_of r.reason) r

abbrev pub status_of : RunFault → ℕ
status_of (Input r) = 1
status_of TooLong = 1
status_of Memory = 3
status_of Read = 5
status_of Write = 5

-- ---- the text

-- the text means this scenario and no other, and has no fault
abbrev pub IsTextOf : List ℕ → Scenario → Type 0
IsTextOf text = IsAccepted (Means text) (input_fault text ≡ None)

-- the fault is the first one of the text, or that there was no memory
abbrev pub IsFaultOf : List ℕ → RunFault → Type 0
IsFaultOf text (Input r) = input_fault text ≡ Some (fault_of r)
IsFaultOf text Memory = Unit {0}
IsFaultOf text _ = ⊥

-- the listing of the scenario that the text means is written, or the text is refused
abbrev pub Lists : List ℕ → Sent → Sent → Result History RunFault → Type 0
Lists text = OnInput (IsTextOf text) (IsFaultOf text) of_writing (WroteRun listing_run)
