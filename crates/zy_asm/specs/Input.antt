-- Input that is bytes: the fault where it is not UTF-8, and what it gives.
use Rattle.std.specs.Prelude.{◌==◌, ◌+◌, ℕ, List, take, count_by, Option, Some, None, Result, Err, if◌then◌else◌}
use Rattle.std.specs.Result.{result_err}
use Rattle.std.specs.Str.{is_utf8}
use Rattle.std.specs.Str.Lossy.{utf8_valid_len}
use Rattle.zy_asm.specs.declared.faults.AsmFault.{AsmFault}
use Rattle.zy_asm.specs.declared.faults.AsmKind.TheVariants as kinds
use Rattle.zy_asm.specs.Reading.Progress.{Seen}
use Rattle.zy_asm.specs.Reading.{reading}

-- the line, from 1, that this number of bytes leads to
abbrev pub line_after : ℕ → List ℕ → ℕ
line_after n bytes = 1 + count_by (λ b. b == 10) (take n bytes)

-- bytes that are not UTF-8 have a faulty word in the line of the first wrong byte
abbrev pub utf8_fault : List ℕ → Option AsmFault
utf8_fault bytes = if is_utf8 bytes then None else Some
    (record { line = line_after (utf8_valid_len bytes) bytes; kind = kinds.Word })

abbrev pub unless_faulty : Option AsmFault → List ℕ → Result Seen AsmFault
unless_faulty None bytes = reading bytes
unless_faulty (Some f) bytes = Err f

-- what bytes give, or their first fault: whether they are UTF-8 is judged first
abbrev pub reading_bytes : List ℕ → Result Seen AsmFault
reading_bytes bytes = unless_faulty (utf8_fault bytes) bytes

-- the first fault of bytes that are to be a scenario's text
abbrev pub input_fault : List ℕ → Option AsmFault
input_fault bytes = result_err (reading_bytes bytes)
