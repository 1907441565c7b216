-- What was seen and the lines that are left give what the text gives.
use Rattle.std.proofs.Common.{◌≡◌, ◌≤◌, ◌+◌, length}
use Rattle.zy_text.specs.Words.{lines_of}
use Rattle.zy_asm.specs.Reading.Progress.{progress_of}
use Rattle.zy_asm.specs.Reading.{reading, read_lines}
use Rattle.zy_asm.proofs.reading.read.Given as goal

abbrev pub invariant-loop-words : goal.invariant-loop-words
invariant-loop-words l = record {
  same : read_lines (progress_of l.reader) l.line (lines_of l.rest) ≡ reading l.text;
  few : l.line + length l.rest ≤ length l.text + 1;
}

abbrev pub decreases-loop-words : goal.decreases-loop-words
decreases-loop-words l = length l.rest
