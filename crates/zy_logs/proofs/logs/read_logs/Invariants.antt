-- The lines that were taken, and what those that are left say, are what the text says.
use Rattle.std.proofs.Common.{◌≡◌, ◌≤◌, ◌+◌, length}
use Rattle.zy_text.specs.Words.{lines_of}
use Rattle.zy_logs.specs.Logs.{joined, lines_from, logs_of}
use Rattle.zy_logs.proofs.logs.read_logs.Given as goal

abbrev pub invariant-loop-rest : goal.invariant-loop-rest
invariant-loop-rest l = record {
  same : logs_of l.txns l.gap l.most l.first l.text
      ≡ joined l.reader.lines.items (lines_from l.txns l.gap l.reader.left l.number (lines_of l.rest));
  txns : l.reader.txns ≡ l.txns;
  gap : l.reader.gap ≡ l.gap;
  within : l.number + length l.rest ≤ l.first + length l.text;
}

abbrev pub decreases-loop-rest : goal.decreases-loop-rest
decreases-loop-rest l = length l.rest
