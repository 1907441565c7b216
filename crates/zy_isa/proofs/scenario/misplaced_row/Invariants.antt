use Rattle.std.proofs.Common.{◌≡◌, ◌+◌, drop}
use Rattle.zy_isa.specs.Rows.{misplaced_row, misplaced_after}
use Rattle.zy_isa.proofs.scenario.misplaced_row.Given as goal

abbrev pub invariant-loop-i : goal.invariant-loop-i
invariant-loop-i l = misplaced_after l.last (l.i + 1) (drop l.i l.rest) ≡ misplaced_row l.fn.rows
