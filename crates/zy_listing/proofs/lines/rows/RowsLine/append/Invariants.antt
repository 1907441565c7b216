-- The text so far is that of those before this one.
use Rattle.std.proofs.Common.{◌≡◌, ◌++◌, take}
use Rattle.zy_listing.specs.Texts.{rows_text}
use Rattle.zy_listing.proofs.lines.rows.RowsLine.append.Given as goal

abbrev pub invariant-loop-row : goal.invariant-loop-row
invariant-loop-row l = l.line ≡ l.initial.line ++ rows_text (take l.row-index l.self.0.now)
