-- The fault of one row's text is that of all.
use Rattle.std.proofs.Common.{Err, ap, ◌∙◌}
use Rattle.std.proofs.lemmas.Result.{err_from_is_err_and}
use Rattle.zy_io.proofs.WritingLemmas.{Appended-element-stops}
use Rattle.zy_listing.specs.Texts.{cell_text}
use Rattle.zy_listing.proofs.lines.rows.RowsLine.append.Goals as goal

pub returns-in_err-append : goal.returns-in_err-append
returns-in_err-append c =
    let p = err_from_is_err_and c.from_residual.result c.from_residual.ensures.1 in
    Appended-element-stops cell_text c.args.self.now.0.now c.loop-row.row-index _ c.args.line.now c.loop-row.line c.append.new.line _ _ c.loop-row-test.true
    c.loop-row.invariant c.in_err-append.ensures (p.1 ∙ ap Err p.2)
