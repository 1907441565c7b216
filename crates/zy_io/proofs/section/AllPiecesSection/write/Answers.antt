-- The fault of one line is that of all.
use Rattle.std.proofs.Common.{[], Err, ap, ◌∙◌, arith}
use Rattle.std.proofs.lemmas.Result.{err_from_is_err_and}
use Rattle.zy_io.specs.Writing.{line_of}
use Rattle.zy_io.proofs.WritingLemmas.{Wrote-element-stops}
use Rattle.zy_io.proofs.section.AllPiecesSection.write.Goals as goal

pub returns-in_err-put_piece : goal.returns-in_err-put_piece
returns-in_err-put_piece g c =
    let p = err_from_is_err_and c.from_residual.result c.from_residual.ensures.1 in
    Wrote-element-stops _ _ _ line_of (g.L.PieceLines.texts c.args.self.now.0) c.loop-place.place [] c.in_err-put_piece.field-0.0 _
    (omega arith) c.loop-place.invariant.so_far
    c.loop-place.invariant.none_failed (rw c.line.ensures.text at c.in_err-put_piece.ensures) (p.1 ∙ ap Err p.2)
