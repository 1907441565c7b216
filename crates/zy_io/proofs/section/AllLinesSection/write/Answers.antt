-- The fault of one line is that of all.
use Rattle.std.proofs.Common.{◌≡◌, ◌++◌, [], Err, ap, ◌∙◌, arith, refl, slice_index_or}
use Rattle.std.proofs.lemmas.Result.{err_from_is_err_and}
use Rattle.zy_io.specs.Writing.{line_of}
use Rattle.zy_io.specs.declared.writing.TextFault.TheVariants.{Memory}
use Rattle.zy_io.proofs.StreamLemmas.{SendsPrefix-none}
use Rattle.zy_io.proofs.WritingLemmas.{Wrote-element-stops}
use Rattle.zy_io.proofs.section.AllLinesSection.write.Goals as goal

pub returns-in_err-append : goal.returns-in_err-append
returns-in_err-append g c =
    let p = err_from_is_err_and c.from_residual.result c.from_residual.ensures.1 in
    Wrote-element-stops _ _ _ line_of (g.L.Lines.texts c.args.self.now.0) c.loop-place.place [] Memory _
    (omega arith) c.loop-place.invariant.so_far
    c.loop-place.invariant.none_failed (SendsPrefix-none (g.K.Sink.sent c.loop-place.sink) _, refl) (p.1 ∙ ap Err p.2)

pub returns-in_err-finish_line : goal.returns-in_err-finish_line
returns-in_err-finish_line g c =
    let p = err_from_is_err_and c.from_residual-in_err-finish_line.result c.from_residual-in_err-finish_line.ensures.1 in
    let text = slice_index_or (g.L.Lines.texts c.args.self.now.0) c.loop-place.place [] in
    let line : c.append.new.line ≡ text = c.in_ok-append.ensures ∙ ap (λ l. l ++ text) c.clear.ensures in
    Wrote-element-stops _ _ _ line_of (g.L.Lines.texts c.args.self.now.0) c.loop-place.place [] c.in_err-finish_line.field-0.0 _
    (omega arith) c.loop-place.invariant.so_far
    c.loop-place.invariant.none_failed (rw line at c.in_err-finish_line.ensures) (p.1 ∙ ap Err p.2)
