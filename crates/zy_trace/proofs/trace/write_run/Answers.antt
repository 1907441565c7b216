-- The rest follows the opening.
use Rattle.std.proofs.Common.{◌∙◌, ℕ, List, [], Err, ap, refl, subst, sym}
use Rattle.std.proofs.KnownBytes.{Appends-nil}
use Rattle.std.proofs.lemmas.Result.{err_from_is_err_and}
use Rattle.zy_io.specs.Writing.{Wrote}
use Rattle.zy_io.proofs.WritingLemmas.{Wrote-stops, Wrote-then}
use Rattle.zy_trace.proofs.TraceLemmas.{trace-parts}
use Rattle.zy_trace.proofs.trace.write_run.Goals as goal

pub returns-in_err-write_opening-clause-wrote : goal.returns-in_err-write_opening-clause-wrote
returns-in_err-write_opening-clause-wrote g c =
    let p = err_from_is_err_and c.from_residual.result c.from_residual.ensures.1 in
    Wrote-stops _ _ _ c.in_err-write_opening.field-0.0 c.from_residual.result [] _ _ _ (Appends-nil (g.K.Sink.sent c.args.sink.now).written) refl
    c.in_err-write_opening.ensures (sym (trace-parts c.args.machine.now.scenario)) (p.1 ∙ ap Err p.2)

pub returns-clause-wrote : goal.returns-clause-wrote
returns-clause-wrote g c =
    let Text : List ℕ → Type 0 = λ text. Wrote (g.K.Sink.sent c.args.sink.now) (g.K.Sink.sent c.write_rest.new.sink) c.write_rest.result text in
    subst Text (trace-parts c.args.machine.now.scenario)
    (Wrote-then _ _ _ _ _ _ c.in_ok-write_opening.ensures c.write_rest.ensures.wrote)
