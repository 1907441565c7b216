-- The end follows the steps.
use Rattle.std.proofs.Common.{subst}
use Rattle.zy_io.specs.Writing.{Wrote}
use Rattle.zy_io.proofs.WritingLemmas.{Wrote-then}
use Rattle.zy_machine.specs.Histories.{History}
use Rattle.zy_trace.specs.Steps.{end_text}
use Rattle.zy_trace.proofs.trace.write_rest.Goals as goal

pub returns-clause-wrote : goal.returns-clause-wrote
returns-clause-wrote g c =
    let End : History → Type 0 = λ h. Wrote (g.K.Sink.sent c.write_all_steps.new.sink) (g.K.Sink.sent c.write_end.new.sink) c.write_end.result (end_text h) in
    let steps = c.in_ok-write_all_steps.ensures in
    Wrote-then _ _ _ _ _ _ steps.wrote (subst End steps.made c.write_end.ensures)
