-- The lines that were written are the scenario and its opening state.
use Rattle.std.proofs.Common.{◌++◌, ◌∙◌, ℕ, List, ap, subst}
use Rattle.std.specs.List.{flat_map}
use Rattle.zy_disasm.proofs.CanonLemmas.{canon-before}
use Rattle.zy_io.specs.Writing.{line_of, Wrote}
use Rattle.zy_machine.specs.Histories.{History}
use Rattle.zy_text.specs.Canon.{canon}
use Rattle.zy_trace.specs.Trace.{opening_lines}
use Rattle.zy_trace.proofs.trace.write_opening.Goals as goal

pub returns : goal.returns
returns g c =
    let Text : List ℕ → Type 0 = λ text. Wrote (g.K.Sink.sent c.args.sink.now) (g.K.Sink.sent c.write.new.sink) c.write.result text in
    let h = c.args.machine.now in
    subst Text
    (canon-before h.scenario (opening_lines h.state)
    ∙ ap (λ (x : History). canon h.scenario ++ flat_map line_of (opening_lines x.state)) c.requires.opened)
    (rw (c.choices.ensures.value, c.scenario-scenario.ensures.value) at c.write.ensures)
