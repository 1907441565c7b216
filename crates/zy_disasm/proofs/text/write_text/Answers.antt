-- The lines that were written are the canonical text.
use Rattle.std.proofs.Common.{ℕ, List, subst}
use Rattle.zy_io.specs.Writing.{Wrote}
use Rattle.zy_disasm.proofs.CanonLemmas.{canon-parts}
use Rattle.zy_disasm.proofs.text.write_text.Goals as goal

pub returns : goal.returns
returns g c =
    let Told : List ℕ → Type 0 = λ text. Wrote (g.K.Sink.sent c.args.sink.now) (g.K.Sink.sent c.write.new.sink) c.write.result text in
    subst Told (canon-parts c.args.scenario.now) (rw c.choices.ensures.value at c.write.ensures)
