-- The lines that were written are the canonical text.
use Rattle.std.proofs.Common.{ℕ, List, subst, take}
use Rattle.zy_io.specs.Writing.{Wrote}
use Rattle.zy_engine.proofs.SearchLemmas.{canon-with}
use Rattle.zy_engine.proofs.searching.write_canonical.Goals as goal

pub returns : goal.returns
returns g c =
    let Told : List ℕ → Type 0 = λ text. Wrote (g.K.Sink.sent c.args.sink.now) (g.K.Sink.sent c.write.new.sink) c.write.result text in
    subst Told (canon-with c.args.scenario.now (take c.args.kept c.args.scenario.now.choices) c.args.more.now)
    (rw c.choices.ensures.value at c.write.ensures)
