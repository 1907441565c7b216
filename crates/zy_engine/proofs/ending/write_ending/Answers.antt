use Rattle.std.proofs.Common.{ap, subst}
use Rattle.std.proofs.lemmas.Result.{err_from_is_err_and}
use Rattle.zy_isa.specs.Scenario.{Scenario}
use Rattle.zy_machine.specs.Histories.{History}
use Rattle.zy_engine.specs.Ending.{WroteEnding}
use Rattle.zy_engine.proofs.EndingLemmas.{ended_nowhere}
use Rattle.zy_engine.proofs.ending.write_ending.Goals as goal

pub returns-in_err-machine : goal.returns-in_err-machine
returns-in_err-machine g c =
    let p = err_from_is_err_and c.from_residual.result c.from_residual.ensures.1 in
    rw (p.1, p.2) (ended_nowhere c.args.wording c.args.scenario (g.K.Sink.sent c.args.sink.now))

pub returns : goal.returns
returns g c =
    subst (λ (sc : Scenario). WroteEnding c.args.wording sc (g.K.Sink.sent c.args.sink.now) (g.K.Sink.sent c.write_way_out-ending.new.sink) c.write_way_out-ending.result)
    (ap (λ (h : History). h.scenario) c.in_ok-machine.ensures.run) c.write_way_out-ending.ensures
