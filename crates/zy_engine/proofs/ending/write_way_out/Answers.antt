use Rattle.std.proofs.Common.{◌∙◌}
use Rattle.std.proofs.lemmas.Result.{err_from_is_err_and}
use Rattle.zy_engine.proofs.EndingLemmas.{all_few, ended_badly, ended_full, ended_nowhere, ended_well}
use Rattle.zy_engine.proofs.ending.write_way_out.Goals as goal

pub write_found-requires-clause-taken : goal.write_found-requires-clause-taken
write_found-requires-clause-taken g c = all_few c.args.machine.now c.requires.ran

pub returns-in_err-write_found-in-Ok : goal.returns-in_err-write_found-in-Ok
returns-in_err-write_found-in-Ok g c =
    let p = err_from_is_err_and c.from_residual.result c.from_residual.ensures.1 in
    rw (p.1, p.2) (ended_badly c.args.wording c.args.machine.now c.deref.result.now (g.K.Sink.sent c.args.sink.now) (g.K.Sink.sent c.write_found.new.sink)
    c.in_err-write_found-in-Ok.field-0.0 c.requires.ran (c.deref.ensures.value ∙ c.in-Ok.ensures.choices) c.in_err-write_found-in-Ok.ensures)

pub returns-in_ok-write_found-in-Ok : goal.returns-in_ok-write_found-in-Ok
returns-in_ok-write_found-in-Ok g c =
    ended_well c.args.wording c.args.machine.now c.deref.result.now (g.K.Sink.sent c.args.sink.now) (g.K.Sink.sent c.write_found.new.sink) c.in_ok-write_found-in-Ok.field-0 c.requires.ran
    (c.deref.ensures.value ∙ c.in-Ok.ensures.choices) c.in_ok-write_found-in-Ok.ensures

pub returns-in-Err-NoRoom : goal.returns-in-Err-NoRoom
returns-in-Err-NoRoom g c =
    ended_full c.args.wording c.args.machine.now (g.K.Sink.sent c.args.sink.now) c.requires.ran
    (c.way_out.ensures.full (cc (c.in-Err-NoRoom.is, c.in-Err-NoRoom.field-0-is)))

pub returns-in-Err-Memory : goal.returns-in-Err-Memory
returns-in-Err-Memory g c =
    ended_nowhere c.args.wording c.args.machine.now.scenario (g.K.Sink.sent c.args.sink.now)
