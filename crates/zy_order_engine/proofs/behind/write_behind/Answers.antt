-- The machine has made all choices of the scenario, so the others come behind these.
use Rattle.std.proofs.Common.{◌++◌, subst}
use Rattle.zy_engine.specs.Searching.{IsWorded, WroteSome}
use Rattle.zy_threads.specs.Orders.{reordered}
use Rattle.zy_engine.proofs.EndingLemmas.{all_few}
use Rattle.zy_order_engine.proofs.TakenLemmas.{ran_all}
use Rattle.zy_order_engine.proofs.behind.write_behind.Goals as goal

pub write_found-requires-clause-taken : goal.write_found-requires-clause-taken
write_found-requires-clause-taken g c = all_few c.args.machine.now c.requires.ran

pub returns : goal.returns
returns g c =
    let sent = g.K.Sink.sent in
    let sc = c.args.machine.now.scenario in
    let w = c.args.wording in
    subst (λ cs. WroteSome (IsWorded w (reordered sc (cs ++ c.args.choices.now))) (sent c.args.sink.now) (sent c.write_found.new.sink) c.write_found.result) (ran_all c.args.machine.now c.requires.ran) c.write_found.ensures
