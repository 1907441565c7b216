-- A text goes out where there is an order; else nothing does.
use Rattle.std.proofs.Common.{[], ◌++◌, refl, subst}
use Rattle.std.proofs.KnownBytes.{Appends-nil}
use Rattle.zy_engine.specs.Searching.{IsWorded, WroteSome}
use Rattle.zy_threads.specs.Orders.{reordered}
use Rattle.zy_engine.proofs.EndingLemmas.{all_few}
use Rattle.zy_order_engine.proofs.TakenLemmas.{ran_all}
use Rattle.zy_order_engine.proofs.ordering.write_answer.Goals as goal

pub write_found-requires-clause-taken : goal.write_found-requires-clause-taken
write_found-requires-clause-taken g c = all_few c.args.machine.now c.requires.ran

pub returns-in-Found : goal.returns-in-Found
returns-in-Found g c =
    let sent = g.K.Sink.sent in
    let sc = c.args.machine.now.scenario in
    rw c.in-Found.is (
    subst (λ cs. WroteSome (IsWorded c.args.wording (reordered sc (cs ++ c.in-Found.path.items))) (sent c.args.sink.now) (sent c.write_found.new.sink) c.write_found.result) (ran_all c.args.machine.now c.requires.ran)
    (rw c.deref.ensures.value at c.write_found.ensures))

pub returns-in-Nowhere : goal.returns-in-Nowhere
returns-in-Nowhere g c = rw c.in-Nowhere.is (record { text = []; is = refl; wrote = (Appends-nil (g.K.Sink.sent c.args.sink.now).written, refl) })

pub returns-in-Spent : goal.returns-in-Spent
returns-in-Spent g c = rw c.in-Spent.is (record { text = []; is = refl; wrote = (Appends-nil (g.K.Sink.sent c.args.sink.now).written, refl) })
