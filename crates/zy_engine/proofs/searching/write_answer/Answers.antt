-- A text goes out where there is one; else nothing does.
use Rattle.std.proofs.Common.{[], refl}
use Rattle.std.proofs.KnownBytes.{Appends-nil}
use Rattle.zy_engine.proofs.searching.write_answer.Goals as goal

pub returns-in-Found : goal.returns-in-Found
returns-in-Found g c = rw c.in-Found.is (rw c.deref.ensures.value at c.write_found.ensures)

pub returns-in-Nowhere : goal.returns-in-Nowhere
returns-in-Nowhere g c = rw c.in-Nowhere.is (record { text = []; is = refl; wrote = (Appends-nil (g.K.Sink.sent c.args.sink.now).written, refl) })

pub returns-in-Spent : goal.returns-in-Spent
returns-in-Spent g c = rw c.in-Spent.is (record { text = []; is = refl; wrote = (Appends-nil (g.K.Sink.sent c.args.sink.now).written, refl) })
