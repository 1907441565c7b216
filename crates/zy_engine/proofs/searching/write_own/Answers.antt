-- Out of memory before anything is written.
use Rattle.std.proofs.Common.{◌++◌, inr, refl, take}
use Rattle.std.proofs.lemmas.Result.{err_from_is_err_and}
use Rattle.zy_io.proofs.StreamLemmas.{SendsPrefix-none}
use Rattle.zy_text.specs.Canon.{canon}
use Rattle.zy_threads.specs.Orders.{reordered}
use Rattle.zy_engine.proofs.searching.write_own.Goals as goal

pub returns-in_err-found : goal.returns-in_err-found
returns-in_err-found g c =
    let text = canon (reordered c.args.scenario.now (take c.args.kept c.args.scenario.now.choices ++ c.args.more.now)) in
    let p = err_from_is_err_and c.from_residual.result c.from_residual.ensures.1 in
    rw (p.1, p.2) (record { text = text; is = inr refl; wrote = (SendsPrefix-none (g.K.Sink.sent c.args.sink.now) text, refl) })
