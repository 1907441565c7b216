-- What was written is the listing of the whole run.
use Rattle.std.proofs.Common.{ℕ, List, Ok, Err, subst}
use Rattle.zy_io.specs.Writing.{Wrote}
use Rattle.zy_listing.proofs.RunLemmas.{listing-whole}
use Rattle.zy_listing.proofs.run.write_run.Goals as goal

pub returns-in-Ok-clause-run : goal.returns-in-Ok-clause-run
returns-in-Ok-clause-run g c =
    let Told : List ℕ → Type 0 = λ text. Wrote (g.K.Sink.sent c.args.sink.now) (g.K.Sink.sent c.write_listing.new.sink) {X = Unit {0}} (Ok c.in-Ok.field-0) text in
    record {
      wrote = subst Told (listing-whole c.args.scenario c.in_ok-machine.machine c.in_ok-machine.ensures.run) c.in-Ok.ensures;
      machine = c.in_ok-machine.ensures.run;
    }

pub returns-in-Err-clause-run : goal.returns-in-Err-clause-run
returns-in-Err-clause-run g c =
    let Told : List ℕ → Type 0 = λ text. Wrote (g.K.Sink.sent c.args.sink.now) (g.K.Sink.sent c.write_listing.new.sink) {X = Unit {0}} (Err c.in-Err.fault) text in
    record {
      wrote = subst Told (listing-whole c.args.scenario c.in_ok-machine.machine c.in_ok-machine.ensures.run) c.in-Err.ensures;
      machine = tt;
    }
