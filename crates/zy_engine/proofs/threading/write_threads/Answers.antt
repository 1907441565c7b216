use Rattle.std.proofs.Common.{◌∙◌, ℕ, List, Ok, Err, ap, subst}
use Rattle.zy_io.specs.Writing.{Wrote}
use Rattle.zy_isa.specs.Scenario.{Scenario}
use Rattle.zy_machine.specs.Histories.{choices_of}
use Rattle.zy_listing.specs.Run.{listing_run}
use Rattle.zy_threads.specs.Orders.{reordered, IsRunOf}
use Rattle.zy_engine.proofs.MergeLemmas.{listing-again}
use Rattle.zy_engine.proofs.threading.write_threads.Goals as goal

pub returns-in-Err : goal.returns-in-Err
returns-in-Err g c =
    let machine = c.in_ok-machine.machine in
    let order = choices_of machine.entries in
    let ran = c.in_ok-machine.ensures in
    let Told : List ℕ → Type 0 = λ text. Wrote (g.K.Sink.sent c.args.sink.now) (g.K.Sink.sent c.write_listing.new.sink) {X = Unit {0}} (Err c.in-Err.fault) text in
    record {
      order = order;
      merge = ran.merge;
      wrote = subst Told (listing-again machine ran.run ∙ ap (λ (sc : Scenario). listing_run (reordered sc order)) ran.scenario) c.in-Err.ensures;
      machine = tt;
    }

pub returns-in-Ok : goal.returns-in-Ok
returns-in-Ok g c =
    let machine = c.in_ok-machine.machine in
    let order = choices_of machine.entries in
    let ran = c.in_ok-machine.ensures in
    let Told : List ℕ → Type 0 = λ text. Wrote (g.K.Sink.sent c.args.sink.now) (g.K.Sink.sent c.write_listing.new.sink) {X = Unit {0}} (Ok c.in-Ok.field-0) text in
    record {
      order = order;
      merge = ran.merge;
      wrote = subst Told (listing-again machine ran.run ∙ ap (λ (sc : Scenario). listing_run (reordered sc order)) ran.scenario) c.in-Ok.ensures;
      machine = (ran.scenario, subst (λ (sc : Scenario). IsRunOf (reordered sc order) machine) ran.scenario ran.run);
    }
