-- The machine has made all choices of the scenario, so its listing is that of the scenario.
use Rattle.std.proofs.Common.{◌∙◌, Ok, Err, ap, refl, subst}
use Rattle.std.proofs.lemmas.Result.{err_from_is_err_and}
use Rattle.zy_check.specs.declared.verdict.Comparison.{Comparison}
use Rattle.zy_check.specs.declared.verdict.Verdict.{Verdict}
use Rattle.zy_check.specs.Differs.{verdict}
use Rattle.zy_listing.specs.Run.{listing_run}
use Rattle.zy_listing.proofs.RunLemmas.{listing-whole}
use Rattle.zy_engine.specs.declared.checking.CheckedListing.{CheckedListing}
use Rattle.zy_engine.specs.Checks.{WroteOrNothing, verdict_line}
use Rattle.zy_engine.proofs.CheckLemmas.{fault_says}
use Rattle.zy_engine.proofs.checking.check_run.Goals as goal

pub returns-in_err-machine : goal.returns-in_err-machine
returns-in_err-machine g c =
    let p = err_from_is_err_and c.from_residual.result c.from_residual.ensures.1 in
    rw (p.1, p.2) (record { returned = tt; machine = tt; wrote = refl })

pub returns-in-Ok : goal.returns-in-Ok
returns-in-Ok g c =
    let ran = c.in_ok-machine.ensures.run in
    let same = ap (verdict c.args.input.now) (listing-whole c.args.scenario c.in_ok-machine.machine ran) in
    let old = g.K.Sink.sent c.args.sink.now in
    let new = g.K.Sink.sent c.write_verdict.new.sink in
    record {
      returned = c.in-Ok.ensures.returned ∙ same;
      machine = ran;
      wrote = subst (λ (v : Verdict). WroteOrNothing old new {X = Comparison} (Ok c.in-Ok.found) (verdict_line v)) same c.in-Ok.ensures.wrote;
    }

pub returns-in-Err : goal.returns-in-Err
returns-in-Err g c =
    let ran = c.in_ok-machine.ensures.run in
    let same = ap (verdict c.args.input.now) (listing-whole c.args.scenario c.in_ok-machine.machine ran) in
    let old = g.K.Sink.sent c.args.sink.now in
    let new = g.K.Sink.sent c.write_verdict.new.sink in
    record {
      returned = tt;
      machine = tt;
      wrote = fault_says Comparison CheckedListing old new c.in-Err.fault (verdict_line (verdict c.args.input.now (listing_run c.args.scenario)))
          (subst (λ (v : Verdict). WroteOrNothing old new {X = Comparison} (Err c.in-Err.fault) (verdict_line v)) same c.in-Err.ensures.wrote);
    }
