use Rattle.std.proofs.Common.{◌∙◌, sym}
use Rattle.zy_search.specs.Ahead.{GoesOn}
use Rattle.zy_search.proofs.AheadLemmas.{goes_further}
use Rattle.zy_search.proofs.ReachedLemmas.{if_ok_with}
use Rattle.zy_search.proofs.TurnLemmas.{still_noted}
use Rattle.zy_search.proofs.expand.meet_unknown.Goals as goal

pub returns-then-is_still : goal.returns-then-is_still
returns-then-is_still c =
    let made = c.in_ok-outcome.ensures in
    let p = c.args.plan.now in
    let old = c.args.reached.now.tree in
    let still = rw made.tree at made.leads.still in
    record {
      meets = record {
        well = rw made.tree (still_noted p old c.args.turn.branch c.requires.ready.turn (sym still ∙ (sym c.is_still.ensures ∙ c.if-is_still.true)));
        informed = made.leads.informed;
        machines = rw made.tree made.scratch;
      };
      goes_on = made.goes_on;
      here = made.here;
    }

pub returns-clause-goes_on : goal.returns-clause-goes_on
returns-clause-goes_on c =
    let old = c.args.reached.now in
    let middle = c.outcome_of.new.reached in
    let new = c.note.new.reached in
    if_ok_with (λ _. GoesOn middle new) (λ _. GoesOn old new) c.note.result (λ _ on. goes_further old middle new c.in_ok-outcome.ensures.goes_on on) c.note.ensures.goes_on
