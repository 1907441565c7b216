use Rattle.std.proofs.Common.{refl}
use Rattle.zy_search.specs.Ahead.{GoesOn, IsForeseen}
use Rattle.zy_search.proofs.AheadLemmas.{foreseen_on, stays, still_known}
use Rattle.zy_search.proofs.ReachedLemmas.{if_ok_with}
use Rattle.zy_search.proofs.TurnLemmas.{known_met}
use Rattle.zy_search.proofs.expand.meet.Goals as goal

pub returns-then-rests : goal.returns-then-rests
returns-then-rests c =
    let p = c.args.plan.now in
    let x = c.args.reached.now in
    record {
      meets = known_met p x c.args.turn.branch c.args.scratch.now c.requires.ready
          (still_known p x.tree c.args.turn.branch c.requires.ready.turn.ready.there (c.rests.ensures c.if-rests.true));
      goes_on = stays x;
      ahead = c.requires.ahead;
      here = refl;
    }

pub returns-in-Reached : goal.returns-in-Reached
returns-in-Reached c =
    let p = c.args.plan.now in
    let x = c.args.reached.now in
    record {
      meets = known_met p x c.args.turn.branch c.args.scratch.now c.requires.ready
          (rw c.in-Reached.is at c.successor.ensures p x c.requires.ahead c.requires.choice);
      goes_on = stays x;
      ahead = c.requires.ahead;
      here = refl;
    }

pub returns-in-Unknown-clause-ahead : goal.returns-in-Unknown-clause-ahead
returns-in-Unknown-clause-ahead c =
    let p = c.args.plan.now in
    let old = c.args.reached.now in
    let new = c.meet_unknown.new.reached in
    let ahead = c.args.ahead.now in
    if_ok_with (λ _. GoesOn old new) (λ _. IsForeseen p new ahead) c.meet_unknown.result (λ _ on. foreseen_on p old new on ahead c.requires.ahead)
    c.meet_unknown.ensures.goes_on
