use Rattle.zy_search.proofs.AheadLemmas.{foreseen_on, noted_is_taken, stays, taken_known}
use Rattle.zy_search.proofs.TurnLemmas.{known_met}
use Rattle.zy_search.proofs.expand.take_in.Goals as goal

pub returns-then-place-ahead : goal.returns-then-place-ahead
returns-then-place-ahead c =
    let p = c.args.plan.now in
    let x = c.args.reached.now in
    let known = taken_known p x c.requires.ready.informed c.args.ahead.now.numbers c.args.branch c.args.place c.requires.numbered
    (c.requires.ahead.taken c.args.place c.if-place-ahead.true) in
    record {
      meets = known_met p x c.args.branch c.args.scratch.now c.requires.ready known;
      goes_on = stays x;
      ahead = c.requires.ahead;
    }

pub returns-in-Noted-clause-ahead : goal.returns-in-Noted-clause-ahead
returns-in-Noted-clause-ahead c =
    let p = c.args.plan.now in
    let old = c.args.reached.now in
    let new = c.note.new.reached in
    let arena = c.args.ahead.now.numbers in
    let met = rw c.in-Noted.is at c.in_ok-note.ensures.meets.well in
    c.take.ensures p new (noted_is_taken p old new c.in_ok-note.ensures.goes_on arena c.args.branch c.args.place c.requires.numbered met)
    (foreseen_on p old new c.in_ok-note.ensures.goes_on c.args.ahead.now c.requires.ahead)

pub returns-in-Shown-clause-ahead : goal.returns-in-Shown-clause-ahead
returns-in-Shown-clause-ahead c =
    foreseen_on c.args.plan.now c.args.reached.now c.note.new.reached c.in_ok-note.ensures.goes_on c.args.ahead.now c.requires.ahead

pub returns-in-Spent-clause-ahead : goal.returns-in-Spent-clause-ahead
returns-in-Spent-clause-ahead c =
    foreseen_on c.args.plan.now c.args.reached.now c.note.new.reached c.in_ok-note.ensures.goes_on c.args.ahead.now c.requires.ahead
