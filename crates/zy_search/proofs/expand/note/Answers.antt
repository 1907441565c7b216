use Rattle.zy_search.specs.Visits.{state_by, states_of}
use Rattle.zy_search.proofs.AheadLemmas.{stays}
use Rattle.zy_search.proofs.ReachedLemmas.{known_by}
use Rattle.zy_search.proofs.TurnLemmas.{known_met}
use Rattle.zy_search.proofs.expand.note.Goals as goal

pub returns-in-Some : goal.returns-in-Some
returns-in-Some c =
    let p = c.args.plan.now in
    let x = c.args.reached.now in
    let sc = p.start.scenario in
    let states = states_of p.start x.tree in
    let to = state_by p x.tree c.args.branch in
    let knows = c.requires.ready.informed.knows in
    let known = known_by p x c.requires.ready.informed c.in-Some.field-0 to (c.in-Some.ensures.there sc states knows)
    (λ s at. c.in-Some.ensures.alike sc states s to knows at c.requires.numbers) in
    record {
      meets = known_met p x c.args.branch c.args.scratch.now c.requires.ready known;
      goes_on = stays x;
    }
