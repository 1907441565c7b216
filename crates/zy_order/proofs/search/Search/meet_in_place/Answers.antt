-- The machine itself makes the choice, as the twin, and goes back where the line does not fit.
use Rattle.std.proofs.Common.{◌∙◌, length, ap, arith}
use Rattle.zy_machine.specs.Histories.{History}
use Rattle.zy_search.specs.Visits.{path_at}
use Rattle.zy_order.specs.Reaches.{cursors_at}
use Rattle.zy_order.proofs.PushLemmas.{adds_none, adds_on, adds_twin}
use Rattle.zy_order.proofs.WayLemmas.{come_named, come_part, way_fewer}
use Rattle.zy_order.proofs.search.Search.meet_in_place.Goals as goal

pub observe-requires-clause-named : goal.observe-requires-clause-named
observe-requires-clause-named c =
    let at = c.requires.at in
    let p = c.args.plan.now in
    let lines = c.args.lines.now in
    let g = cursors_at c.args.self.now.reached c.args.at in
    rw (c.swap.ensures.given, at.machine.scenario)
    (come_named p.start.scenario.version p.logs g _ lines.by lines.line lines.other at.search.under_way.plan.lines c.requires.next)

pub observe-requires-clause-room : goal.observe-requires-clause-room
observe-requires-clause-room c =
    let p = c.args.plan.now in
    let at = c.requires.at in
    let r = c.args.self.now.reached in
    let lines = c.args.lines.now in
    let g = cursors_at r c.args.at in
    let few = way_fewer p.start.scenario p.logs p.start.state (path_at r.visited c.args.at) g at.search.under_way.plan.gaps
    (at.search.under_way.reached.ways c.args.at at.there)
    (come_part p.start.scenario.version p.logs g lines.by lines.line lines.other c.requires.next) in
    omega (arith, ap (λ (m : History). length m.entries) c.swap.ensures.given, at.machine.entries, few, at.search.under_way.plan.room)

pub returns-in_ok-arrive-clause-adds : goal.returns-in_ok-arrive-clause-adds
returns-in_ok-arrive-clause-adds c =
    let p = c.args.plan.now in
    let at = c.requires.at in
    let s = c.args.self.now in
    let twin = c.observe.new.self in
    let met = c.meet_shown.new.self in
    let scenario = c.observe.ensures.scenario ∙ (ap (λ (m : History). m.scenario) c.swap.ensures.given ∙ at.machine.scenario) in
    let there = adds_on p s (record s { twin = twin }) met (adds_twin p s twin at.search scenario) c.in_ok-met.ensures.adds in
    adds_on p s met c.arrive.new.self there
    (adds_none p met c.arrive.new.self c.in_ok-arrive.ensures.there.search c.in_ok-arrive.ensures.reached)
