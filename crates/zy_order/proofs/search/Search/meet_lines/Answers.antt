-- The twin makes the choice.
use Rattle.std.proofs.Common.{◌∙◌, arith}
use Rattle.zy_search.specs.Visits.{path_at}
use Rattle.zy_order.specs.Reaches.{cursors_at}
use Rattle.zy_order.proofs.PushLemmas.{adds_then, adds_twin, has_made}
use Rattle.zy_order.proofs.WayLemmas.{come_named, come_part, way_fewer}
use Rattle.zy_order.proofs.search.Search.meet_lines.Goals as goal

pub attempt-requires-clause-named : goal.attempt-requires-clause-named
attempt-requires-clause-named c =
    let at = c.requires.at in
    let p = c.args.here.plan.now in
    let lines = c.args.lines.now in
    let g = cursors_at c.args.self.now.reached c.args.here.at in
    rw at.machine.scenario
    (come_named p.start.scenario.version p.logs g _ lines.by lines.line lines.other at.search.under_way.plan.lines c.requires.next)

pub attempt-requires-clause-room : goal.attempt-requires-clause-room
attempt-requires-clause-room c =
    let p = c.args.here.plan.now in
    let at = c.requires.at in
    let r = c.args.self.now.reached in
    let lines = c.args.lines.now in
    let g = cursors_at r c.args.here.at in
    let few = way_fewer p.start.scenario p.logs p.start.state (path_at r.visited c.args.here.at) g at.search.under_way.plan.gaps
    (at.search.under_way.reached.ways c.args.here.at at.there)
    (come_part p.start.scenario.version p.logs g lines.by lines.line lines.other c.requires.next) in
    omega (arith, at.machine.entries, few, at.search.under_way.plan.room)

pub meet_shown-requires : goal.meet_shown-requires
meet_shown-requires c =
    let here = c.args.here in
    let e = c.in_ok-shown.ensures in
    has_made here.plan.now c.args.self.now here.at here.machine.now c.args.lines.now c.in_ok-shown.shown c.attempt.new.twin c.requires.at
    c.requires.next e.scenario e.state e.longer e.observation

pub returns-clause-adds : goal.returns-clause-adds
returns-clause-adds c =
    let p = c.args.here.plan.now in
    let at = c.requires.at in
    let s = c.args.self.now in
    let twin = c.attempt.new.twin in
    adds_then p s (record s { twin = twin }) c.meet_shown.new.self c.meet_shown.result
    (adds_twin p s twin at.search (c.in_ok-shown.ensures.scenario ∙ at.machine.scenario)) c.meet_shown.ensures.adds
