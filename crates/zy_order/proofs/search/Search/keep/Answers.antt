-- The new path is the last one, and the machine of the twin is where it leads.
use Rattle.zy_order.proofs.PushLemmas.{adds_new, known_new}
use Rattle.zy_order.proofs.search.Search.keep.Goals as goal

pub put-requires : goal.put-requires
put-requires c = c.requires.leads.search.twin

pub returns-clause-adds : goal.returns-clause-adds
returns-clause-adds c =
    let p = c.args.plan.now in
    let s = c.args.self.now in
    let on = c.requires.leads in
    let e = c.in_ok-push.ensures in
    let put = c.in_ok-put.ensures in
    adds_new p s c.args.branch c.args.cursors on c.push.new.self e.paths e.cursors e.todo c.requires.room _ c.put.new.self c.put.new.machine
    c.len-place.ensures.value (put.scenario p.start s.reached.visited on.search.recent on.next.scenario) (put.recent p.start c.push.new.self.visited)

pub returns-clause-known : goal.returns-clause-known
returns-clause-known c =
    let e = c.in_ok-push.ensures in
    known_new c.args.plan.now c.args.self.now c.args.branch c.args.cursors c.requires.leads c.push.new.self e.paths e.cursors e.todo c.requires.room
