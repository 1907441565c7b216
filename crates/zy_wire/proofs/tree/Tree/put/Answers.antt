use Rattle.zy_wire.proofs.Entered.{Enters, written, IsTree-entered, Holds-entered}
use Rattle.zy_wire.proofs.tree.Tree.put.Goals as goal

pub invariant_of-self : goal.invariant_of-self
invariant_of-self c =
    let nodes = c.self.inside.nodes.items in
    let was = rw (← c.self.view_is) at c.requires in
    let placed = rw (c.node.ensures.value, ← c.self.view_is) at c.place-at.ensures in
    let enters : Enters nodes c.args.id.0 c.place-at.result c.args.entry = record { key = was.at; leaf = was.leaf; place = placed; fresh = was.fresh } in
    let new = written nodes c.index.result c.args.id.0 c.place-at.result c.args.entry c.index_mut.result.now c.insert.new.self was.at.there c.index.ensures
    c.index_mut.ensures.value c.insert.ensures in
    rw new (IsTree-entered nodes c.self.inside.root.0 c.self.inside.top c.args.id.0 c.place-at.result c.args.entry c.self.invariant enters)

pub returns-clause-holds : goal.returns-clause-holds
returns-clause-holds c = λ lows h last.
    let nodes = c.self.inside.nodes.items in
    let was = rw (← c.self.view_is) at c.requires in
    let placed = rw (c.node.ensures.value, ← c.self.view_is) at c.place-at.ensures in
    let enters : Enters nodes c.args.id.0 c.place-at.result c.args.entry = record { key = was.at; leaf = was.leaf; place = placed; fresh = was.fresh } in
    let new = written nodes c.index.result c.args.id.0 c.place-at.result c.args.entry c.index_mut.result.now c.insert.new.self was.at.there c.index.ensures
    c.index_mut.ensures.value c.insert.ensures in
    rw new (Holds-entered lows nodes c.self.inside.root.0 c.self.inside.top c.args.id.0 c.place-at.result c.args.entry c.self.invariant enters last
    (rw (← c.self.view_is) at h))
