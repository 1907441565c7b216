use Rattle.zy_wire.proofs.Raised.{IsTree-raised, Holds-raised}
use Rattle.zy_wire.proofs.tree.Tree.raise.Goals as goal

pub invariant_of-self : goal.invariant_of-self
invariant_of-self c = rw (c.push_reserved.ensures.items, c.with.ensures, c.of_node-entry.ensures, c.len.ensures, c.self.inside.nodes.ok.0)
    (IsTree-raised c.self.inside.nodes.items c.self.inside.root.0 c.self.inside.top c.self.invariant)

pub returns-clause-holds : goal.returns-clause-holds
returns-clause-holds c = λ lows h.
    rw (c.push_reserved.ensures.items, c.with.ensures, c.of_node-entry.ensures)
    (Holds-raised lows c.self.inside.nodes.items c.self.inside.root.0 c.self.inside.top c.self.invariant (rw (← c.self.view_is) at h))
