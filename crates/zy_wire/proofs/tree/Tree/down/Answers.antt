use Rattle.zy_wire.specs.Nodes.{node}
use Rattle.zy_wire.proofs.Descent.{below}
use Rattle.zy_wire.proofs.tree.Tree.down.Goals as goal

pub returns : goal.returns
returns c =
    let nodes = c.args.self.now.nodes in
    let b = below nodes (node nodes c.args.id.0) c.args.key c.entry_under.result
    (rw c.node.ensures.value at c.node.ensures.fits) c.requires.above c.requires.at.below (rw c.node.ensures.value at c.entry_under.ensures) in
    record { at = rw c.node-2.ensures b.at; level = rw c.node-2.ensures b.level; leads = rw c.node-2.ensures b.leads }
