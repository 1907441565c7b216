use Rattle.std.proofs.Common.{Ok, refl}
use Rattle.zy_isa.specs.declared.node.Node.TheVariants.{A}
use Rattle.zy_table.specs.State.{facing}
use Rattle.zy_machine.specs.NodePairs.{state_of}
use Rattle.zy_machine.proofs.AtNodes.{at-a}
use Rattle.zy_machine.proofs.node_pair.NodePair.begin_step.Goals as goal

pub returns : goal.returns
returns c = at-a {E = Unit {0}} c.args.self.now c.args.self.now.a c.begin_step.new.book (Ok c.begin_step.result) _
    refl (c.begin_step.ensures (facing A (state_of c.args.self.now)))
