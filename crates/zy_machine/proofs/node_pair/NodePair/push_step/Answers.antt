use Rattle.zy_isa.specs.declared.node.Node.TheVariants.{A, B}
use Rattle.zy_table.specs.State.{facing}
use Rattle.zy_machine.specs.NodePairs.{state_of}
use Rattle.zy_machine.proofs.AtNodes.{at-a, at-b}
use Rattle.zy_machine.proofs.node_pair.NodePair.push_step.Goals as goal

pub returns-in-A : goal.returns-in-A
returns-in-A c =
    rw c.in-A.is (at-a c.args.self.now c.push_step.new.me c.args.self.now.book c.push_step.result _
    c.push_step.ensures.line.0 (c.push_step.ensures.line.1 (facing A (state_of c.args.self.now))))

pub returns-in-B : goal.returns-in-B
returns-in-B c =
    rw c.in-B.is (at-b c.args.self.now c.push_step-in-B.new.me c.args.self.now.book c.push_step-in-B.result _
    c.push_step-in-B.ensures.line.0 (c.push_step-in-B.ensures.line.1 (facing B (state_of c.args.self.now))))
