use Rattle.zy_isa.specs.declared.node.Node.TheVariants.{A, B}
use Rattle.zy_table.specs.State.{facing}
use Rattle.zy_machine.specs.NodePairs.{state_of}
use Rattle.zy_machine.proofs.AtNodes.{at-a, at-b}
use Rattle.zy_machine.proofs.node_pair.NodePair.finish_step.Goals as goal

pub returns-in-A : goal.returns-in-A
returns-in-A c =
    rw c.in-A.is (at-a c.args.self.now c.finish_step.new.me c.args.self.now.book c.finish_step.result _
    c.finish_step.ensures.line.0 (rw c.in-A.is at (c.finish_step.ensures.line.1 (facing A (state_of c.args.self.now)))))

pub returns-in-B : goal.returns-in-B
returns-in-B c =
    rw c.in-B.is (at-b c.args.self.now c.finish_step-in-B.new.me c.args.self.now.book c.finish_step-in-B.result _
    c.finish_step-in-B.ensures.line.0 (rw c.in-B.is at (c.finish_step-in-B.ensures.line.1 (facing B (state_of c.args.self.now)))))
