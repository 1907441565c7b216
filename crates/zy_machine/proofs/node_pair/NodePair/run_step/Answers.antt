use Rattle.zy_isa.specs.declared.node.Node.TheVariants.{A, B}
use Rattle.zy_table.specs.State.{facing}
use Rattle.zy_machine.specs.NodePairs.{state_of}
use Rattle.zy_machine.proofs.AtNodes.{at-a, at-b}
use Rattle.zy_machine.proofs.node_pair.NodePair.run_step.Goals as goal

pub run_step-requires : goal.run_step-requires
run_step-requires c = rw c.in-A.is (rw c.in-A.is at c.requires)

pub run_step-requires-in-B : goal.run_step-requires-in-B
run_step-requires-in-B c = rw c.in-B.is (rw c.in-B.is at c.requires)

pub returns-in-A : goal.returns-in-A
returns-in-A c =
    rw c.in-A.is (at-a c.args.self.now c.run_step.new.me c.run_step.new.book c.run_step.result _
    c.run_step.ensures.line.0 (rw c.in-A.is at (c.run_step.ensures.line.1 (facing A (state_of c.args.self.now)))))

pub returns-in-B : goal.returns-in-B
returns-in-B c =
    rw c.in-B.is (at-b c.args.self.now c.run_step-in-B.new.me c.run_step-in-B.new.book c.run_step-in-B.result _
    c.run_step-in-B.ensures.line.0 (rw c.in-B.is at (c.run_step-in-B.ensures.line.1 (facing B (state_of c.args.self.now)))))
