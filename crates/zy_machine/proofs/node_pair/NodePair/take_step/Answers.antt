use Rattle.zy_isa.specs.declared.node.Node.TheVariants.{A, B}
use Rattle.zy_table.specs.State.{facing}
use Rattle.zy_machine.specs.NodePairs.{state_of}
use Rattle.zy_machine.proofs.AtNodes.{may_take_from, meets-a, meets-b}
use Rattle.zy_machine.proofs.node_pair.NodePair.take_step.Goals as goal

pub take_step-requires : goal.take_step-requires
take_step-requires c =
    let s = c.args.self.now in
    may_take_from _ s.a s.b c.requires.limited.few c.requires.limited.a c.requires.limited.b (rw c.in-A.is at c.requires.may)

pub take_step-requires-in-B : goal.take_step-requires-in-B
take_step-requires-in-B c =
    let s = c.args.self.now in
    may_take_from _ s.b s.a c.requires.limited.few c.requires.limited.b c.requires.limited.a (rw c.in-B.is at c.requires.may)

pub returns-in-A : goal.returns-in-A
returns-in-A c =
    rw c.in-A.is (meets-a c.args.self.now c.take_step.new.me c.take_step.new.inbox c.take_step.result _
    c.take_step.ensures.line.0 c.take_step.ensures.line.1 (c.take_step.ensures.line.2 (facing A (state_of c.args.self.now))))

pub returns-in-B : goal.returns-in-B
returns-in-B c =
    rw c.in-B.is (meets-b c.args.self.now c.take_step-in-B.new.me c.take_step-in-B.new.inbox c.take_step-in-B.result _
    c.take_step-in-B.ensures.line.0 c.take_step-in-B.ensures.line.1 (c.take_step-in-B.ensures.line.2 (facing B (state_of c.args.self.now))))
