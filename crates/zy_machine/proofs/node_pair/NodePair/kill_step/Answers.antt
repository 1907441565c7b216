use Rattle.std.proofs.Common.{◌≡◌, ◌∙◌, Ok, ap, sym}
use Rattle.zy_table.specs.State.{Txn}
use Rattle.zy_txns.specs.Books.{txn_in}
use Rattle.zy_isa.specs.declared.node.Node.TheVariants.{A, B}
use Rattle.zy_table.specs.State.{facing}
use Rattle.zy_machine.specs.NodePairs.{state_of}
use Rattle.zy_machine.proofs.AtNodes.{at-a, at-b}
use Rattle.zy_machine.proofs.node_pair.NodePair.kill_step.Goals as goal

pub returns-in-A : goal.returns-in-A
returns-in-A c =
    let here : (txn_in c.args.t c.args.self.now.book).node ≡ A = ap (λ (x : Txn). x.node) (sym c.txn.ensures) ∙ sym c.node.ensures ∙ c.in-A.is in
    rw here (at-a {E = Unit {0}} c.args.self.now c.kill_step.new.me c.kill_step.new.book (Ok c.kill_step.result) _
    c.kill_step.ensures.line.0 (c.kill_step.ensures.line.1 (facing A (state_of c.args.self.now))))

pub returns-in-B : goal.returns-in-B
returns-in-B c =
    let here : (txn_in c.args.t c.args.self.now.book).node ≡ B = ap (λ (x : Txn). x.node) (sym c.txn.ensures) ∙ sym c.node.ensures ∙ c.in-B.is in
    rw here (at-b {E = Unit {0}} c.args.self.now c.kill_step-in-B.new.me c.kill_step-in-B.new.book (Ok c.kill_step-in-B.result) _
    c.kill_step-in-B.ensures.line.0 (c.kill_step-in-B.ensures.line.1 (facing B (state_of c.args.self.now))))
