use Rattle.std.proofs.Common.{◌≡◌, ◌∙◌, ap, sym}
use Rattle.std.specs.Prelude.{Option, unwrap_or}
use Rattle.zy_isa.specs.declared.version.Version.{Version}
use Rattle.zy_isa.specs.declared.node.Node.{Node}
use Rattle.zy_model.specs.Table.{on_start}
use Rattle.zy_isa.specs.declared.choice.Choice.TheVariants.{Start}
use Rattle.zy_isa.specs.declared.node.Node.TheVariants.{A, B}
use Rattle.zy_table.specs.Play.{side_of}
use Rattle.zy_table.specs.State.{facing}
use Rattle.zy_machine.specs.NodePairs.{state_of}
use Rattle.zy_machine.proofs.AtNodes.{at-a, at-b}
use Rattle.zy_machine.proofs.node_pair.NodePair.start_step.Goals as goal

pub start_step-requires-clause-some : goal.start_step-requires-clause-some
start_step-requires-clause-some c = c.requires.may A

pub start_step-requires-in-B-clause-some : goal.start_step-requires-in-B-clause-some
start_step-requires-in-B-clause-some c = c.requires.may B

pub returns-in-A : goal.returns-in-A
returns-in-A c =
    let s = c.args.self.now in
    let side : side_of c.args.scenario.now Start (state_of s) ≡ A =
    ap (λ (v : Version). unwrap_or (on_start s.a.mode s.b.mode v) A) (sym c.version.ensures.value)
    ∙ (ap (λ (o : Option Node). unwrap_or o A) (sym c.on_start-source.ensures) ∙ (sym c.unwrap_or.ensures ∙ c.in-A.is)) in
    rw side (at-a s c.start_step.new.me s.book c.start_step.result _ c.start_step.ensures.line.0 (c.start_step.ensures.line.1 (facing A (state_of s))))

pub returns-in-B : goal.returns-in-B
returns-in-B c =
    let s = c.args.self.now in
    let side : side_of c.args.scenario.now Start (state_of s) ≡ B =
    ap (λ (v : Version). unwrap_or (on_start s.a.mode s.b.mode v) A) (sym c.version.ensures.value)
    ∙ (ap (λ (o : Option Node). unwrap_or o A) (sym c.on_start-source.ensures) ∙ (sym c.unwrap_or.ensures ∙ c.in-B.is)) in
    rw side (at-b s c.start_step-in-B.new.me s.book c.start_step-in-B.result _ c.start_step-in-B.ensures.line.0 (c.start_step-in-B.ensures.line.1 (facing B (state_of s))))
