use Rattle.std.proofs.Common.{ap, length, arith}
use Rattle.std.proofs.Math.Nat.{add-zero}
use Rattle.zy_model.specs.declared.kind.Kind.TheVariants.{Page, Finish}
use Rattle.zy_model.specs.Table.{on_message}
use Rattle.zy_node.specs.Nodes.{node_shown}
use Rattle.zy_rules.proofs.AllHere.{all_here-count, all_here-arrived}
use Rattle.zy_rules.proofs.take.line.Goals.{in-Page, in-Finish, in-Wire, in-Ready, in-Dual, in-Pull, in-Done}
use Rattle.zy_rules.proofs.take.line.Goals as goal

pub returns : goal.returns
returns c =
    let x = node_shown c.args.me.now in
    elim c.match-message.branch [
      | in-Page w ↦
          rw (c.on_message.ensures.line, c.kind.ensures, w.all-is, w.lacks-all.ensures.value, w.in-Page.is)
          (ap (on_message x.mode Page) (all_here-arrived x w.in-Page.field-0 c.requires.named (rw w.in-Page.is at c.requires.new) w.lacks-all.ensures.rise))
      | in-Finish w ↦
          rw (c.on_message.ensures.line, c.kind.ensures, w.all-is, w.lacks-all-in-Finish.ensures.value, w.in-Finish.is, add-zero (length x.pages))
          (ap (on_message x.mode Finish) (all_here-count x c.requires.named w.lacks-all-in-Finish.ensures.rise))
      | in-Wire w ↦ rw (c.on_message.ensures.line, c.kind.ensures, w.all-is, w.in-Wire.is) (grind arith)
      | in-Ready w ↦ rw (c.on_message.ensures.line, c.kind.ensures, w.all-is, w.in-Ready.is) (grind arith)
      | in-Dual w ↦ rw (c.on_message.ensures.line, c.kind.ensures, w.all-is, w.in-Dual.is) (grind arith)
      | in-Pull w ↦ rw (c.on_message.ensures.line, c.kind.ensures, w.all-is, w.in-Pull.is) (grind arith)
      | in-Done w ↦ rw (c.on_message.ensures.line, c.kind.ensures, w.all-is, w.in-Done.is) (grind arith)
    ]
