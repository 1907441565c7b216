use Rattle.std.proofs.Common.{subst, sym}
use Rattle.zy_debug.specs.Checkpoints.{HoldReplaysOf}
use Rattle.zy_debug.proofs.KeptLemmas.{AreReplaysOf-tried}
use Rattle.zy_debug.proofs.checkpoints.Checkpoints.note.Goals as goal

pub returns-then-is_spread : goal.returns-then-is_spread
returns-then-is_spread c =
    λ sc a r.
    let k = subst (HoldReplaysOf sc) (sym c.self.view_is) a in
    let n = c.note in
    record {
      spread = AreReplaysOf-tried sc c.args.machine.now c.self.inside.spread n.new.self n.result n.ensures.ok n.ensures.err k.spread r;
      passed = k.passed;
      close = k.close;
    }

pub returns-else-is_spread : goal.returns-else-is_spread
returns-else-is_spread c =
    λ sc a r.
    let k = subst (HoldReplaysOf sc) (sym c.self.view_is) a in
    let n = c.note-else-is_spread in
    record {
      spread = k.spread;
      passed = AreReplaysOf-tried sc c.args.machine.now c.self.inside.passed n.new.self n.result n.ensures.ok n.ensures.err k.passed
          r;
      close = k.close;
    }
