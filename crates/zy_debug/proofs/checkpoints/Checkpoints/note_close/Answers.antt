use Rattle.std.proofs.Common.{subst, sym}
use Rattle.zy_debug.specs.Checkpoints.{HoldReplaysOf}
use Rattle.zy_debug.proofs.KeptLemmas.{AreReplaysOf-tried}
use Rattle.zy_debug.proofs.checkpoints.Checkpoints.note_close.Goals as goal

pub returns : goal.returns
returns c =
    λ sc a r.
    let k = subst (HoldReplaysOf sc) (sym c.self.view_is) a in
    let n = c.note in
    record {
      spread = k.spread;
      passed = k.passed;
      close = AreReplaysOf-tried sc c.args.machine.now c.self.inside.close n.new.self n.result n.ensures.ok
          n.ensures.err k.close r;
    }
