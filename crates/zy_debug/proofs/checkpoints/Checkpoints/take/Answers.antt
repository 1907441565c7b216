use Rattle.std.proofs.Common.{subst, sym}
use Rattle.zy_debug.specs.Checkpoints.{HoldReplaysOf}
use Rattle.zy_debug.proofs.checkpoints.Checkpoints.take.Goals as goal

pub returns-clause-kept : goal.returns-clause-kept
returns-clause-kept c =
    λ sc a.
    let k = subst (HoldReplaysOf sc) (sym c.self.view_is) a in
    record { spread = k.spread; passed = k.passed; close = c.take.ensures.kept sc k.close }
