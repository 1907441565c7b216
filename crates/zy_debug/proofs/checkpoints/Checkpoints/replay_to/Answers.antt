use Rattle.std.proofs.Common.{subst, sym}
use Rattle.zy_debug.specs.Checkpoints.{HoldReplaysOf}
use Rattle.zy_debug.proofs.checkpoints.Checkpoints.replay_to.Goals as goal

pub pass-requires-clause-kept : goal.pass-requires-clause-kept
pass-requires-clause-kept c =
    let sc = c.args.machine.now.scenario in
    let k = subst (HoldReplaysOf sc) (sym c.self.view_is) c.requires.kept in
    record { spread = k.spread; passed = k.passed; close = c.drop_above.ensures.kept sc k.close }
