use Rattle.std.proofs.Common.{◌∙◌, arith}
use Rattle.zy_machine.proofs.replay.advance_to.Goals as goal

pub loop-preserved : goal.loop-preserved
loop-preserved c =
    record {
      scenario = c.advance.ensures.scenario ∙ c.loop.invariant.scenario;
      follows = c.advance.ensures.follows;
      position = omega (arith, c.in_ok-advance.ensures.position, c.loop.invariant.position);
    }
