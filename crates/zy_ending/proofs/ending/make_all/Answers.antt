use Rattle.std.proofs.Common.{length}
use Rattle.zy_machine.proofs.HistoryLemmas.{named_at}
use Rattle.zy_ending.proofs.ending.make_all.Goals as goal

pub make-requires : goal.make-requires
make-requires c =
    rw c.loop-choice.invariant.scenario
    (named_at (length c.args.machine.now.scenario.programs) c.loop-choice.choice-index _ c.args.choices.now c.requires c.loop-choice-test.true)
