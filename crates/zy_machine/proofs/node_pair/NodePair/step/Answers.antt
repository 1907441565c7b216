use Rattle.zy_machine.proofs.StepLemmas.{run-steps}
use Rattle.zy_machine.proofs.node_pair.NodePair.step.Goals as goal

pub returns-in-Run : goal.returns-in-Run
returns-in-Run c =
    rw c.in-Run.is (run-steps c.args.scenario.now c.in-Run.n c.in-Run.t c.args.self.now c.run_step.new.self c.run_step.result c.run_step.ensures)
