use Rattle.zy_machine.proofs.StepLemmas.{start-steps, begin-steps, kill-steps, run-steps, take-steps, finish-steps, push-steps}
use Rattle.zy_machine.proofs.node_pair.NodePair.any_step.Goals as goal

pub returns-in-Start : goal.returns-in-Start
returns-in-Start c =
    rw c.in-Start.is (start-steps c.args.scenario.now c.args.self.now c.start_step.new.self c.start_step.result c.start_step.ensures)

pub returns-in-Begin : goal.returns-in-Begin
returns-in-Begin c =
    rw c.in-Begin.is (begin-steps c.args.scenario.now c.in-Begin.t c.args.self.now c.begin_step.new.self c.begin_step.result c.begin_step.ensures)

pub returns-in-Kill : goal.returns-in-Kill
returns-in-Kill c =
    rw c.in-Kill.is (kill-steps c.args.scenario.now c.in-Kill.t c.args.self.now c.kill_step.new.self c.kill_step.result c.kill_step.ensures)

pub returns-in-Run : goal.returns-in-Run
returns-in-Run c =
    rw c.in-Run.is (run-steps c.args.scenario.now c.in-Run.n c.in-Run.t c.args.self.now c.run_step.new.self c.run_step.result c.run_step.ensures)

pub returns-in-Take : goal.returns-in-Take
returns-in-Take c =
    rw c.in-Take.is (take-steps c.args.scenario.now c.in-Take.n c.args.self.now c.take_step.new.self c.take_step.result c.take_step.ensures)

pub returns-in-Finish : goal.returns-in-Finish
returns-in-Finish c =
    rw c.in-Finish.is (finish-steps c.args.scenario.now c.in-Finish.n c.args.self.now c.finish_step.new.self c.finish_step.result c.finish_step.ensures)

pub returns-in-Push : goal.returns-in-Push
returns-in-Push c =
    rw c.in-Push.is (push-steps c.args.scenario.now c.in-Push.n c.args.self.now c.push_step.new.self c.push_step.result c.push_step.ensures)
