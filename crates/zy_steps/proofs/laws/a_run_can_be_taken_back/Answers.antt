use Rattle.zy_steps.proofs.Alone.{run_taken_back}
use Rattle.zy_steps.proofs.laws.a_run_can_be_taken_back.Goals as goal

pub returns : goal.returns
returns c sc n t s h = run_taken_back sc n t s h
