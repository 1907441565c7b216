use Rattle.zy_steps.proofs.Alone.{run_keeps}
use Rattle.zy_steps.proofs.laws.a_run_keeps_to_itself.Goals as goal

pub returns : goal.returns
returns c sc n t s h = run_keeps sc n t s h
