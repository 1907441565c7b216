use Rattle.zy_state_ids.proofs.States.{same_state}
use Rattle.zy_state_ids.proofs.laws.bytes_tell_states.Goals as goal

pub returns : goal.returns
returns c s t e = same_state s t e
