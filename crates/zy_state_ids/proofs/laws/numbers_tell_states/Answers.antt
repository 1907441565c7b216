use Rattle.zy_state_ids.proofs.PartLemmas.{alike_by_numbers}
use Rattle.zy_state_ids.proofs.laws.numbers_tell_states.Goals as goal

pub returns : goal.returns
returns c = alike_by_numbers
