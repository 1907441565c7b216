use Rattle.zy_state_ids.specs.Parts.{shared_parts}
use Rattle.zy_state_ids.proofs.numbers.numbers_of.Goals as goal

pub returns-clause-numbers : goal.returns-clause-numbers
returns-clause-numbers c = c.in_ok-put_txns.ensures.numbers (shared_parts c.args.machine.now.state) c.in_ok-numbers.ensures.numbers
