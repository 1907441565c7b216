use Rattle.zy_state_ids.specs.Parts.{parts}
use Rattle.zy_state_ids.proofs.PartLemmas.{stay}
use Rattle.zy_state_ids.proofs.laws.numbers_stay.Goals as goal

pub returns : goal.returns
returns c old new part numbers s keeps e = stay old new keeps numbers (parts part s) e
