use Rattle.zy_search.proofs.along.along.Goals as goal

pub returns : goal.returns
returns c = rw c.in_ok-machine.ensures.scenario at c.along_from-positions.ensures
