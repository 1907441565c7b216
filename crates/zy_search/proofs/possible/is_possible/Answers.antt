use Rattle.std.proofs.Common.{length}
use Rattle.zy_search.proofs.SearchLemmas.{all_named}
use Rattle.zy_search.proofs.possible.is_possible.Goals as goal

pub first_giving-requires-clause-named : goal.first_giving-requires-clause-named
first_giving-requires-clause-named c = all_named c.args.kinds (length c.args.machine.now.scenario.programs) c.args.choices.now c.requires.choices
