use Rattle.std.proofs.Common.{length}
use Rattle.zy_search.proofs.SearchLemmas.{all_named}
use Rattle.zy_search.proofs.stuck.is_stuck.Goals as goal

pub is_stuck_by-requires-clause-named : goal.is_stuck_by-requires-clause-named
is_stuck_by-requires-clause-named c = all_named c.args.kinds (length c.args.machine.now.scenario.programs) c.args.choices.now c.requires.choices
