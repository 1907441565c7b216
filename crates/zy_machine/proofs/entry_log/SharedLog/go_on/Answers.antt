use Rattle.zy_machine.proofs.KnownLemmas.{take-one-more, drop-one-more}
use Rattle.std.specs.Arc.{arc_value}
use Rattle.zy_machine.proofs.entry_log.SharedLog.go_on.Goals as goal

pub returns-clause-made : goal.returns-clause-made
returns-clause-made c = rw (← c.self.view_is) (take-one-more c.self.inside.len (arc_value c.self.inside.all).items)

pub returns-clause-ahead : goal.returns-clause-ahead
returns-clause-ahead c = rw (← c.self.view_is) (drop-one-more c.self.inside.len (arc_value c.self.inside.all).items)
