use Rattle.std.proofs.Common.{option_copied}
use Rattle.zy_debug.proofs.KeptLemmas.{AreReplaysOf-found}
use Rattle.zy_debug.proofs.shelf.Shelf.nearest.Goals as goal

pub returns-in-Some-clause-kept : goal.returns-in-Some-clause-kept
returns-in-Some-clause-kept c =
    λ sc a. AreReplaysOf-found sc c.args.self.now.machines c.in-Some.i (option_copied c.get.result) a (rw (← c.self.view_is) c.get.ensures)
