-- Each turn takes a line off.
use Rattle.std.proofs.Common.{length}
use Rattle.zy_alloc_failures.proofs.scenes.commands_of.Given as goal

abbrev pub decreases-loop-words : goal.decreases-loop-words
decreases-loop-words l = length l.rest
