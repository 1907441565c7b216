use Rattle.std.proofs.Common.{◌≡◌, take}
use Rattle.zy_threads.specs.Turns.{sub}
use Rattle.zy_threads.proofs.board.choices_by.Given as goal

abbrev pub invariant-loop-choice : goal.invariant-loop-choice
invariant-loop-choice l = l.found.items ≡ sub l.actor (take l.choice-index l.choices)
