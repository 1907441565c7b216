use Rattle.std.proofs.Common.{◌<◌, ℕ}
use Rattle.zy_machine.proofs.SameLemmas.{SameAt}
use Rattle.zy_machine.proofs.same.same_messages.Given as goal

abbrev pub invariant-loop-i : goal.invariant-loop-i
invariant-loop-i l = (j : ℕ) → j < l.i → SameAt l.x.messages l.y.messages j
