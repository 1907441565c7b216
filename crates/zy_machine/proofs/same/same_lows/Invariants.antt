use Rattle.std.proofs.Common.{◌≡◌, ◌<◌, ℕ, get_or}
use Rattle.zy_machine.proofs.same.same_lows.Given as goal

abbrev pub invariant-loop-p : goal.invariant-loop-p
invariant-loop-p l = (i : ℕ) → i < l.p → get_or l.x.lows i 0 ≡ get_or l.y.lows i 0
