use Rattle.std.proofs.Common.{ℕ, ◌<◌}
use Rattle.zy_order.specs.Ways.{AreMatched}
use Rattle.zy_order.specs.Reaches.{cursors_at}
use Rattle.zy_order.proofs.order.first_matched.Given as goal

abbrev pub invariant-loop-i : goal.invariant-loop-i
invariant-loop-i l = (j : ℕ) → j < l.i → AreMatched l.plan.logs (cursors_at l.reached j) → ⊥
