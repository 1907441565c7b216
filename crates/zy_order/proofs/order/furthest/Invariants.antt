use Rattle.std.proofs.Common.{ℕ, ◌<◌, length}
use Rattle.zy_order.specs.Ways.{IsNoFurther}
use Rattle.zy_order.specs.Reaches.{cursors_at}
use Rattle.zy_order.proofs.order.furthest.Given as goal

abbrev pub invariant-loop-i : goal.invariant-loop-i
invariant-loop-i l =
    record {
      there : l.best < length l.reached.cursors.items;
      best : (j : ℕ) → j < l.i → IsNoFurther (cursors_at l.reached j) (cursors_at l.reached l.best);
    }
