use Rattle.std.proofs.Common.{◌≡◌, ◌-◌, ◌∷◌, ◌<◌, ◌≤◌, ℕ}
use Rattle.zy_table.specs.Ranges.{range_pages}
use Rattle.zy_table.specs.Run.{first_absent}
use Rattle.zy_node.specs.Wireframes.{limit_or, lows_in}
use Rattle.zy_node.proofs.RangeSteps.{behind}
use Rattle.zy_node.proofs.range.absent_page.Given as goal

abbrev pub invariant-loop-low : goal.invariant-loop-low
invariant-loop-low l = record {
  rest : first_absent l.pages (range_pages (lows_in l.wire) l.first l.last) ≡ first_absent l.pages (l.page ∷ behind (lows_in l.wire) l.low l.last);
  few : (n : ℕ) → limit_or n l.wire ≤ n → 0 < n → l.page < n;
}

abbrev pub decreases-loop-low : goal.decreases-loop-low
decreases-loop-low l = l.last - l.low
