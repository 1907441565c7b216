use Rattle.std.proofs.Common.{◌≡◌, ◌≤◌, ◌+◌, ◌-◌, ◌*◌}
use Rattle.zy_isa.specs.Limits.{max_value}
use Rattle.zy_table.specs.Ranges.{keys_on, total}
use Rattle.zy_goals.specs.Terms.{committed_at}
use Rattle.zy_goals.proofs.terms.sum.Given as goal

-- the last i keys are added up
abbrev pub invariant-loop-i : goal.invariant-loop-i
invariant-loop-i l =
    record {
      sum : l.sum ≡ total (committed_at l.machine.state) (keys_on l.i (l.last + 1 - l.i));
      small : l.sum ≤ l.i * max_value;
    }
