-- The locks before this one are the same.
use Rattle.std.proofs.Common.{◌≡◌, ◌≤◌, ◌-◌, length, take}
use Rattle.zy_trace.proofs.kept.common.Given as goal

abbrev pub invariant-loop-i : goal.invariant-loop-i
invariant-loop-i l = record {
  old : l.i ≤ length l.old;
  new : l.i ≤ length l.new;
  same : take l.i l.old ≡ take l.i l.new;
}

abbrev pub decreases-loop-i : goal.decreases-loop-i
decreases-loop-i l = length l.old - l.i
