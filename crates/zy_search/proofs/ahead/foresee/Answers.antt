use Rattle.std.proofs.Common.{arith}
use Rattle.zy_search.proofs.AheadLemmas.{successors_more}
use Rattle.zy_search.proofs.ahead.foresee.Goals as goal

pub loop-at-preserved : goal.loop-at-preserved
loop-at-preserved c = record {
  found = rw c.in_ok-push.ensures.items (successors_more c.args.plan.now c.args.reached.now c.loop-at.ahead.numbers c.successors_of.new.kept c.in_ok-successors.ensures.grows
      c.loop-at.ahead.found.items c.in_ok-successors.successors c.loop-at.invariant.found c.in_ok-successors.ensures.successors);
  none = c.loop-at.invariant.none;
}

pub loop-at-init : goal.loop-at-init
loop-at-init c = record { found = rw c.new-ahead.ensures.found (λ k d lt. absurd (omega (arith, lt))); none = c.new-ahead.ensures.taken }
