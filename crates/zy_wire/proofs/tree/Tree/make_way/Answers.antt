use Rattle.std.proofs.Common.{rules, arith}
use Rattle.zy_wire.proofs.tree.Tree.make_way.Goals as goal

pub loop-level-preserved : goal.loop-level-preserved
loop-level-preserved c = record {
  at = search rules;
  level = omega arith;
  few = search rules;
  top = search rules;
  nodes = omega arith;
  room = omega arith;
  enough = search rules;
  number = search rules;
  holds = λ lows h. c.step-id.ensures.holds lows (c.loop-level.invariant.holds lows h);
}

pub returns-clause-holds : goal.returns-clause-holds
returns-clause-holds c = λ lows h. c.loop-level.invariant.holds lows (c.head-id.ensures.holds lows h)
