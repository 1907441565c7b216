use Rattle.zy_order.specs.Reaches.{KeepsOthers}
use Rattle.zy_order.proofs.search.Search.free_under.Given as goal

abbrev pub invariant-loop-k : goal.invariant-loop-k
invariant-loop-k l = KeepsOthers l.plan l.initial.self l.self
