use Rattle.std.proofs.Common.{◌≡◌, take}
use Rattle.zy_order.specs.Orders.{lines_of}
use Rattle.zy_order.proofs.logs.lines_of.Given as goal

abbrev pub invariant-loop-line : goal.invariant-loop-line
invariant-loop-line l = l.found.items ≡ lines_of l.actor (take l.line-index l.lines)
