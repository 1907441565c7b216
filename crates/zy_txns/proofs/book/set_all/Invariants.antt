use Rattle.std.proofs.Common.{◌≡◌, ◌++◌, take, drop}
use Rattle.zy_txns.proofs.book.set_all.Given as goal

abbrev pub invariant-loop-t : goal.invariant-loop-t
invariant-loop-t l = l.xs.items ≡ take l.t l.ys ++ drop l.t l.fn.xs.items
