use Rattle.std.proofs.Common.{◌≡◌, ◌≤◌, length, take}
use Rattle.std.specs.Vec.{vec_capacity}
use Rattle.zy_txns.proofs.book.copy_txns.Given as goal

abbrev pub invariant-loop-txn : goal.invariant-loop-txn
invariant-loop-txn l = (l.copies.items ≡ take l.txn-index l.txns) × (length l.txns ≤ vec_capacity l.copies)
