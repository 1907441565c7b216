use Rattle.std.proofs.Common.{◌≡◌, ◌<◌, ℕ, slice_get}
use Rattle.zy_table.specs.Change.{txn_or}
use Rattle.zy_machine.proofs.same.same_txns.Given as goal

abbrev pub invariant-loop-t : goal.invariant-loop-t
invariant-loop-t l = (i : ℕ) → i < l.t → txn_or (slice_get l.x.txns i) ≡ txn_or (slice_get l.y.txns i)
