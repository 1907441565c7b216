use Rattle.std.proofs.Common.{rules}
use Rattle.std.proofs.lemmas.List.Sorted.{IsPartitionPoint-from_clause}
use Rattle.zy_model.specs.Order.{comes_before}
use Rattle.zy_model.proofs.Rising.{in_order}
use Rattle.zy_locks.proofs.locks.place.Goals as goal

pub returns : goal.returns
returns c =
    let facts = c.partition_point.ensures in
    let split = IsPartitionPoint-from_clause (λ x. comes_before x c.args.page c.args.txn) c.args.locks.now c.partition_point.result facts.partitioned
    (in_order c.args.page c.args.txn c.args.locks.now c.requires) (λ a r f' called. search rules) in
    (facts.bound, split.0, split.1)
