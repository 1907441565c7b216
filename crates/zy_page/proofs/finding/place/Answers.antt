use Rattle.std.proofs.Common.{ltb, rules}
use Rattle.std.proofs.lemmas.Bool.{ltb-true, ltb-false}
use Rattle.std.proofs.lemmas.List.Sorted.{IsPartitionPoint-from_clause, IsPartitionedBy-ltb}
use Rattle.zy_page.proofs.Found.{in_order}
use Rattle.zy_page.proofs.finding.place.Goals as goal

pub returns : goal.returns
returns c =
    let facts = c.partition_point.ensures in
    let split = IsPartitionPoint-from_clause (λ r. ltb r.key c.args.key) c.args.rows.now c.partition_point.result facts.partitioned
    (IsPartitionedBy-ltb (λ r. r.key) c.args.rows.now c.args.key (in_order c.args.rows.now c.requires)) (λ a r f' called. search rules) in
    (facts.bound, (λ k d low high. ltb-true _ _ (split.0 k d low high)), (λ k d low high. ltb-false _ _ (split.1 k d low high)))
