use Rattle.std.proofs.Common.{arith, ap, drop, ◌≡◌}
use Rattle.std.proofs.lemmas.List.{drop_all}
use Rattle.zy_node.proofs.RowSums.{sum_beside, sum_of_rows}
use Rattle.zy_node.proofs.sums.sum_of_rows.Goals as goal

pub returns : goal.returns
returns c =
    let rows = c.args.rows.now in
    let others = c.args.others.now in
    let all = drop_all c.loop-row.row-index rows (omega (arith, c.loop-row-test.false)) in
    let rest : sum_beside others c.args.first c.args.last (drop c.loop-row.row-index rows) ≡ 0 = ap (sum_beside others c.args.first c.args.last) all in
    let is = sum_of_rows others c.args.first c.args.last 0 rows c.requires.rows in
    omega (arith, rest, is, c.loop-row.invariant, c.loop-row.auto.sum-fits)
