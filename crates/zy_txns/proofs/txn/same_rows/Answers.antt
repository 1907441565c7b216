use Rattle.std.proofs.Common.{rules}
use Rattle.std.proofs.lemmas.Slice.Eq.{slice_eq-Decides}
use Rattle.zy_txns.proofs.txn.same_rows.Goals as goal

pub returns : goal.returns
returns c = (slice_eq-Decides (λ a b. search rules) c.args.xs.now c.args.ys.now c.eq.result c.eq.ensures).0
