use Rattle.std.proofs.Common.{refl}
use Rattle.zy_serial.proofs.Covered.{no_run, run_at}
use Rattle.zy_serial.proofs.covering.has_run.Goals as goal

pub returns-in_default : goal.returns-in_default
returns-in_default c = λ is. no_run c.args.table.now c.args.run.now (rw c.in_default.is at c.first.ensures.value)

pub returns : goal.returns
returns c = λ is. run_at _ c.args.table.now c.split_at.result.1.now c.args.run.now c.partition_point-at.result c.starts_with.result
    (λ x y. refl) c.split_at.ensures.back c.starts_with.ensures.value is
