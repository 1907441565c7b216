use Rattle.zy_order_laws.proofs.SameOrder.{one_migration_order}
use Rattle.zy_order_laws.proofs.laws.one_migration_order.Goals as goal

pub returns : goal.returns
returns c sc ok before lines gaps complete one other a b = one_migration_order sc ok before lines gaps complete one other a b
