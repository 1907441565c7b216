use Rattle.std.proofs.Common.{inl, refl}
use Rattle.zy_isa.specs.declared.node.Actor.TheVariants.{C}
use Rattle.zy_order.proofs.cursors.Cursors.advanced_by.Goals as goal

pub advanced-requires-in-Both : goal.advanced-requires-in-Both
advanced-requires-in-Both c = (rw c.in-Both.is at c.requires) C (inl refl)
