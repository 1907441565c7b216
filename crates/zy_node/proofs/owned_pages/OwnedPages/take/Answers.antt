use Rattle.std.proofs.Common.{arith}
use Rattle.zy_node.proofs.PageLemmas.{owns-less}
use Rattle.zy_node.proofs.owned_pages.OwnedPages.take.Goals as goal

pub invariant_of-self : goal.invariant_of-self
invariant_of-self c = record {
  all = omega (arith, c.take.ensures.count, c.self.invariant.all);
  above = λ q own. c.self.invariant.above q (owns-less q c.args.p c.self.inside.store (rw c.take.ensures.left at own));
}
