use Rattle.std.proofs.Common.{sym, ◌∙◌}
use Rattle.zy_node.proofs.PageLemmas.{least_below}
use Rattle.zy_node.proofs.owned_pages.OwnedPages.lowest.Goals as goal

pub invariant_of-self : goal.invariant_of-self
invariant_of-self c = record {
  all = c.self.invariant.all;
  above = least_below c.in-Some.p c.self.inside.store (sym c.lowest_from-lowest.ensures ∙ c.in-Some.is);
}
