use Rattle.zy_node.specs.OwnedPages.{OwnsBelow}
use Rattle.zy_node.proofs.page_store.PageStore.owns_below.Given as goal

abbrev pub invariant-loop-p : goal.invariant-loop-p
invariant-loop-p l = OwnsBelow l.p l.self
