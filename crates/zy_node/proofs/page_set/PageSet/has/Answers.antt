use Rattle.std.proofs.Common.{◌∙◌}
use Rattle.zy_node.proofs.NumberLists.{any_has}
use Rattle.zy_node.proofs.page_set.PageSet.has.Goals as goal

pub returns : goal.returns
returns c = rw (← c.self.view_is, ← c.deref.ensures.value) (c.contains.ensures.value ∙ any_has c.args.p c.deref.result.now)
