use Rattle.std.proofs.Common.{sym, ◌∙◌}
use Rattle.zy_table.proofs.PageLists.{length-lowered, owns-lowered}
use Rattle.zy_node.proofs.CutSlots.{page_in-lowered_none}
use Rattle.zy_node.proofs.owned_pages.OwnedPages.cut.Goals as goal

pub invariant_of-self : goal.invariant_of-self
invariant_of-self c =
    let pages = c.self.inside.store in
    rw c.split_off-upper.ensures.lower (record {
      all = c.self.invariant.all ∙ sym (length-lowered c.args.p c.args.boundary pages);
      above = λ q own. c.self.invariant.above q (sym (owns-lowered c.args.p c.args.boundary pages q) ∙ own);
    })

pub put-requires-clause-absent : goal.put-requires-clause-absent
put-requires-clause-absent c =
    rw (c.split_off-upper.ensures.upper, c.split_off-upper.ensures.lower)
    (page_in-lowered_none c.args.number c.args.p c.args.boundary c.self.inside.store (rw (← c.self.view_is) at c.requires.absent))
