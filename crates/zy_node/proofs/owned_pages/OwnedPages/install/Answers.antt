use Rattle.std.proofs.Common.{sym, ◌∙◌}
use Rattle.zy_node.proofs.PageLemmas.{length-with_row, owns-row}
use Rattle.zy_node.proofs.owned_pages.OwnedPages.install.Goals as goal

pub invariant_of-self : goal.invariant_of-self
invariant_of-self c =
    let pages = c.self.inside.store in
    rw c.install.ensures (record {
      all = c.self.invariant.all ∙ sym (length-with_row c.args.p c.args.key c.args.value pages);
      above = λ q own. c.self.invariant.above q (sym (owns-row c.args.p c.args.key c.args.value q pages) ∙ own);
    })
