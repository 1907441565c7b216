use Rattle.std.proofs.Common.{List, length, ap, sym, ◌∙◌, arith, inl, inr}
use Rattle.std.specs.Prelude.{◌==◌}
use Rattle.std.proofs.lemmas.Bool.{eqb-true, or_cases}
use Rattle.zy_model.specs.Leaf.{Leaf}
use Rattle.zy_table.specs.Pages.{owns}
use Rattle.zy_table.proofs.PageLists.{length-with_page}
use Rattle.zy_table.proofs.PageLists.{owns-with_page}
use Rattle.zy_node.proofs.owned_pages.OwnedPages.put.Goals as goal

pub invariant_of-self : goal.invariant_of-self
invariant_of-self c =
    let pages = c.self.inside.store in
    let page = c.args.page in
    rw c.put.ensures (record {
      all = omega (arith, length-with_page page pages, c.len.ensures.value, ap (λ (xs : List Leaf). length xs) c.self.view_is);
      above = λ q own. elim (or_cases (page.number == q) (owns pages q) (sym (owns-with_page q page pages) ∙ own)) [
        | inl e ↦ let same = eqb-true _ _ e in omega (arith, same, c.min-self-inside.ensures, c.number.ensures)
        | inr e ↦ let old = c.self.invariant.above q e in omega (arith, old, c.min-self-inside.ensures)
      ];
    })
