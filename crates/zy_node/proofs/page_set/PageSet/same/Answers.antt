use Rattle.std.proofs.Common.{rules, ◌∙◌, sym}
use Rattle.std.proofs.lemmas.Slice.Eq.{slice_eq-Decides}
use Rattle.zy_node.proofs.page_set.PageSet.same.Goals as goal

pub returns : goal.returns
returns c = λ e.
    let items = (slice_eq-Decides (λ a b. search rules) c.as_slice.result.now c.as_slice-2.result.now c.eq.result c.eq.ensures).0 e in
    sym c.self.view_is ∙ (sym c.as_slice.ensures.value ∙ items ∙ c.as_slice-2.ensures.value) ∙ c.other.view_is
