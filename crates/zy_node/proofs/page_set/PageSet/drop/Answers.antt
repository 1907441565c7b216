use Rattle.std.proofs.Common.{◌∙◌, eqb, not, rules}
use Rattle.std.proofs.lemmas.Fn.{filter_same}
use Rattle.zy_table.proofs.RisingNumbers.{rises_drop, has-dropped}
use Rattle.zy_node.proofs.NumberLists.{filter_drops}
use Rattle.zy_node.proofs.page_set.PageSet.drop.Goals as goal

pub invariant_of-self : goal.invariant_of-self
invariant_of-self c =
    let left = filter_same _ (λ x. not (eqb x c.args.p)) _ (λ x b f' k. search rules) _ _ c.retain.ensures.filtered ∙ filter_drops c.args.p _ in
    let kept = c.self.invariant in
    rw left (rises_drop 0 c.args.p _ kept.0, (λ q there. kept.1 q (has-dropped c.args.p q _ there).0), rw c.retain.ensures.capacity kept.2)

pub returns : goal.returns
returns c =
    let left = filter_same _ (λ x. not (eqb x c.args.p)) _ (λ x b f' k. search rules) _ _ c.retain.ensures.filtered ∙ filter_drops c.args.p _ in
    rw (← c.self.view_is) left
