use Rattle.std.proofs.Common.{rules, ◌≡◌, ◌∙◌, ap, sym}
use Rattle.std.proofs.lemmas.Slice.Eq.{slice_eq-Decides}
use Rattle.zy_isa.specs.declared.row.Row.{Row}
use Rattle.zy_model.specs.Leaf.{Leaf}
use Rattle.std.proofs.Common.{List, ℕ}
use Rattle.zy_node.proofs.same.same_page.Goals as goal

same_leaf : (x y : Leaf) → x.number ≡ y.number → x.low ≡ y.low → x.rows ≡ y.rows → x ≡ y
same_leaf x y e f g =
    ap (λ (n : ℕ). record x { number = n }) e ∙ (ap (λ (l : ℕ). record x { number = y.number; low = l }) f
    ∙ ap (λ (rows : List Row). record y { rows = rows }) g)

pub returns : goal.returns
returns c = λ e.
    let rows = (slice_eq-Decides (λ a b. search rules) c.rows.result.now c.rows-2.result.now c.eq.result c.eq.ensures).0 e in
    same_leaf c.args.x.now c.args.y.now (sym c.number.ensures ∙ c.if-number.false ∙ c.number-2.ensures) (sym c.low.ensures ∙ c.if-low.false ∙ c.low-2.ensures)
    (sym c.rows.ensures.value ∙ rows ∙ c.rows-2.ensures.value)
