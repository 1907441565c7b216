use Rattle.std.proofs.Common.{◌≡◌, ◌∙◌, drop, take, sym, arith}
use Rattle.std.proofs.lemmas.List.{take_rest, take-take, length-take-le}
use Rattle.std.specs.Prelude.{◌≤◌}
use Rattle.zy_model.specs.Leaf.{rows_below, rows_from}
use Rattle.zy_page.specs.RowLists.{AreKept}
use Rattle.zy_page.proofs.Parted.{rows_below-place, rows_from-place, AreKept-filter}
use Rattle.zy_page.proofs.page.Page.split_at.Goals as goal

pub with_rows-upper-requires-clause-kept : goal.with_rows-upper-requires-clause-kept
with_rows-upper-requires-clause-kept c =
    let rows = c.args.self.now.rows in
    let placed = rw c.rows.ensures.value at c.place-at.ensures in
    let kept : AreKept (rows_from c.args.boundary rows) = AreKept-filter _ rows (record { rise = c.rows.ensures.rise; fit = c.rows.ensures.fit }) in
    rw (c.rows-2.ensures.value, take_rest rows c.place-at.result) (rw (rows_from-place c.args.boundary c.place-at.result rows placed) at kept)

pub invariant_of-self : goal.invariant_of-self
invariant_of-self c =
    let was = c.self.inside in
    let rows = take was.len was.cells in
    let placed = rw (c.rows.ensures.value, ← c.self.view_is) at c.place-at.ensures in
    let few : c.place-at.result ≤ was.len =
    omega (arith, placed.0, length-take-le was.len was.cells (omega (arith, c.self.invariant.few, c.self.invariant.full))) in
    let kept : AreKept (rows_below c.args.boundary rows) = AreKept-filter _ rows c.self.invariant.kept in
    let front = rows_below-place c.args.boundary c.place-at.result rows placed ∙ take-take c.place-at.result was.len was.cells few in
    record { few = omega (arith, few, c.self.invariant.few); full = c.self.invariant.full; kept = rw front at kept }

pub returns-clause-new_page : goal.returns-clause-new_page
returns-clause-new_page c =
    let rows = c.args.self.now.rows in
    let placed = rw c.rows.ensures.value at c.place-at.ensures in
    let moved : drop c.place-at.result rows ≡ rows_from c.args.boundary rows = sym (rows_from-place c.args.boundary c.place-at.result rows placed) in
    let upper = rw (c.rows-2.ensures.value, take_rest rows c.place-at.result) at c.with_rows-upper.ensures in
    upper ∙ (λ i. record { number = c.args.number; low = c.args.boundary; rows = moved i })

pub returns-clause-old_page : goal.returns-clause-old_page
returns-clause-old_page c =
    let was = c.self.inside in
    let rows = take was.len was.cells in
    let placed = rw (c.rows.ensures.value, ← c.self.view_is) at c.place-at.ensures in
    let few : c.place-at.result ≤ was.len =
    omega (arith, placed.0, length-take-le was.len was.cells (omega (arith, c.self.invariant.few, c.self.invariant.full))) in
    let front = rows_below-place c.args.boundary c.place-at.result rows placed ∙ take-take c.place-at.result was.len was.cells few in
    rw (← c.self.view_is) (λ i. record { number = was.number; low = was.low; rows = sym front i })
