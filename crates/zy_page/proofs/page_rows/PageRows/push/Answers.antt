use Rattle.std.proofs.Common.{◌≡◌, ◌∙◌, ◌+◌, ◌++◌, ◌∷◌, [], ap, arith, length, length-append, set}
use Rattle.zy_page.specs.declared.page_rows.PageRows.{PageRows}
use Rattle.zy_page.specs.RowLists.{padded}
use Rattle.zy_page.proofs.Padded.{padded_more}
use Rattle.zy_page.proofs.page_rows.PageRows.push.Goals as goal

pub returns : goal.returns
returns c = λ rows e.
    let r = c.args.row in
    let count = ap (λ (x : PageRows). x.len) e in
    let cells = ap (λ (x : PageRows). x.cells) e in
    let more : c.args.self.now.len + 1 ≡ length (rows ++ r ∷ []) = omega (arith, count, length-append rows (r ∷ [])) in
    let put : set c.args.self.now.cells c.args.self.now.len r ≡ padded (rows ++ r ∷ []) =
    (λ i. set (cells i) (count i) r) ∙ padded_more rows r (omega (arith, count, c.requires)) in
    λ i. record { len = more i; cells = put i }
