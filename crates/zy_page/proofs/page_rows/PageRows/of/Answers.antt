use Rattle.std.proofs.Common.{◌∙◌, ◌++◌, List, ap, drop, length}
use Rattle.std.specs.Prelude.{replicate}
use Rattle.zy_isa.specs.declared.row.Row.{Row}
use Rattle.zy_isa.specs.Limits.{max_cap}
use Rattle.zy_page.specs.RowLists.{blank}
use Rattle.zy_page.proofs.Padded.{padded_over}
use Rattle.zy_page.proofs.page_rows.PageRows.of.Goals as goal

pub returns : goal.returns
returns c =
    let rows = c.args.rows.now in
    ap (λ (xs : List Row). record { len = length rows; cells = xs })
    (ap (λ (xs : List Row). xs ++ drop (length rows) (replicate max_cap blank)) c.copy_from_slice.ensures.after ∙ padded_over rows)
