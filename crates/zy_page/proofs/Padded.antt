-- The rows of a page by themselves, which are the first of its cells; the others have no row.
use Rattle.std.proofs.Common.{◌≡◌, ◌<◌, ◌++◌, List, [], ◌∷◌, length, drop, set, take, ap, arith}
use Rattle.std.specs.Prelude.{replicate}
use Rattle.std.proofs.lemmas.List.{same_lists, places, get_or-set_same, length-set, drop-replicate}
use Rattle.std.proofs.lemmas.Bool.{cases_eq, cases_lt}
use Rattle.zy_isa.specs.declared.row.Row.{Row}
use Rattle.zy_isa.specs.Limits.{max_cap}
use Rattle.zy_page.specs.RowLists.{blank, padded}

-- these rows, copied over the first of cells without one
pub padded_over : (rows : List Row) → rows ++ drop (length rows) (replicate max_cap blank) ≡ padded rows
padded_over rows = ap (λ (xs : List Row). rows ++ xs) (drop-replicate (length rows) max_cap blank)

-- one row more: the first cell without one has it
pub padded_more : (rows : List Row) (r : Row) → length rows < max_cap → set (padded rows) (length rows) r ≡ padded (rows ++ r ∷ [])
padded_more rows r lt =
    let long = length-set (padded rows) (length rows) r in
    same_lists _ _ (grind (arith, places, long, lt))
    (λ k d below. grind (arith, places, long, lt, get_or-set_same, cases_eq k (length rows), cases_lt k (length rows)))

-- the first cells are the rows
pub rows_first : (rows : List Row) → take (length rows) (padded rows) ≡ rows
rows_first rows = same_lists _ _ (grind (arith, places)) (λ k d h. grind (arith, places))
