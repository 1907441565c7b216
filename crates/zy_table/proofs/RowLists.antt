-- How many rows are left of a list.
use Rattle.std.proofs.Common.{List, [], arith, length, suc, ℕ, ◌∷◌, ◌≤◌}
use Rattle.std.specs.Prelude.{is_some, ◌==◌}
use Rattle.std.proofs.lemmas.Bool.{cond_both}
use Rattle.zy_isa.specs.Rows.{get_row}
use Rattle.zy_isa.specs.declared.row.Row.{Row}
use Rattle.zy_model.specs.Wireframe.{page_of}
use Rattle.zy_table.specs.Rows.{rows_on, rows_not_in}

-- no more rows lie on a page than there are
length-rows_on : (lows : List ℕ) (p : ℕ) (rows : List Row) → length (rows_on lows p rows) ≤ length rows
length-rows_on lows p [] = omega arith
length-rows_on lows p (r ∷ rows) =
    let less = length-rows_on lows p rows in
    cond_both (page_of lows r.key == p) (r ∷ rows_on lows p rows) (rows_on lows p rows) (λ xs. length xs ≤ suc (length rows)) (λ _. omega (arith, less))
    (λ _. omega (arith, less))

-- no more rows have a key that others lack than there are
length-rows_not_in : (rows held : List Row) → length (rows_not_in rows held) ≤ length rows
length-rows_not_in [] held = omega arith
length-rows_not_in (r ∷ rows) held =
    let less = length-rows_not_in rows held in
    cond_both (is_some (get_row held r.key)) (rows_not_in rows held) (r ∷ rows_not_in rows held) (λ xs. length xs ≤ suc (length rows))
    (λ _. omega (arith, less)) (λ _. omega (arith, less))

-- a page's new rows are some of the rows
pub length-new : (lows : List ℕ) (p : ℕ) (rows held : List Row) → length (rows_not_in (rows_on lows p rows) held) ≤ length rows
length-new lows p rows held = omega (arith, length-rows_not_in (rows_on lows p rows) held, length-rows_on lows p rows)
