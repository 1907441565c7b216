-- A list of rows as everyone sees it, and what it keeps.
use Rattle.std.specs.Prelude.{◌≡◌, ◌⊎◌, IsSome, ℕ, ◌≤◌, ◌-◌, ◌++◌, List, length, replicate, take}
use Rattle.zy_isa.specs.declared.row.Row.{Row}
use Rattle.zy_page.specs.declared.page_rows.PageRows.{PageRows}
use Rattle.zy_isa.specs.Limits.{max_cap}
use Rattle.zy_isa.specs.Rows.{Rising, RowsFit, get_row}

-- rows in key order, and how many more there is memory for
pub record RoomyRows : Type 0 where
  pub rows : List Row
  pub spare : ℕ

-- a row at k has a place: there is one, or there is memory for it
abbrev pub HasPlace : ℕ → RoomyRows → Type 0
HasPlace k x = (1 ≤ x.spare) ⊎ IsSome (get_row x.rows k)

-- each key once, in order, and nothing that a row has no room for
pub record AreKept (rows : List Row) : Type 0 where
  pub rise : Rising 0 rows
  pub fit : RowsFit rows

-- at most max_cap rows, which are the first of the cells
pub record IsPageful (len : ℕ) (cells : List Row) : Type 0 where
  pub few : len ≤ max_cap
  pub full : length cells ≡ max_cap
  pub kept : AreKept (take len cells)

-- a cell without a row
abbrev pub blank : Row
blank = record { key = 0; value = 0 }

-- cells for the rows of a page: those of these rows, and others without one
abbrev pub padded : List Row → List Row
padded rows = rows ++ replicate (max_cap - length rows) blank

-- these rows by themselves
abbrev pub of_rows : List Row → PageRows
of_rows rows = record { len = length rows; cells = padded rows }

-- the rows that these are
abbrev pub rows_in : PageRows → List Row
rows_in x = take x.len x.cells
