-- A page as everyone sees it.
use Rattle.std.specs.Prelude.{ℕ, nat_lt, nat_le, List, filter}
use Rattle.zy_isa.specs.declared.row.Row.{Row}

-- a page: its number, its low key and its committed rows, in key order
pub record Leaf : Type 0 where
  pub number : ℕ
  pub low : ℕ
  pub rows : List Row

-- the rows below a boundary
abbrev pub rows_below : ℕ → List Row → List Row
rows_below b rows = filter (λ (r : Row). nat_lt r.key b) rows

-- the rows at or above it
abbrev pub rows_from : ℕ → List Row → List Row
rows_from b rows = filter (λ (r : Row). nat_le b r.key) rows
