-- Rows in key order, as they are laid over others.
use Rattle.std.specs.Prelude.{ℕ, ◌==◌, List, [], ◌∷◌, if◌then◌else◌}
use Rattle.zy_isa.specs.declared.row.Row.{Row}

-- the rows without the first one where it has this key
abbrev pub rows_past : ℕ → List Row → List Row
rows_past k [] = []
rows_past k (r ∷ rows) = if r.key == k then rows else r ∷ rows
