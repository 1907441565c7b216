-- What a sum adds up.
use Rattle.std.specs.Prelude.{ℕ, List, is_some, unwrap_or, if◌then◌else◌}
use Rattle.zy_isa.specs.declared.row.Row.{Row}
use Rattle.zy_isa.specs.Rows.{get_row}

-- what some rows have at a key, 0 where they have nothing, or where others have it
abbrev pub value_beside : List Row → List Row → ℕ → ℕ
value_beside others rows k = if is_some (get_row others k) then 0 else unwrap_or (get_row rows k) 0
