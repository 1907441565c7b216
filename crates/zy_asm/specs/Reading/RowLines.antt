-- The rows.
use Rattle.std.specs.Prelude.{◌+◌, ◌||◌, ℕ, List, [], ◌∷◌, ◌++◌, length}
use Rattle.std.specs.Prelude.{Bool, Result, Ok, Err, if◌then◌else◌, nat_le, nat_lt}
use Rattle.zy_isa.specs.Limits.{max_rows}
use Rattle.zy_isa.specs.Limits.{max_key, max_value}
use Rattle.zy_isa.specs.declared.row.Row.{Row}
use Rattle.zy_isa.specs.Rows.{last_row, is_low}
use Rattle.zy_isa.specs.Scenario.{opening_pages_for}
use Rattle.zy_asm.specs.declared.faults.AsmKind.{AsmKind}
use Rattle.zy_asm.specs.declared.faults.AsmKind.TheVariants as kinds
use Rattle.zy_asm.specs.declared.state.Stage.{Stage}
use Rattle.zy_asm.specs.declared.state.Stage.TheVariants.{Rows}
use Rattle.zy_isa.specs.Results.{◌>>=◌}
use Rattle.zy_asm.specs.Steps.{number_in}
use Rattle.zy_asm.specs.Reading.Progress.{Seen}

abbrev pub row_with : List ℕ → List ℕ → Result Row AsmKind
row_with k v = do
  key ← number_in k 0 max_key
  value ← number_in v 0 max_value
  Ok (record { key = key; value = value })

abbrev pub row_of : List (List ℕ) → Result Row AsmKind
row_of (k ∷ v ∷ []) = row_with k v
row_of _ = Err kinds.Word

-- there is no place for a row more
abbrev pub is_full : Seen → Bool
is_full s = nat_le max_rows (length s.rows) || nat_lt s.pages (opening_pages_for s.cap (length s.rows + 1))

abbrev pub add_row : Seen → Row → Result Seen AsmKind
add_row s row =
    if is_full s then Err kinds.Count else
    if is_low row.key (last_row s.rows) then Err kinds.Order else
    Ok (record s { rows = s.rows ++ row ∷ [] })

abbrev pub row_at : Stage → Seen → List (List ℕ) → Result Seen AsmKind
row_at Rows s ws = row_of ws >>= add_row s
row_at _ s ws = Err kinds.Order
