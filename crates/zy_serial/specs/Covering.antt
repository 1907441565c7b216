-- Rows that are among those of a table.
use Rattle.std.specs.Prelude.{◌≡◌, ◌++◌, List}
use Rattle.zy_isa.specs.declared.row.Row.{Row}

-- side by side, between the rows before them and those after them
abbrev pub HasRun : List Row → List Row → Type 0
HasRun table run = (front : List Row) × (back : List Row) × (table ≡ front ++ (run ++ back))
