-- Whether two maps are the same, by their entries.
use Rattle.std.specs.Prelude.{ℕ, ◌==◌, ◌&&◌, Bool}
use Rattle.std.specs.Cmp.Lexicographic.{pointwise}
use Rattle.std.specs.FinMap.{entries}
use Rattle.zy_isa.specs.Scenario.{Scenario}
use Rattle.zy_table.specs.Database.{Map, database}
use Rattle.zy_table.specs.Serial.{serial}
use Rattle.zy_table.specs.State.{State}
use Rattle.zy_serial.specs.Lone.{map_of}

-- two entries have one key and one value
abbrev pub same_entry : ℕ × ℕ → ℕ × ℕ → Bool
same_entry x y = (x.0 == y.0) && (x.1 == y.1)

-- as many entries, and each the same as the other's at its place
abbrev pub same_map : Map → Map → Bool
same_map m n = pointwise same_entry (entries m) (entries n)

-- whether the pages have exactly what the committed transactions leave when they are run alone, one by one
abbrev pub is_serial : Scenario → State → Bool
is_serial sc s = same_map (database s) (serial sc (map_of sc.rows) s.commits)
