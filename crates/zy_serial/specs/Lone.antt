-- A lone run that keeps what it writes beside the map that it began with.
use Rattle.std.specs.Prelude.{ℕ, List, Bool}
use Rattle.std.specs.FinMap.{empty}
use Rattle.zy_isa.specs.declared.row.Row.{Row}
use Rattle.zy_table.specs.Database.{Map, laid}
use Rattle.zy_table.specs.Serial.{Alone}

-- its registers, its program counter, the rows that it has written, and whether it ended
pub record Lone : Type 0 where
  pub regs : List ℕ
  pub pc : ℕ
  pub rows : List Row
  pub over : Bool

-- the map of a table's rows
abbrev pub map_of : List Row → Map
map_of rows = laid rows empty

-- the run on a map: its rows lie over it
abbrev pub on_map : Map → Lone → Alone
on_map m x = record { map = laid x.rows m; regs = x.regs; pc = x.pc; over = x.over }
