use Rattle.std.proofs.Common.{◌≡◌}
use Rattle.zy_table.specs.Serial.{alone}
use Rattle.zy_serial.specs.Lone.{map_of, on_map}
use Rattle.zy_serial.proofs.lone.written.Given as goal

abbrev pub invariant-loop : goal.invariant-loop
invariant-loop l = on_map (map_of l.table) l.run ≡ alone (map_of l.table) l.program l.counter
