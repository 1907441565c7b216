use Rattle.std.proofs.Common.{◌≡◌, drop}
use Rattle.zy_table.specs.Serial.{serial}
use Rattle.zy_serial.specs.Lone.{map_of}
use Rattle.zy_serial.proofs.serial.serial.Given as goal

abbrev pub invariant-loop-commit : goal.invariant-loop-commit
invariant-loop-commit l =
    serial l.scenario (map_of l.table) (drop l.commit-index l.commits) ≡ serial l.scenario (map_of l.scenario.rows) l.commits
