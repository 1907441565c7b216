use Rattle.zy_table.specs.Serial.{alone}
use Rattle.zy_serial.specs.Lone.{map_of}
use Rattle.zy_serial.proofs.LoneSteps.{laid-ok}
use Rattle.zy_serial.proofs.table.Table.run.Goals as goal

pub returns : goal.returns
returns c =
    laid-ok c.lay.result c.rows-2.result.now c.args.self.now c.lay.new.self (alone (map_of c.args.self.now) c.args.program.now c.args.done).map
    (rw c.rows-2.ensures.value c.in_ok-rows.ensures) c.lay.ensures.ok
