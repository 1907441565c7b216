use Rattle.zy_table.specs.Database.{database}
use Rattle.zy_table.specs.Play.{opening, play}
use Rattle.zy_table.specs.Serial.{serial}
use Rattle.zy_laws.proofs.serial.Serializable.{serializable}
use Rattle.zy_serial.specs.Lone.{map_of}
use Rattle.zy_serial.proofs.Entries.{same_map-true}
use Rattle.zy_serial.proofs.laws.always_same.Goals as goal

pub returns : goal.returns
returns c sc ok held choices =
    let s = play sc (opening sc) choices in
    same_map-true (database s) (serial sc (map_of sc.rows) s.commits) (serializable sc ok held choices).one_by_one
