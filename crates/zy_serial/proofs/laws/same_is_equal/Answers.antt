use Rattle.zy_serial.proofs.Entries.{same_map-equal, same_map-true}
use Rattle.zy_serial.proofs.laws.same_is_equal.Goals as goal

pub returns : goal.returns
returns c m n = (same_map-equal m n, same_map-true m n)
