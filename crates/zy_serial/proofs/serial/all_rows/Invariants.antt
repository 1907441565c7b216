use Rattle.zy_serial.proofs.Gathered.{Gathered}
use Rattle.zy_serial.proofs.serial.all_rows.Given as goal

abbrev pub invariant-loop-p : goal.invariant-loop-p
invariant-loop-p l = Gathered l.machine.state l.p l.table
