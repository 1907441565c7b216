use Rattle.zy_serial.proofs.Covered.{Covered}
use Rattle.zy_serial.proofs.covering.covers.Given as goal

abbrev pub invariant-loop-p : goal.invariant-loop-p
invariant-loop-p l = Covered l.machine.state l.p l.table l.count
