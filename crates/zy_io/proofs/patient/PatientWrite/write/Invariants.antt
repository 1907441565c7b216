-- Calls that were interrupted have written nothing.
use Rattle.std.specs.Io.KnownBytes.{Keeps}
use Rattle.zy_io.proofs.patient.PatientWrite.write.Given as goal

abbrev pub invariant-loop : goal.invariant-loop
invariant-loop g l = Keeps (g.W.Write.contents l.initial.self.writer) (g.W.Write.contents l.self.writer)
