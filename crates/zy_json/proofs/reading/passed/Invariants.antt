use Rattle.std.proofs.Common.{length}
use Rattle.zy_json.proofs.reading.passed.Given as goal

abbrev pub decreases-loop : goal.decreases-loop
decreases-loop l = length l.reader
