-- The lines above are told, and what they tell stands in front.
use Rattle.std.proofs.Common.{◌≤◌, ◌+◌, length}
use Rattle.zy_text.specs.Words.{lines_of}
use Rattle.zy_json.proofs.LogLemmas.{Passed}
use Rattle.zy_json.proofs.logs.read_objects.Given as goal

abbrev pub invariant-loop-rest : goal.invariant-loop-rest
invariant-loop-rest l = record {
  passed : Passed l.first l.number (lines_of l.text) (lines_of l.rest) l.logs.items;
  within : l.number + length l.rest ≤ l.first + length l.text;
}

abbrev pub decreases-loop-rest : goal.decreases-loop-rest
decreases-loop-rest l = length l.rest
