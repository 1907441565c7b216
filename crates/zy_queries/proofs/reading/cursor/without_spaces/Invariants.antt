-- The words stay the same, and the text gets shorter.
use Rattle.std.proofs.Common.{◌≡◌, length}
use Rattle.zy_queries.specs.Words.{words_of}
use Rattle.zy_queries.proofs.reading.cursor.without_spaces.Given as goal

abbrev pub invariant-loop-first : goal.invariant-loop-first
invariant-loop-first l = words_of l.rest ≡ words_of l.fn.bytes

abbrev pub decreases-loop-first : goal.decreases-loop-first
decreases-loop-first l = length l.rest
