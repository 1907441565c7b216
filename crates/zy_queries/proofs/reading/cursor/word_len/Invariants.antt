-- What is counted and what is left of the word are the word.
use Rattle.std.proofs.Common.{◌≡◌, ◌+◌, length}
use Rattle.zy_queries.specs.Words.{word_len}
use Rattle.zy_queries.proofs.reading.cursor.word_len.Given as goal

abbrev pub invariant-loop-first : goal.invariant-loop-first
invariant-loop-first l = record {
  counted : l.len + word_len l.rest ≡ word_len l.bytes;
  within : l.len + length l.rest ≡ length l.bytes;
}

abbrev pub decreases-loop-first : goal.decreases-loop-first
decreases-loop-first l = length l.rest
