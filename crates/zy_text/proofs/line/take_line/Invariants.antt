-- The words that are there and those of what is left are the line's; what is below it is below what is left.
use Rattle.std.proofs.Common.{◌≡◌, ◌≤◌, ◌++◌, length}
use Rattle.zy_text.specs.Words.{words_of}
use Rattle.zy_text.specs.Lines.{first_line, lines_below, first_words}
use Rattle.zy_text.proofs.line.take_line.Given as goal

abbrev pub invariant-loop-byte : goal.invariant-loop-byte
invariant-loop-byte l = record {
  words : first_words (l.words ++ words_of (first_line l.rest)) ≡ first_words (words_of (first_line l.text));
  below : lines_below l.rest ≡ lines_below l.text;
  few : length l.words ≤ 6;
  left : length l.rest ≤ length l.text;
}

abbrev pub decreases-loop-byte : goal.decreases-loop-byte
decreases-loop-byte l = length l.rest
