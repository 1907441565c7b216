-- The digits so far and the digits that are left spell what the word spells.
use Rattle.std.proofs.Common.{◌≡◌, ◌<◌, ◌^◌, drop}
use Rattle.zy_text.specs.Words.{digits_after}
use Rattle.zy_text.proofs.numbers.number_of.Given as goal

abbrev pub invariant-loop-byte : goal.invariant-loop-byte
invariant-loop-byte l = record {
  same : digits_after l.number (drop l.byte-index l.word) ≡ digits_after 0 l.word;
  small : l.number < 10 ^ l.byte-index;
}
