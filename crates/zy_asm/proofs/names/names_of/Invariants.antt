-- The names that were found, and those that the lines left give, are those of the text.
use Rattle.std.proofs.Common.{◌≡◌, ◌++◌, length}
use Rattle.zy_text.specs.Lines.{texts}
use Rattle.zy_text.specs.Words.{lines_of}
use Rattle.zy_asm.specs.Names.{names_in, names_of}
use Rattle.zy_asm.proofs.names.names_of.Given as goal

abbrev pub invariant-loop-words : goal.invariant-loop-words
invariant-loop-words l = texts l.names.items ++ names_in (lines_of l.rest) ≡ names_of l.text

abbrev pub decreases-loop-words : goal.decreases-loop-words
decreases-loop-words l = length l.rest
