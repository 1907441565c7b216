-- The text so far is that of the messages before this one.
use Rattle.std.proofs.Common.{◌≡◌, ◌++◌}
use Rattle.zy_listing.proofs.LinkLemmas.{first_texts}
use Rattle.zy_listing.proofs.lines.link.MessagesLine.append.Given as goal

abbrev pub invariant-loop-i : goal.invariant-loop-i
invariant-loop-i l = l.line ≡ l.initial.line ++ first_texts l.i l.self.0.now.messages
