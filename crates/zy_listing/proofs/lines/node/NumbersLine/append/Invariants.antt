-- The text so far is that of those before this one.
use Rattle.std.proofs.Common.{◌≡◌, ◌++◌, take}
use Rattle.zy_listing.specs.Nodes.{numbers_text}
use Rattle.zy_listing.proofs.lines.node.NumbersLine.append.Given as goal

abbrev pub invariant-loop-number : goal.invariant-loop-number
invariant-loop-number l = l.line ≡ l.initial.line ++ numbers_text (take l.number-index l.self.0.now)
