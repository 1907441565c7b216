-- The text so far is that of those before this one.
use Rattle.std.proofs.Common.{◌≡◌, ◌++◌, take}
use Rattle.zy_listing.specs.Texts.{regs_text}
use Rattle.zy_listing.proofs.lines.rows.RegsLine.append.Given as goal

abbrev pub invariant-loop-value : goal.invariant-loop-value
invariant-loop-value l = l.line ≡ l.initial.line ++ regs_text (take l.value-index l.self.0.now)
