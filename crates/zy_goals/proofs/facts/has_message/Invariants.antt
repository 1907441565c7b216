use Rattle.std.proofs.Common.{◌≡◌, ◌<◌, ℕ, get_or, false}
use Rattle.zy_links.specs.declared.message.Message.{Message}
use Rattle.zy_links.specs.Messages.{message_of}
use Rattle.zy_goals.specs.Facts.{is_like}
use Rattle.zy_goals.proofs.facts.has_message.Given as goal

-- no message before i is like the pattern
abbrev pub invariant-loop-i : goal.invariant-loop-i
invariant-loop-i l = (j : ℕ) → j < l.i → (x : Message) → x ≡ get_or l.link.messages j x → is_like l.pattern (message_of x) ≡ false
