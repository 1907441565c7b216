-- What a call answers, as a line of the table.
use Rattle.std.specs.Prelude.{◌≡◌, Result, Ok, Err}
use Rattle.zy_table.specs.State.{View, Move}
use Rattle.zy_table.specs.declared.answer.Answer.{Answer}

-- the line that was made: what it leaves, and the answer
abbrev pub move_of : Answer → View → Move
move_of x after = record { after = after; outcome = x.outcome; sent = x.sent }

-- the call made the line, or memory was wanted and nothing that shows changed
abbrev pub Makes : {E : Type 0} → View → View → Result Answer E → Move → Type 0
Makes old new (Ok x) m = move_of x new ≡ m
Makes old new (Err e) m = new ≡ old
