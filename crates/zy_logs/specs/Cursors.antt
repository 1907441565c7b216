-- The words at which a cursor is.
use Rattle.std.specs.Prelude.{List, Result, Ok, Err}
use Rattle.zy_text.specs.Lines.{texts}
use Rattle.zy_logs.specs.declared.reading.cursor.LogCursor.{LogCursor}
use Rattle.zy_logs.specs.declared.reading.cursor.Misfit.{Misfit}
use Rattle.zy_logs.specs.Words.{Word, Read}

-- the word of a cursor and those behind it
abbrev pub left : LogCursor → List Word
left c = texts c.words.now

-- what was read, and the words that are left
abbrev pub read : {T : Type 0} → Result (T × LogCursor) Misfit → Read T
read (Ok x) = Ok (x.0, left x.1)
read (Err s) = Err s
