-- The words at which a cursor is.
use Rattle.std.specs.Prelude.{ℕ, List, [], ◌∷◌, Option, Some, None, Result, Ok, Err}
use Rattle.zy_queries.specs.declared.reading.cursor.GoalCursor.{GoalCursor}
use Rattle.zy_queries.specs.declared.refusal.WordFault.{WordFault}
use Rattle.zy_queries.specs.Words.{Word, Read, words_of}

-- a word and those of the bytes behind it; behind the last word comes the empty one
abbrev pub words_from : Word → List ℕ → List Word
words_from [] bytes = []
words_from (b ∷ bs) bytes = (b ∷ bs) ∷ words_of bytes

-- the word of a cursor and those behind it
abbrev pub left : GoalCursor → List Word
left c = words_from c.word.now c.rest.now

-- what was read, and the words that are left
abbrev pub read : {T : Type 0} → Result (T × GoalCursor) WordFault → Read T
read (Ok x) = Some (x.0, left x.1)
read (Err e) = None

-- what was found
abbrev pub found : {T : Type 0} → Result T WordFault → Option T
found (Ok x) = Some x
found (Err e) = None
