-- What the first words of some words spell.
use Rattle.std.specs.Prelude.{ℕ, ◌||◌, Bool, true, false, List, [], ◌∷◌, codes, length, Option, Some, None, Result, Ok, Err}
use Rattle.std.specs.Str.{bytes_eq}
use Rattle.zy_logs.specs.declared.expected.ExpectedInLog.{ExpectedInLog}
use Rattle.zy_logs.specs.declared.reading.cursor.Misfit.{Misfit}

-- a word, as bytes
abbrev pub Word : Type 0
Word = List ℕ

-- a value that the first words spell, and the words after them; or where they stop to fit
abbrev pub Read : Type 0 → Type 0
Read T = Result (T × List Word) Misfit

-- the first one of some words; where there is none, the empty one
abbrev pub first : List Word → Word
first [] = []
first (w ∷ ws) = w

-- the words after the first one
abbrev pub after : List Word → List Word
after [] = []
after (w ∷ ws) = ws

-- there is no word
abbrev pub are_none : List Word → Bool
are_none [] = true
are_none (w ∷ ws) = false

-- the first word is this one
abbrev pub begin_with : Word → List Word → Bool
begin_with w ws = bytes_eq (first ws) w

-- there is no word, or the message comes
abbrev pub message_or_end : List Word → Bool
message_or_end ws = are_none ws || begin_with (codes "!") ws

-- an outcome ends before these words: there is none, or the message comes, or rows do
abbrev pub end_outcome : List Word → Bool
end_outcome ws = message_or_end ws || begin_with (codes "rows") ws

-- the first word does not fit: how many words are left with it, and what may stand in its place
abbrev pub stop : ExpectedInLog → List Word → Misfit
stop e ws = record { left = length ws; expected = e }

-- the first word is rejected
abbrev pub refused : {T : Type 0} → ExpectedInLog → List Word → Read T
refused e ws = Err (stop e ws)

-- what the first word was found to stand for
abbrev pub gives : {T : Type 0} → Option T → ExpectedInLog → List Word → Read T
gives None e ws = refused e ws
gives (Some x) e ws = Ok (x, after ws)

-- what is made of the value
abbrev pub made : {T U : Type 0} → (T → U) → Read T → Read U
made f (Err s) = Err s
made f (Ok x) = Ok (f x.0, x.1)
