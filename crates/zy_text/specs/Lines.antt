-- A text's first line, its words, and what is below it.
use Rattle.std.specs.Prelude.{ℕ, ◌==◌, ◌||◌, ◌^◌, Bool, List, [], map, take, drop, get_or}
use Rattle.std.specs.Borrow.{Bor}
use Rattle.zy_text.specs.Words.{is_space, lines_of}

-- the words that references point to
abbrev pub texts : List (Bor (List ℕ)) → List (List ℕ)
texts ws = map (λ w. w.now) ws

-- the least number above that of every line
abbrev pub line_number_end : ℕ
line_number_end = 2 ^ 64

abbrev pub first_line : List ℕ → List ℕ
first_line text = get_or (lines_of text) 0 []

abbrev pub lines_below : List ℕ → List (List ℕ)
lines_below text = drop 1 (lines_of text)

-- at most six of a line's words; no statement and no command has more than five
abbrev pub first_words : List (List ℕ) → List (List ℕ)
first_words ws = take 6 ws

-- a space, a line feed or a semicolon
abbrev pub ends_word : ℕ → Bool
ends_word b = is_space b || b == 10 || b == 59
