-- The lines of a text, the words of a line, and the number that a word spells.
use Rattle.std.specs.Prelude.{ℕ, ◌==◌, ◌||◌, ◌&&◌, ◌+◌, ◌-◌, ◌*◌, Bool, true, false, not, nat_le, List, [], ◌∷◌, ◌++◌}
use Rattle.std.specs.Prelude.{length, filter, map, take_while, Option, Some, None, if◌then◌else◌}
use Rattle.std.specs.List.{slice_split, onto_first}
use Rattle.std.specs.Char.{is_ascii_digit}

-- lines end with LF; the last may lack it
abbrev pub lines_of : List ℕ → List (List ℕ)
lines_of [] = []
lines_of (b ∷ bs) = if b == 10 then [] ∷ lines_of bs else onto_first b (lines_of bs)

-- a space, a tab or a carriage return
abbrev pub is_space : ℕ → Bool
is_space c = c == 32 || c == 9 || c == 13

-- what is before a comment
abbrev pub without_comment : List ℕ → List ℕ
without_comment line = take_while (λ c. not (c == 59)) line

abbrev pub is_word : List ℕ → Bool
is_word w = not (length w == 0)

-- the words of a line, which spaces part
abbrev pub words_of : List ℕ → List (List ℕ)
words_of line = filter is_word (slice_split is_space (without_comment line))

abbrev pub has_words : List (List ℕ) → Bool
has_words [] = false
has_words (w ∷ ws) = true

-- the words of each line that has any
abbrev pub lines_with_words : List ℕ → List (List (List ℕ))
lines_with_words text = filter has_words (map words_of (lines_of text))

-- a word that begins with a digit
abbrev pub is_numeral : List ℕ → Bool
is_numeral [] = false
is_numeral (b ∷ bs) = is_ascii_digit b

-- the number that digits spell after n, if they are digits
abbrev pub digits_after : ℕ → List ℕ → Option ℕ
digits_after n [] = Some n
digits_after n (d ∷ ds) = if is_ascii_digit d then digits_after (10 * n + (d - 48)) ds else None

-- the number that 1 to 10 digits spell
abbrev pub number_of : List ℕ → Option ℕ
number_of w = if is_word w && nat_le (length w) 10 then digits_after 0 w else None

-- one space between words
abbrev pub spaced : List (List ℕ) → List ℕ
spaced [] = []
spaced (w ∷ []) = w
spaced (w ∷ v ∷ ws) = w ++ 32 ∷ spaced (v ∷ ws)
