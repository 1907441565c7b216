-- The words of a text.
use Rattle.std.specs.Prelude.{ℕ, suc, ◌==◌, ◌||◌, ◌&&◌, Bool, true, false, List, [], ◌∷◌, Option, Some, None, option_map}
use Rattle.std.specs.Prelude.{if◌then◌else◌}
use Rattle.std.specs.List.{onto_first}
use Rattle.std.specs.Str.{bytes_eq}

-- a word, as bytes
abbrev pub Word : Type 0
Word = List ℕ

-- a space, a tab, a line feed or a carriage return
abbrev pub is_space : ℕ → Bool
is_space b = b == 32 || b == 9 || b == 10 || b == 13

-- `(` or `)`
abbrev pub is_bracket : ℕ → Bool
is_bracket b = b == 40 || b == 41

-- `=`, `!`, `<` or `>`
abbrev pub is_sign : ℕ → Bool
is_sign b = b == 61 || b == 33 || b == 60 || b == 62

-- what is no space, no bracket and no sign
abbrev pub is_plain : ℕ → Bool
is_plain b = if is_space b then false else if is_bracket b then false else if is_sign b then false else true

-- two bytes side by side are of one word: both are signs, or neither is a space, a bracket or a sign
abbrev pub are_joined : ℕ → ℕ → Bool
are_joined b c = (is_sign b && is_sign c) || (is_plain b && is_plain c)

-- the byte is of one word with what comes after it
abbrev pub goes_on : ℕ → List ℕ → Bool
goes_on b [] = false
goes_on b (c ∷ cs) = are_joined b c

-- Spaces part words; a bracket is a word by itself, and so are signs side by side.
unfoldable pub words_of : List ℕ → List Word
words_of [] = []
words_of (b ∷ bs) =
    if is_space b then words_of bs else
    if goes_on b bs then onto_first b (words_of bs) else
    (b ∷ []) ∷ words_of bs

-- the first byte is a space
abbrev pub begins_with_space : List ℕ → Bool
begins_with_space [] = false
begins_with_space (b ∷ bs) = is_space b

-- how many bytes the first word has, where no space comes before it
unfoldable pub word_len : List ℕ → ℕ
word_len [] = 0
word_len (b ∷ bs) = if goes_on b bs then suc (word_len bs) else 1

-- the first one of some words; where there is none, the empty one
abbrev pub first : List Word → Word
first [] = []
first (w ∷ ws) = w

-- the words after the first one
abbrev pub after : List Word → List Word
after [] = []
after (w ∷ ws) = ws

-- there is no word
abbrev pub are_none : List Word → Bool
are_none [] = true
are_none (w ∷ ws) = false

-- the first word is this one
abbrev pub begin_with : Word → List Word → Bool
begin_with w ws = bytes_eq (first ws) w

-- ---- what words begin with

-- a value that the first words stand for, and the words after them
abbrev pub Read : Type 0 → Type 0
Read T = Option (T × List Word)

-- a step, and what comes after it where there is a value
infixl 10 ◌>>=◌
abbrev pub ◌>>=◌ : {A B : Type 0} → Option A → (A → Option B) → Option B
None >>= f = None
(Some x) >>= f = f x

-- what is made of the value
abbrev pub made : {T U : Type 0} → (T → U) → Read T → Read U
made f None = None
made f (Some x) = Some (f x.0, x.1)

-- what the first word stands for, by a table of words
abbrev pub one : {T : Type 0} → (Word → Option T) → List Word → Read T
one table ws = option_map (λ x. (x, after ws)) (table (first ws))
