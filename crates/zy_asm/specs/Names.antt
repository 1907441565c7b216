-- The names that a scenario text gives its transactions.
use Rattle.std.specs.Prelude.{◌≡◌, ◌⊎◌, ◌↔◌, ℕ, List, [], ◌∷◌, ◌++◌, length, slice_get, true, Option, Some, None, position, codes}
use Rattle.std.specs.Prelude.{if◌then◌else◌}
use Rattle.std.specs.Str.{bytes_eq}
use Rattle.zy_text.specs.Words.{lines_of, words_of, is_word, number_of}
use Rattle.zy_text.specs.Names.{Mark, is_name, place}

-- a word, where it is a name
abbrev pub if_name : List ℕ → List ℕ
if_name w = if is_name w then w else []

-- the name that a line of these words gives a transaction, if it is the head of a program
abbrev pub name_at : List (List ℕ) → Option (List ℕ)
name_at [] = None
name_at (first ∷ []) = None
name_at (first ∷ second ∷ ws) = if bytes_eq first (codes "txn") then Some (if_name second) else None

-- one name, or none
abbrev pub listed : Option (List ℕ) → List (List ℕ)
listed None = []
listed (Some name) = name ∷ []

-- the names that lines give
abbrev pub names_in : List (List ℕ) → List (List ℕ)
names_in [] = []
names_in (line ∷ below) = listed (name_at (words_of line)) ++ names_in below

-- the name of each transaction of a text, at its number; empty where it has its number alone
abbrev pub names_of : List ℕ → List (List ℕ)
names_of text = names_in (lines_of text)

-- ---- what such names say

-- a word of a choice is transaction t's number, or the name that is at t
abbrev pub StandsFor : List (List ℕ) → ℕ → List ℕ → Type 0
StandsFor names t w = (number_of w ≡ Some t) ⊎ ((is_name w ≡ true) × (slice_get names t ≡ Some w))

-- names, one for each of `count` transactions, say the same of each word as a table of names and numbers
pub record SayTheSame (names : List (List ℕ)) (count : ℕ) (table : List Mark) : Type 0 where
  pub each : length names ≡ count
  -- the number of a word in the table is the only place where it is among the names
  pub only : (w : List ℕ) (t : ℕ) → is_word w ≡ true → (place w table ≡ Some t) ↔ (slice_get names t ≡ Some w)
  -- a search through the names finds it there
  pub found : (w : List ℕ) → is_word w ≡ true → position (λ n. bytes_eq n w) names ≡ place w table
