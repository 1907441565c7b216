-- Names of transactions and labels, and what they stand for.
use Rattle.std.specs.Prelude.{◌≡◌, ◌==◌, ◌||◌, ◌&&◌, ◌++◌, nat_le, ℕ, List, [], ◌∷◌, length, Bool, false, Option, Some}
use Rattle.std.specs.Prelude.{None, option_map, position, if◌then◌else◌}
use Rattle.std.specs.Borrow.{Bor}
use Rattle.std.specs.Char.{is_ascii_digit}
use Rattle.std.specs.List.{list_all}
use Rattle.std.specs.Str.{bytes_eq}

-- A to Z, a to z, or `_`
abbrev pub is_letter : ℕ → Bool
is_letter b = (nat_le 65 b && nat_le b 90) || (nat_le 97 b && nat_le b 122) || b == 95

-- letters and digits
abbrev pub are_parts : List ℕ → Bool
are_parts bs = list_all (λ b. is_letter b || is_ascii_digit b) bs

-- a letter, then letters and digits, at most 32 bytes in all
abbrev pub is_name : List ℕ → Bool
is_name [] = false
is_name (b ∷ bs) = is_letter b && are_parts bs && nat_le (length bs) 31

-- a word that ends with a colon, without it
abbrev pub label_of : List ℕ → Option (List ℕ)
label_of [] = None
label_of (b ∷ []) = if b == 58 then Some [] else None
label_of (b ∷ c ∷ bs) = option_map (λ w. b ∷ w) (label_of (c ∷ bs))

-- a name and the number that it stands for
abbrev pub Mark : Type 0
Mark = List ℕ × ℕ

-- the number of a name
abbrev pub place : List ℕ → List Mark → Option ℕ
place w [] = None
place w (m ∷ ms) = if bytes_eq w m.0 then Some m.1 else place w ms

-- where a name stands among names
abbrev pub place_among : List (Bor (List ℕ)) → List ℕ → Option ℕ
place_among names w = position (λ n. bytes_eq n.now w) names

-- each name occurs neither above nor before
abbrev pub AreNew : List Mark → List Mark → Type 0
AreNew above [] = Unit {0}
AreNew above (m ∷ ms) = (place m.0 above ≡ None) × AreNew (above ++ m ∷ []) ms
