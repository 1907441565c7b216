-- Lists of numbers that stand one behind the other.
use Rattle.std.specs.Prelude.{ℕ, zero, suc, List, [], ◌∷◌, drop, take}

-- n lists of this width, from the first number on
abbrev pub even_lists : ℕ → ℕ → List ℕ → List (List ℕ)
even_lists width zero numbers = []
even_lists width (suc n) numbers = take width numbers ∷ even_lists width n (drop width numbers)
