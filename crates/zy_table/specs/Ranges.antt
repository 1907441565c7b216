-- The keys from one to another, what they have together, and the pages that they lie on.
use Rattle.std.specs.Prelude.{ℕ, zero, suc, ◌+◌, ◌-◌, nat_lt, nat_le, List, [], ◌∷◌, ◌&&◌, if◌then◌else◌, map}
use Rattle.zy_model.specs.Wireframe.{page_of}
use Rattle.zy_table.specs.Keys.{put_key}

-- n keys, from k on
abbrev pub keys_on : ℕ → ℕ → List ℕ
keys_on zero k = []
keys_on (suc n) k = k ∷ keys_on n (k + 1)

-- the keys from a to b, both included; none where a is above b
abbrev pub range : ℕ → ℕ → List ℕ
range a b = keys_on (b + 1 - a) a

-- what some keys have together
abbrev pub total : (ℕ → ℕ) → List ℕ → ℕ
total value [] = 0
total value (k ∷ ks) = value k + total value ks

-- the low keys above a and not above b, in order
abbrev pub lows_within : ℕ → ℕ → List ℕ → List ℕ
lows_within a b [] = []
lows_within a b (x ∷ xs) = if nat_lt a x && nat_le x b then put_key x (lows_within a b xs) else lows_within a b xs

-- the pages of the keys from a to b, in order of low key: a's own, and those whose low key is above a and not above b
abbrev pub range_pages : List ℕ → ℕ → ℕ → List ℕ
range_pages lows a b = map (page_of lows) (a ∷ lows_within a b lows)
