-- The wireframe as everyone sees it, and which page a key lies on.
use Rattle.std.specs.Prelude.{ℕ, ◌≡◌, ◌==◌, ◌<◌, ◌≤◌, ◌⊎◌, nat_le, max, List, [], ◌∷◌, length, slice_index, Contains}
use Rattle.std.specs.Prelude.{Option, None, Some, filter, position, unwrap_or}

-- the low keys by page number, the greatest number of pages, and how many more pages there is memory for, counted up to
-- 1
pub record Wireframe : Type 0 where
  pub lows : List ℕ
  pub pages : ℕ
  pub spare : ℕ

-- the greatest of these numbers, 0 where there are none
abbrev pub greatest : List ℕ → ℕ
greatest [] = 0
greatest (n ∷ ns) = max n (greatest ns)

-- the greatest low key that is not above k
abbrev pub low_under : List ℕ → ℕ → ℕ
low_under lows k = greatest (filter (λ low. nat_le low k) lows)

-- the number of the page with that low key, 0 where there is none
unfoldable pub page_of : List ℕ → ℕ → ℕ
page_of lows k = unwrap_or (position (λ low. low == low_under lows k) lows) 0

-- p's low key is not above k, and no such low key is greater, wherever a page has one
abbrev pub IsGreatest : List ℕ → ℕ → ℕ → Type 0
IsGreatest lows k p = (q : ℕ) → q < length lows → slice_index lows q ≤ k → (slice_index lows p ≤ k)
    × (slice_index lows q ≤ slice_index lows p)

-- the least low key above k, if there is one
abbrev pub IsNextLow : List ℕ → ℕ → Option ℕ → Type 0
IsNextLow lows k None = (q : ℕ) → q < length lows → slice_index lows q ≤ k
IsNextLow lows k (Some end) = Contains lows end × (k < end)
    × ((q : ℕ) → q < length lows → k < slice_index lows q → end ≤ slice_index lows q)

-- p alone has the least low key above k; there is none
abbrev pub IsAfter : List ℕ → ℕ → Option ℕ → Type 0
IsAfter lows k None = (q : ℕ) → q < length lows → slice_index lows q ≤ k
IsAfter lows k (Some p) = (p < length lows) × (k < slice_index lows p)
    × ((q : ℕ) → q < length lows → k < slice_index lows q → (q ≡ p) ⊎ (slice_index lows p < slice_index lows q))
