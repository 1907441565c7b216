-- Paths that each go on from an earlier one.
use Rattle.std.specs.Prelude.{ℕ, ◌≡◌, ◌<◌, suc, length, List, [], ◌∷◌, ◌++◌, slice_index_or}
use Rattle.zy_isa.specs.declared.choice.Choice.{Choice}
use Rattle.zy_search.specs.declared.branch.Branch.{Branch}

-- paths, and one more for each branch
abbrev pub grown : List (List Choice) → List Branch → List (List Choice)
grown paths [] = paths
grown paths (b ∷ bs) = grown (paths ++ (slice_index_or paths b.from [] ++ b.by ∷ []) ∷ []) bs

-- the empty path, and one for each branch
abbrev pub paths_of : List Branch → List (List Choice)
paths_of bs = grown ([] ∷ []) bs

-- each branch goes on from a path before it, where there are n before the first
abbrev pub AreRooted : ℕ → List Branch → Type 0
AreRooted n [] = Unit {0}
AreRooted n (b ∷ bs) = (b.from < n) × AreRooted (suc n) bs

-- no path is there twice
abbrev pub AreApart : List (List Choice) → Type 0
AreApart paths = (i j : ℕ) → i < j → j < length paths → slice_index_or paths i [] ≡ slice_index_or paths j [] → ⊥
