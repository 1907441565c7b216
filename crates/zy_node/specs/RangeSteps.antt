-- The pages of a range, one after the other.
use Rattle.std.specs.Prelude.{◌≡◌, ◌<◌, ◌≤◌, ℕ, List, [], ◌∷◌, Option, None, Some}
use Rattle.zy_model.specs.Wireframe.{page_of}
use Rattle.zy_table.specs.Ranges.{lows_within}
use Rattle.zy_node.specs.declared.range.RangePage.{RangePage}

-- the low keys above a and not above b begin with that of x, a page; there are none
abbrev pub IsNextInRange : Option RangePage → List ℕ → ℕ → ℕ → Type 0
IsNextInRange None lows a b = lows_within a b lows ≡ []
IsNextInRange (Some x) lows a b = (lows_within a b lows ≡ x.low ∷ lows_within x.low b lows) × (page_of lows x.low ≡ x.page)
    × (a < x.low) × (x.low ≤ b)
