-- The wireframe of a node: a node without pages has none.
use Rattle.std.specs.Prelude.{ℕ, ◌≤◌, List, [], Option, None, Some, IfSome}
use Rattle.zy_model.specs.Wireframe.{Wireframe}

-- the low keys of the pages
abbrev pub lows_in : Option Wireframe → List ℕ
lows_in None = []
lows_in (Some wire) = wire.lows

-- the greatest number of pages, n where there is no wireframe
abbrev pub limit_or : ℕ → Option Wireframe → ℕ
limit_or n None = n
limit_or n (Some wire) = wire.pages

-- there is memory for one page more
abbrev pub CanGrow : Option Wireframe → Type 0
CanGrow wire = IfSome wire (λ (w : Wireframe). 1 ≤ w.spare)
