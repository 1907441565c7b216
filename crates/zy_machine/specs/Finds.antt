-- What a look for a page finds.
use Rattle.std.specs.Prelude.{ℕ, ◌≡◌, Option, Some, None}
use Rattle.std.specs.Borrow.{Bor}
use Rattle.zy_model.specs.Leaf.{Leaf}
use Rattle.zy_table.specs.Database.{all_leaves}
use Rattle.zy_table.specs.Pages.{page_in}
use Rattle.zy_table.specs.Places.{place_of}
use Rattle.zy_table.specs.State.{State}
use Rattle.zy_table.specs.declared.place.Place.{Place}
use Rattle.zy_table.specs.declared.place.Place.TheVariants.{Nowhere}

-- where page p is, and the page; or that there is none
abbrev pub FindsPage : ℕ → State → Option (Place × Bor Leaf) → Type 0
FindsPage p s (Some found) = (found.0 ≡ place_of p s) × (Some found.1.now ≡ page_in p (all_leaves s))
FindsPage p s None = (Nowhere ≡ place_of p s) × (None ≡ page_in p (all_leaves s))
