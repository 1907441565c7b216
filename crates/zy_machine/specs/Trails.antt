-- A history that may be known further than it was made.
use Rattle.std.specs.Prelude.{◌≡◌, List, [], ◌∷◌}
use Rattle.zy_isa.specs.declared.choice.Choice.{Choice}
use Rattle.zy_isa.specs.Scenario.{Scenario}
use Rattle.zy_table.specs.declared.entry.Entry.{Entry}
use Rattle.zy_table.specs.State.{State}
use Rattle.zy_table.specs.Play.{entries}
use Rattle.zy_machine.specs.Histories.{choices_of}

-- the steps that were made, and what is known of those that may follow
pub record Trail : Type 0 where
  pub made : List Entry
  pub ahead : List Entry

-- from this state the choices of these entries lead to exactly these entries
abbrev pub IsPlayed : Scenario → State → List Entry → Type 0
IsPlayed sc s es = es ≡ entries sc s (choices_of es)

-- the first of these entries is that of this choice
abbrev pub IsNextChoice : Choice → List Entry → Type 0
IsNextChoice c [] = ⊥
IsNextChoice c (e ∷ es) = e.choice ≡ c
