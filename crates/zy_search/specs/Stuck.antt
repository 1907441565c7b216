-- Where nothing goes on.
use Rattle.std.specs.Prelude.{◌≡◌, ◌&&◌, Bool, true, false, List, [], ◌∷◌, length}
use Rattle.std.specs.List.{list_all}
use Rattle.zy_isa.specs.declared.choice.Choice.{Choice}
use Rattle.zy_isa.specs.Scenario.{Scenario}
use Rattle.zy_table.specs.declared.outcome.Outcome.{Outcome}
use Rattle.zy_table.specs.declared.outcome.Outcome.TheVariants.{BadMode, Idle, Elsewhere, NotYet, Waits, Awaits}
use Rattle.zy_table.specs.declared.outcome.Outcome.TheVariants.{NoMessage, Held, Stray, Active, NoPush}
use Rattle.zy_table.specs.State.{State}
use Rattle.zy_table.specs.Play.{step}
use Rattle.zy_goals.specs.declared.goal.Selector.TheVariants as selector
use Rattle.zy_goals.specs.declared.goal.TxnProperty.TheVariants as property
use Rattle.zy_goals.specs.Txns.{selected_have}
use Rattle.zy_search.specs.Choices.{considered}
use Rattle.zy_search.specs.declared.kinds.ChoiceKinds.{ChoiceKinds}

-- nothing came of a step
abbrev pub is_still : Outcome → Bool
is_still BadMode = true
is_still Idle = true
is_still Elsewhere = true
is_still NotYet = true
is_still (Waits p) = true
is_still (Awaits p) = true
is_still NoMessage = true
is_still (Held p) = true
is_still Stray = true
is_still (Active t) = true
is_still NoPush = true
is_still o = false

-- something comes of each of these choices
abbrev pub AreMoves : Scenario → State → List Choice → Type 0
AreMoves sc s [] = Unit {0}
AreMoves sc s (c ∷ cs) = (is_still (step sc c s).outcome ≡ false) × AreMoves sc (step sc c s).after cs

-- a transaction is active, and nothing comes of any considered choice
abbrev pub is_stuck : Scenario → ChoiceKinds → State → Bool
is_stuck sc kinds s =
    selected_have selector.Any property.Active s.txns
    && list_all (λ c. is_still (step sc c s).outcome) (considered kinds (length sc.programs))
