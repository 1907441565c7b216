-- What is remembered of the steps of a scenario.
use Rattle.std.specs.Prelude.{◌≡◌, ℕ, List, [], Some, length, map, slice_get, slice_index_or}
use Rattle.std.specs.List.{All}
use Rattle.zy_isa.specs.declared.choice.Choice.{Choice}
use Rattle.zy_isa.specs.declared.choice.Choice.TheVariants.{Start}
use Rattle.zy_isa.specs.Scenario.{Scenario}
use Rattle.zy_steps.specs.Reads.{uncounted}
use Rattle.zy_table.specs.State.{State}
use Rattle.zy_table.specs.Play.{step}
use Rattle.zy_table.specs.declared.outcome.Outcome.{Outcome}
use Rattle.zy_state_ids.specs.Parts.{IsNumbered}
use Rattle.zy_step_cache.specs.declared.choice_cache.ChoiceCache.{ChoiceCache}
use Rattle.zy_step_cache.specs.declared.explored.Explored.{Explored}
use Rattle.zy_step_cache.specs.declared.step_cache.StepCache.{StepCache}
use Rattle.zy_step_cache.specs.declared.choice_cache.CachedStep.{CachedStep}
use Rattle.zy_step_cache.specs.Places.{places}
use Rattle.zy_step_cache.specs.Steps.{put_at, AreTrue}

-- the choices whose steps are remembered
abbrev pub choices_of : StepCache → List Choice
choices_of m = map (λ (x : ChoiceCache). x.choice) m.caches.items

-- that at a place
abbrev pub choice_at : StepCache → ℕ → Choice
choice_at m i = slice_index_or (choices_of m) i Start

-- each remembered step happened
abbrev pub IsTrue : Scenario → StepCache → Type 0
IsTrue sc m = All (λ (x : ChoiceCache). AreTrue sc m.table m.part x.choice x.steps.items) m.caches.items

-- the numbers of a state
abbrev pub Numbers : StepCache → State → List ℕ → Type 0
Numbers m s numbers = IsNumbered m.table m.part numbers s

-- a choice made from a state leads to one with these numbers, with this outcome, but for the number of a commit
abbrev pub Leads : Scenario → StepCache → Choice → State → List ℕ → Outcome → Type 0
Leads sc m c s numbers o = Numbers m (step sc c s).after numbers × (uncounted (step sc c s).outcome ≡ uncounted o)

-- the numbers to which a remembered step of the choice at a place leads
abbrev pub numbers_by : StepCache → ℕ → CachedStep → List ℕ → List ℕ
numbers_by m i r numbers = put_at numbers (places m.table (choice_at m i) r.scope numbers) r.written

-- What is known of some states, each at a place: their numbers, and what is remembered of the steps of a scenario.
pub record Knows (sc : Scenario) (e : Explored) (states : List State) : Type 0 where
  pub truth : IsTrue sc e.cache
  pub many : length e.vectors ≡ length states
  pub each : (i : ℕ) (s : State) → slice_get states i ≡ Some s
      → Numbers e.cache s (slice_index_or e.vectors i []) × (length s.txns ≡ length sc.programs)
