-- Steps that were made, as numbers.
use Rattle.std.specs.Prelude.{◌≡◌, ℕ, List, [], ◌∷◌, true, length, map, slice_set}
use Rattle.std.specs.List.{All}
use Rattle.zy_isa.specs.declared.choice.Choice.{Choice}
use Rattle.zy_isa.specs.declared.choice.Choice.TheVariants.{Run}
use Rattle.zy_isa.specs.Choices.{names_below}
use Rattle.zy_isa.specs.Scenario.{Scenario}
use Rattle.zy_table.specs.State.{State}
use Rattle.zy_table.specs.Play.{step}
use Rattle.zy_table.specs.declared.outcome.Outcome.{Outcome}
use Rattle.zy_steps.specs.declared.part.StatePart.{StatePart}
use Rattle.zy_state_ids.specs.Parts.{IsNumbered}
use Rattle.zy_step_cache.specs.declared.choice_cache.CachedStep.{CachedStep}
use Rattle.zy_step_cache.specs.declared.places.Read.{Read}
use Rattle.zy_step_cache.specs.declared.places.Scope.{Scope}
use Rattle.zy_step_cache.specs.declared.places.Scope.TheVariants as scope
use Rattle.zy_step_cache.specs.Places.{at, link_place, commits_place, places, reads}
use Rattle.zy_steps.specs.Reads.{uncounted}

-- numbers with others put at some places
abbrev pub put_at : List ℕ → List ℕ → List ℕ → List ℕ
put_at numbers [] xs = numbers
put_at numbers (p ∷ ps) [] = numbers
put_at numbers (p ∷ ps) (x ∷ xs) = put_at (slice_set numbers p x) ps xs

-- what a run changed is in its scope: the link and the commits are as they were, but for what is in it
abbrev pub IsInScope : Choice → Scope → List ℕ → List ℕ → Type 0
IsInScope (Run x t) scope.Own before after = (at before (link_place x) ≡ at after (link_place x)) × (at before commits_place ≡ at after commits_place)
IsInScope (Run x t) scope.Link before after = at before commits_place ≡ at after commits_place
IsInScope (Run x t) scope.Commits before after = at before (link_place x) ≡ at after (link_place x)
IsInScope c k before after = Unit {0}

-- a step by a choice from some state, with the numbers before and after it: what it read, what it wrote, and its outcome
pub record Happened (sc : Scenario) (table : List (List ℕ)) (part : StatePart) (c : Choice) (k : Scope) (was_read : Read) (was_written : List ℕ) (o : Outcome)
    : Type 0 where
  pub state : State
  pub before : List ℕ
  pub after : List ℕ
  pub is_before : IsNumbered table part before state
  pub is_after : IsNumbered table part after (step sc c state).after
  pub many : length state.txns ≡ length sc.programs
  pub named : names_below (length sc.programs) c ≡ true
  pub in_scope : IsInScope c k before after
  pub read : was_read ≡ reads table c k before
  pub wrote : was_written ≡ map (at after) (places table c k before)
  pub outcome : uncounted o ≡ uncounted (step sc c state).outcome

-- each remembered step of a choice happened
abbrev pub AreTrue : Scenario → List (List ℕ) → StatePart → Choice → List CachedStep → Type 0
AreTrue sc table part c steps = All (λ (r : CachedStep). Happened sc table part c r.scope r.read r.written r.outcome) steps
