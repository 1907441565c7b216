-- What is known of where choices lead before it is their turn.
use Rattle.std.specs.Prelude.{ℕ, ◌≡◌, ◌<◌, List, [], false, length, slice_index_or}
use Rattle.std.specs.List.{All}
use Rattle.zy_isa.specs.declared.choice.Choice.{Choice}
use Rattle.zy_step_cache.specs.StepCaches.{Numbers}
use Rattle.zy_state_ids.specs.Parts.{Keeps}
use Rattle.zy_table.specs.State.{State}
use Rattle.zy_search.specs.declared.ahead.Ahead.{Ahead}
use Rattle.zy_search.specs.declared.ahead.Successors.{Successors}
use Rattle.zy_search.specs.declared.ahead.Successor.{Successor}
use Rattle.zy_search.specs.declared.ahead.Successor.TheVariants as successor
use Rattle.zy_search.specs.declared.branch.Branch.{Branch}
use Rattle.zy_search.specs.declared.outlook.Outlook.{Outlook}
use Rattle.zy_search.specs.declared.plan.Plan.{Plan}
use Rattle.zy_search.specs.declared.reached.Reached.{Reached}
use Rattle.zy_search.specs.Stuck.{is_still}
use Rattle.zy_search.specs.Visits.{state_by, step_by, Grows, IsKnown, IsNumber}

-- the numbers at a place of an arena
abbrev pub numbers_at : List (List ℕ) → ℕ → List ℕ
numbers_at arena j = slice_index_or arena j []

-- something comes of the choice of a branch, which leads to a state with the numbers at a place of an arena
pub record HasNumbers (p : Plan) (x : Reached) (arena : List (List ℕ)) (b : Branch) (j : ℕ) : Type 0 where
  pub there : j < length arena
  pub moved : is_still (step_by p x.tree b).outcome ≡ false
  pub numbers : Numbers x.explored.cache (state_by p x.tree b) (numbers_at arena j)

-- what is known of where the choice of a branch leads
abbrev pub IsSuccessor : Plan → Reached → List (List ℕ) → Branch → Successor → Type 0
IsSuccessor p x arena b successor.Unknown = Unit {0}
IsSuccessor p x arena b successor.Reached = IsKnown p.start p.sought x.tree (state_by p x.tree b)
IsSuccessor p x arena b (successor.Numbered j) = HasNumbers p x arena b j

-- where a choice leads from a state
abbrev pub successor_in : Successors → ℕ → Successor
successor_in known i = slice_index_or known.by_choice.items i successor.Unknown

-- what is known of where each choice leads from the state at a place
pub record AreSuccessors (p : Plan) (x : Reached) (arena : List (List ℕ)) (known : Successors) : Type 0 where
  pub there : known.place < length x.tree
  pub each : (i : ℕ) (c : Choice) → IsNumber p i c → IsSuccessor p x arena (record { from = known.place; by = c }) (successor_in known i)

-- a state with the numbers at a place of an arena was reached
pub record IsTaken (p : Plan) (x : Reached) (arena : List (List ℕ)) (j : ℕ) : Type 0 where
  pub state : State
  pub numbers : Numbers x.explored.cache state (numbers_at arena j)
  pub known : IsKnown p.start p.sought x.tree state

-- what is known ahead of the states at some places
pub record IsForeseen (p : Plan) (x : Reached) (a : Ahead) : Type 0 where
  pub found : All (AreSuccessors p x a.numbers) a.found.items
  pub taken : (j : ℕ) → j < a.taken → IsTaken p x a.numbers j

-- all that is known ahead is foreseen
pub record IsOutlook (p : Plan) (x : Reached) (o : Outlook) : Type 0 where
  pub ahead : IsForeseen p x o.ahead
  pub rest : All (IsForeseen p x) o.rest.items

-- what was reached is there at its place, and numbers stand for the parts that they stood for
pub record GoesOn (old new : Reached) : Type 0 where
  pub paths : Grows old.tree new.tree
  pub parts : Keeps old.explored.cache.table new.explored.cache.table
  pub part : new.explored.cache.part ≡ old.explored.cache.part
