-- The machines that an order keeps: each where a path leads.
use Rattle.std.specs.Prelude.{◌≡◌, ◌<◌, ℕ, List, length, IfSome}
use Rattle.std.specs.List.{All}
use Rattle.zy_isa.specs.declared.choice.Choice.{Choice}
use Rattle.zy_machine.specs.Histories.{History}
use Rattle.zy_search.specs.Visits.{IsHere}
use Rattle.zy_order.specs.declared.checkpoints.Checkpoints.{Checkpoints}
use Rattle.zy_order.specs.declared.placed_machine.PlacedMachine.{PlacedMachine}
use Rattle.zy_order.specs.declared.recent_machines.RecentMachines.{RecentMachines}

-- a machine where the path at a place leads, which is there
pub record IsThere (h : History) (paths : List (List Choice)) (at : ℕ) (m : History) : Type 0 where
  pub there : at < length paths
  pub here : IsHere h paths at m

-- a machine of the scenario, which is where a path leads if it has the place of that path
pub record IsPlaced (h : History) (paths : List (List Choice)) (kept : PlacedMachine) : Type 0 where
  pub scenario : kept.machine.scenario ≡ h.scenario
  pub here : IfSome kept.at (λ at. IsThere h paths at kept.machine)

-- each checkpoint is placed
abbrev pub AreCheckpoints : History → List (List Choice) → Checkpoints → Type 0
AreCheckpoints h paths checkpoints = All (IsPlaced h paths) checkpoints.points.items

-- each machine that is kept is placed
pub record AreRecentMachines (h : History) (paths : List (List Choice)) (recent : RecentMachines) : Type 0 where
  pub machines : All (IsPlaced h paths) recent.machines.items
  pub checkpoints : AreCheckpoints h paths recent.checkpoints
  pub spare : IsPlaced h paths recent.spare
