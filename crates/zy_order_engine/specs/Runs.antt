-- The run of the scenario that goes out.
use Rattle.std.specs.Prelude.{◌≡◌, ◌++◌, ℕ, List, [], ◌∷◌}
use Rattle.zy_isa.specs.declared.choice.Choice.{Choice}
use Rattle.zy_isa.specs.Scenario.{Scenario}
use Rattle.zy_table.specs.declared.observation.Observation.{Observation}
use Rattle.zy_table.specs.Play.{opening}
use Rattle.zy_table.specs.Observations.{observations}
use Rattle.zy_laws.specs.Orders.{reordered}
use Rattle.zy_logs.specs.declared.log_line.LogLine.{LogLine}
use Rattle.zy_isa.specs.declared.node.Actor.{Actor}
use Rattle.zy_order.specs.declared.gaps.Gaps.{Gaps}
use Rattle.zy_order.specs.Orders.{ToldStep, Agree, Merges, all_of}

-- the scenario with choices behind its own
abbrev pub extended : Scenario → List Choice → Scenario
extended sc cs = reordered sc (sc.choices ++ cs)

-- what the steps of a scenario's run show
abbrev pub steps_of : Scenario → List Observation
steps_of sc = observations sc (opening sc) sc.choices

-- each step is of the run's step in its place, and its lines agree with what that shows
abbrev pub AgreeEach : List ToldStep → List Observation → Type 0
AgreeEach [] [] = Unit {0}
AgreeEach [] (o ∷ os) = ⊥
AgreeEach (x ∷ xs) [] = ⊥
AgreeEach (x ∷ xs) (o ∷ os) = (o.entry.choice ≡ x.line.choice) × Agree x.line x.other o × AgreeEach xs os

-- the run of the scenario with these choices behind its own has the same steps, and behind them those of a merge of completions of the
-- logs, which takes these numbers of lines
pub record RunsPrefix (sc : Scenario) (lines : List LogLine) (gaps : Gaps) (taken : Actor → ℕ) (cs : List Choice) : Type 0 where
  pub order : List ToldStep
  pub merges : Merges sc lines gaps taken order
  pub steps : List Observation
  pub behind : steps_of (extended sc cs) ≡ steps_of sc ++ steps
  pub agree : AgreeEach order steps

-- all lines are taken
abbrev pub RunsOrder : Scenario → List LogLine → Gaps → List Choice → Type 0
RunsOrder sc lines gaps cs = RunsPrefix sc lines gaps (all_of lines) cs
