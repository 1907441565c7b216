-- Replays of a scenario's own choices.
use Rattle.std.specs.Prelude.{ℕ, ◌≡◌, ◌≤◌, ◌-◌, get_or, length, take}
use Rattle.zy_isa.specs.declared.choice.Choice.TheVariants.{Start}
use Rattle.zy_isa.specs.Scenario.{Scenario}
use Rattle.zy_machine.specs.Histories.{History}
use Rattle.zy_table.specs.declared.outcome.Outcome.{Outcome}
use Rattle.zy_table.specs.Play.{entries, step, play, opening}
use Rattle.zy_table.specs.State.{State}

-- the state after the first m choices
unfoldable pub state_at : Scenario → ℕ → State
state_at sc m = play sc (opening sc) (take m sc.choices)

-- what comes of choice m, from 1
abbrev pub outcome_at : Scenario → ℕ → Outcome
outcome_at sc m = (step sc (get_or sc.choices (m - 1) Start) (state_at sc (m - 1))).outcome

-- a machine that has made the first choices of its scenario
pub record Follows (h : History) : Type 0 where
  pub most : length h.entries ≤ length h.scenario.choices
  pub state : h.state ≡ state_at h.scenario (length h.entries)
  pub entries : h.entries ≡ entries h.scenario (opening h.scenario) (take (length h.entries) h.scenario.choices)
