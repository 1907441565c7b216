-- Steps that may be made in another order.
use Rattle.std.specs.Prelude.{ℕ, ◌≡◌, ◌++◌, List, [], ◌∷◌}
use Rattle.zy_isa.specs.declared.node.Node.{Node}
use Rattle.zy_isa.specs.declared.choice.Choice.{Choice}
use Rattle.zy_isa.specs.declared.choice.Choice.TheVariants.{Run}
use Rattle.zy_isa.specs.Choices.{actor_of, actor_at}
use Rattle.zy_isa.specs.Scenario.{Scenario}
use Rattle.zy_model.specs.Order.{LocksRise}
use Rattle.zy_table.specs.declared.outcome.Outcome.TheVariants.{Did}
use Rattle.zy_table.specs.State.{State, facing}
use Rattle.zy_table.specs.Play.{step, play}
use Rattle.zy_table.specs.Observations.{observation_at, observations}

-- node n runs t in this state, and the outcome is `did`; the locks of n are in order, as in every state that is reached
pub record Does (sc : Scenario) (n : Node) (t : ℕ) (s : State) : Type 0 where
  pub locks : LocksRise (facing n s).me.locks
  pub outcome : (step sc (Run n t) s).outcome ≡ Did

-- no choice of a list is of node n
abbrev pub AreOfOthers : Node → List Choice → Type 0
AreOfOthers n [] = Unit {0}
AreOfOthers n (c ∷ cs) = (actor_of c ≡ actor_at n → ⊥) × AreOfOthers n cs

-- A choice may be made before others in place of behind them: the state after all is the same, and each step shows the same.
pub record MayComeFirst (sc : Scenario) (s : State) (first : Choice) (cs : List Choice) : Type 0 where
  pub after : play sc s (first ∷ cs) ≡ play sc s (cs ++ first ∷ [])
  pub own : observation_at sc (play sc s cs) first ≡ observation_at sc s first
  pub others : observations sc (step sc first s).after cs ≡ observations sc s cs
