-- What goals mean.
use Rattle.std.specs.Prelude.{◌&&◌, ◌||◌, not, Bool}
use Rattle.zy_table.specs.State.{State}
use Rattle.zy_goals.specs.declared.goal.Fact.{Fact}
use Rattle.zy_goals.specs.declared.goal.Fact.TheVariants as fact
use Rattle.zy_goals.specs.declared.goal.Goal.{Goal, Is, Not', And', Or'}
use Rattle.zy_goals.specs.Facts.{holds_in}

-- what a state does not decide by itself: whether its database differs from that of the serial run, whether it is stuck,
-- and whether some transactions wait in a cycle
pub record Context : Type 0 where
  pub differs : Bool
  pub stuck : Bool
  pub deadlock : Bool

-- a fact holds in a state
abbrev pub holds : Context → Fact → State → Bool
holds context fact.Differs s = context.differs
holds context fact.Stuck s = context.stuck
holds context fact.Deadlock s = context.deadlock
holds context (fact.OfState x) s = holds_in x s

-- a state meets a goal
abbrev pub meets : Context → Goal → State → Bool
meets context (Is x) s = holds context x s
meets context (Not' p g) s = not (meets context g s)
meets context (And' p g q h) s = meets context g s && meets context h s
meets context (Or' p g q h) s = meets context g s || meets context h s
