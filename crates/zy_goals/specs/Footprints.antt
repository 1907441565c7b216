-- What goals read of a state, and which of them take steps to judge.
use Rattle.std.specs.Prelude.{◌||◌, Bool, true, false}
use Rattle.zy_goals.specs.declared.footprint.Footprint.{Footprint}
use Rattle.zy_goals.specs.declared.footprint.Footprint.TheVariants.{Commits, Present, Ended}
use Rattle.zy_goals.specs.declared.goal.Term.{Term}
use Rattle.zy_goals.specs.declared.goal.Term.TheVariants as term
use Rattle.zy_goals.specs.declared.goal.TxnProperty.{TxnProperty}
use Rattle.zy_goals.specs.declared.goal.TxnProperty.TheVariants as property
use Rattle.zy_goals.specs.declared.goal.StateFact.{StateFact}
use Rattle.zy_goals.specs.declared.goal.StateFact.TheVariants as state_fact
use Rattle.zy_goals.specs.declared.goal.Fact.{Fact}
use Rattle.zy_goals.specs.declared.goal.Fact.TheVariants as fact
use Rattle.zy_goals.specs.declared.goal.Goal.{Goal, Is, Not', And', Or'}

-- the one of two footprints that has the other
abbrev pub wider : Footprint → Footprint → Footprint
wider Commits y = y
wider Present Ended = Ended
wider x y = x

-- what the value of a term depends on
abbrev pub of_term : Term → Footprint
of_term (term.Number n) = Commits
of_term (term.Key k) = Commits
of_term (term.Sum j k) = Commits
of_term (term.Register t r) = Ended
of_term (term.Pc t) = Ended
of_term (term.Done t) = Ended
of_term term.Commits = Commits

-- what a property of a transaction does
abbrev pub of_property : TxnProperty → Footprint
of_property property.New = Present
of_property property.Active = Present
of_property property.Committed = Present
of_property (property.Aborted r) = Present
of_property (property.At n) = Ended
of_property (property.Wrote k) = Present

-- what a fact of the state does
abbrev pub of_state_fact : StateFact → Footprint
of_state_fact (state_fact.Mode n m) = Present
of_state_fact (state_fact.Page p x) = Present
of_state_fact (state_fact.Locked p) = Present
of_state_fact (state_fact.LockedBy t p) = Present
of_state_fact (state_fact.Txns w x) = of_property x
of_state_fact (state_fact.CommittedBefore t u) = Commits
of_state_fact (state_fact.NoRow k) = Commits
of_state_fact (state_fact.Link n x) = Present
of_state_fact state_fact.Over = Present
of_state_fact (state_fact.Compare x c y) = wider (of_term x) (of_term y)

-- what a fact of any kind does
abbrev pub of_fact : Fact → Footprint
of_fact fact.Differs = Commits
of_fact fact.Stuck = Present
of_fact fact.Deadlock = Present
of_fact (fact.OfState x) = of_state_fact x

-- what a goal does: as much as all of its facts
abbrev pub footprint_of : Goal → Footprint
footprint_of (Is x) = of_fact x
footprint_of (Not' p g) = footprint_of g
footprint_of (And' p g q h) = wider (footprint_of g) (footprint_of h)
footprint_of (Or' p g q h) = wider (footprint_of g) (footprint_of h)

-- the committed rows and the commits alone decide whether a goal is met
abbrev pub is_of_commits : Goal → Bool
is_of_commits g = elim (footprint_of g) [ Commits ↦ true | Present ↦ false | Ended ↦ false ]

-- a goal reads what an ended transaction had: its registers, its program counter, its node, or how much it has done
abbrev pub reads_ended : Goal → Bool
reads_ended g = elim (footprint_of g) [ Commits ↦ false | Present ↦ false | Ended ↦ true ]

-- it takes steps to judge whether a fact holds
abbrev pub fact_takes_steps : Fact → Bool
fact_takes_steps fact.Differs = false
fact_takes_steps fact.Stuck = true
fact_takes_steps fact.Deadlock = true
fact_takes_steps (fact.OfState x) = false

-- a goal has such a fact
abbrev pub takes_steps : Goal → Bool
takes_steps (Is x) = fact_takes_steps x
takes_steps (Not' p g) = takes_steps g
takes_steps (And' p g q h) = takes_steps g || takes_steps h
takes_steps (Or' p g q h) = takes_steps g || takes_steps h
