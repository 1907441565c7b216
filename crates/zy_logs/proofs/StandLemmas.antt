-- What a step gives may stand in the log of its actor, and in that of the node where a choice of the client took place.
use Rattle.std.proofs.Common.{◌≡◌, true, Option, Some, None, IfSome, refl, subst}
use Rattle.std.proofs.lemmas.Bool.{false≢true}
use Rattle.zy_isa.specs.Choices.{actor_at, actor_of}
use Rattle.zy_isa.specs.declared.node.Actor.{Actor}
use Rattle.zy_isa.specs.declared.node.Actor.TheVariants as actor
use Rattle.zy_isa.specs.declared.node.Node.{Node}
use Rattle.zy_isa.specs.declared.node.Node.TheVariants.{A, B}
use Rattle.zy_isa.specs.declared.choice.Choice.{Choice}
use Rattle.zy_isa.specs.declared.choice.Choice.TheVariants.{Start, Begin, Kill, Run, Take, Finish, Push}
use Rattle.zy_isa.specs.Scenario.{Scenario}
use Rattle.zy_table.specs.declared.outcome.Outcome.{Outcome}
use Rattle.zy_table.specs.declared.outcome.Outcome.TheVariants as outcome
use Rattle.zy_table.specs.Observations.{client_node, observation_at}
use Rattle.zy_table.specs.Play.{step, side_of}
use Rattle.zy_table.specs.State.{State}
use Rattle.zy_patterns.specs.declared.patterns.OutcomePattern.{OutcomePattern}
use Rattle.zy_patterns.specs.declared.patterns.OutcomePattern.TheVariants as pattern
use Rattle.zy_patterns.specs.Patterns.{allows_node, matches}
use Rattle.zy_logs.specs.Possible.{can_give, can_stand}
use Rattle.zy_logs.proofs.PossibleSteps.{step_possible}

-- a pattern other than `began` may stand in any log
stands : (x : Actor) (t : OutcomePattern) → ((asked : Option Node) → t ≡ pattern.Began asked → ⊥) → can_stand x t ≡ true
stands actor.C t other = refl
stands actor.A (pattern.Began asked) other = absurd (other asked refl)
stands actor.A t other = refl
stands actor.B (pattern.Began asked) other = absurd (other asked refl)
stands actor.B t other = refl

-- what a choice can give may stand in the log of its actor
pub own_stands : (c : Choice) (t : OutcomePattern) → can_give c t ≡ true → can_stand (actor_of c) t ≡ true
own_stands Start t can = refl
own_stands (Begin b) t can = refl
own_stands (Kill k) t can = refl
own_stands (Run n r) t can = stands (actor_at n) t (λ asked e. false≢true (subst (λ p. can_give (Run n r) p ≡ true) e can))
own_stands (Take n) t can = stands (actor_at n) t (λ asked e. false≢true (subst (λ p. can_give (Take n) p ≡ true) e can))
own_stands (Finish n) t can = stands (actor_at n) t (λ asked e. false≢true (subst (λ p. can_give (Finish n) p ≡ true) e can))
own_stands (Push n) t can = stands (actor_at n) t (λ asked e. false≢true (subst (λ p. can_give (Push n) p ≡ true) e can))

-- a `began` that asks for the node may stand in its log
began_stands : (asked : Option Node) (n : Node) → allows_node asked n ≡ true → can_stand (actor_at n) (pattern.Began asked) ≡ true
began_stands None A e = refl
began_stands None B e = refl
began_stands (Some A) A e = refl
began_stands (Some A) B e = absurd (false≢true e)
began_stands (Some B) A e = absurd (false≢true e)
began_stands (Some B) B e = refl

-- so may each pattern of a begin at the node
begin_stands : (t : OutcomePattern) (n : Node) → matches t (outcome.Began n) ≡ true → can_stand (actor_at n) t ≡ true
begin_stands (pattern.Began asked) n e = began_stands asked n e
begin_stands t n e = absurd (false≢true e)

-- what a choice of the client gives may stand in the log of the node where it took place
shared_stands : (c : Choice) (side : Node) (o : Outcome) (t : OutcomePattern) → matches t o ≡ true
    → IfSome (client_node c side o) (λ n. can_stand (actor_at n) t ≡ true)
shared_stands Start side outcome.Started t e =
    stands (actor_at side) t (λ asked i. false≢true (subst (λ p. matches p outcome.Started ≡ true) i e))
shared_stands (Begin b) side (outcome.Began n) t e = begin_stands t n e
shared_stands (Kill k) side (outcome.Aborted w) t e =
    stands (actor_at side) t (λ asked i. false≢true (subst (λ p. matches p (outcome.Aborted w) ≡ true) i e))
shared_stands c side o t e = tt

-- so it is for each step
pub step_own : (sc : Scenario) (c : Choice) (s : State) (t : OutcomePattern) → matches t (step sc c s).outcome ≡ true → can_stand (actor_of c) t ≡ true
step_own sc c s t e = own_stands c t (step_possible sc c s t e)

pub step_shared : (sc : Scenario) (c : Choice) (s : State) (t : OutcomePattern) → matches t (step sc c s).outcome ≡ true
    → IfSome (observation_at sc s c).node (λ n. can_stand (actor_at n) t ≡ true)
step_shared sc c s t e = shared_stands c (side_of sc c s) (step sc c s).outcome t e
