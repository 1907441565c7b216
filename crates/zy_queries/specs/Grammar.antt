-- The language of goals: which words mean which goal.
use Rattle.std.specs.Prelude.{true, ◌≡◌, ◌⊎◌, ◌+◌, ◌<◌, ◌≤◌, ℕ, suc, List, [], ◌∷◌, codes, Option, Some, None}
use Rattle.std.specs.Prelude.{option_map, if◌then◌else◌}
use Rattle.zy_goals.specs.declared.goal.Comparison.TheVariants as comparison
use Rattle.zy_goals.specs.declared.goal.Term.TheVariants as term
use Rattle.zy_goals.specs.declared.goal.StateFact.TheVariants as state_fact
use Rattle.zy_goals.specs.declared.goal.Fact.{Fact}
use Rattle.zy_goals.specs.declared.goal.Fact.TheVariants as facts
use Rattle.zy_goals.specs.declared.goal.Goal.{Goal, Is, Not', And', Or'}
use Rattle.zy_patterns.specs.declared.patterns.OutcomePattern.{OutcomePattern}
use Rattle.zy_queries.specs.declared.names.Names.{Names}
use Rattle.zy_queries.specs.declared.refusal.ExpectedInGoal.TheVariants as expected
use Rattle.zy_queries.specs.declared.refusal.WordFault.{WordFault}
use Rattle.zy_queries.specs.declared.refusal.GoalFault.{GoalFault}
use Rattle.zy_queries.specs.declared.refusal.GoalFault.TheVariants.{Refused, Memory}
use Rattle.zy_queries.specs.declared.reading.expressions.Operator.{Operator}
use Rattle.zy_queries.specs.declared.reading.expressions.Operator.TheVariants.{Or, And}
use Rattle.zy_queries.specs.declared.reading.Query.{Query}
use Rattle.zy_queries.specs.Words.{Word, Read, are_none, after, begin_with}
use Rattle.zy_queries.specs.Phrases.{fact_of, outcome_of}

-- an expression, as a tree with its brackets
pub data Tree : Type 0 where
  fact : (x : Fact) → Tree
  negated : (t : Tree) → Tree
  bracketed : (t : Tree) → Tree
  joined : (o : Operator) → (t u : Tree) → Tree

-- the word of an operator
abbrev pub word_of : Operator → Word
word_of Or = codes "or"
word_of And = codes "and"

-- How tightly an operator binds. What binds tighter still is a fact, `not` with what it negates, or a pair of brackets.
abbrev pub level_of : Operator → ℕ
level_of Or = 0
level_of And = 1

-- The words ws begin with those of a tree, and rest are the words after them. The tree may stand where level l or a tighter
-- one is wanted: 0 for EXPR, 1 for ALL, 2 for ONE.
abbrev pub Reads : Names → ℕ → Tree → List Word → List Word → Type 0
Reads names l (fact x) ws rest = fact_of names ws ≡ Some (x, rest)
Reads names l (negated t) ws rest = (vs : List Word) × (ws ≡ codes "not" ∷ vs) × Reads names 2 t vs rest
Reads names l (bracketed t) ws rest = (vs : List Word) × (ws ≡ codes "(" ∷ vs) × Reads names 0 t vs (codes ")" ∷ rest)
Reads names l (joined o t u) ws rest =
    (vs : List Word) × (l ≤ level_of o) × Reads names (level_of o) t ws (word_of o ∷ vs)
    × Reads names (suc (level_of o)) u vs rest

-- a tree says this goal
abbrev pub Says : Tree → Goal → Type 0
Says (fact x) (Is y) = x ≡ y
Says (negated t) (Not' p g) = Says t g
Says (bracketed t) g = Says t g
Says (joined And t u) (And' p g q h) = Says t g × Says u h
Says (joined Or t u) (Or' p g q h) = Says t g × Says u h
Says t g = ⊥

-- the facts, operators and pairs of brackets of a tree
abbrev pub parts_of : Tree → ℕ
parts_of (fact x) = 1
parts_of (negated t) = suc (parts_of t)
parts_of (bracketed t) = suc (parts_of t)
parts_of (joined o t u) = suc (parts_of t + parts_of u)

-- the most parts of a goal
abbrev pub max_parts : ℕ
max_parts = 64

-- an outcome, if no words come after it
abbrev pub whole : Read OutcomePattern → Option OutcomePattern
whole (Some (x, [])) = Some x
whole r = None

-- [ then OUTCOME ]: the words after an expression say that no outcome, or which one, is asked for
unfoldable pub ending : Names → List Word → Option (Option OutcomePattern)
ending names ws =
    if are_none ws then Some None else
    if begin_with (codes "then") ws then option_map Some (whole (outcome_of names (after ws))) else
    None

-- what each state meets
abbrev pub anything : Fact
anything = facts.OfState (state_fact.Compare (term.Number 0) comparison.Equal (term.Number 0))

-- EXPR [ then OUTCOME ]
pub record IsGoal (names : Names) (ws : List Word) (q : Query) : Type 0 where
  pub tree : Tree
  pub rest : List Word
  pub reads : Reads names 0 tree ws rest
  pub parts : parts_of tree ≤ max_parts
  pub says : Says tree q.goal
  pub ends : ending names rest ≡ Some q.then

-- `then OUTCOME` alone
pub record IsThen (names : Names) (ws : List Word) (q : Query) : Type 0 where
  pub begins : begin_with (codes "then") ws ≡ true
  pub says : Says (fact anything) q.goal
  pub ends : ending names ws ≡ Some q.then

-- the words mean this query
abbrev pub Means : Names → List Word → Query → Type 0
Means names ws q = IsGoal names ws q ⊎ IsThen names ws q

-- EXPR [ then OUTCOME ], of more parts than a goal has
pub record IsTooLong (names : Names) (ws : List Word) : Type 0 where
  pub tree : Tree
  pub rest : List Word
  pub asked : Option OutcomePattern
  pub reads : Reads names 0 tree ws rest
  pub parts : max_parts < parts_of tree
  pub ends : ending names rest ≡ Some asked

-- EXPR, of which a state is asked for that does not meet it
pub record MeansNever (names : Names) (ws : List Word) (q : Query) : Type 0 where
  pub tree : Tree
  pub reads : Reads names 0 tree ws []
  pub parts : parts_of tree ≤ max_parts
  pub says : Says (negated tree) q.goal
  pub ends : q.then ≡ None

-- EXPR, of more parts than a goal has
pub record IsTooLongNever (names : Names) (ws : List Word) : Type 0 where
  pub tree : Tree
  pub reads : Reads names 0 tree ws []
  pub parts : max_parts < parts_of tree

-- two queries are one but for where they lie in memory: a tree says both goals, and the same outcome is asked for
pub record AreOne (q r : Query) : Type 0 where
  pub tree : Tree
  pub first : Says tree q.goal
  pub second : Says tree r.goal
  pub asked : q.then ≡ r.then

-- ---- refusals

-- what is known where words are refused; where memory was refused nothing is known
abbrev pub OnRefused : GoalFault → (WordFault → Type 0) → Type 0
OnRefused (Refused r) P = P r
OnRefused Memory P = Unit {0}

-- The words mean no query. Where they are rejected although they would mean one if more parts were allowed, the refusal says
-- so.
pub record IsNoGoal (names : Names) (ws : List Word) (r : WordFault) : Type 0 where
  pub nothing : (q : Query) → Means names ws q → ⊥
  pub too_long : IsTooLong names ws → r.expected ≡ expected.FewerParts

-- The words mean no goal that every state is to meet. Where they are rejected although they would mean one if more parts were
-- allowed, the refusal says so.
pub record IsNoInvariant (names : Names) (ws : List Word) (r : WordFault) : Type 0 where
  pub nothing : (q : Query) → MeansNever names ws q → ⊥
  pub too_long : IsTooLongNever names ws → r.expected ≡ expected.FewerParts
