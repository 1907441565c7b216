-- What the functions that read an expression answer.
use Rattle.std.specs.Prelude.{◌≡◌, ◌+◌, ◌<◌, ◌≤◌, ℕ, suc, true, false, codes, Some, None, List, [], ◌∷◌, Result, Ok, Err}
use Rattle.zy_queries.specs.declared.names.Names.{Names}
use Rattle.zy_queries.specs.declared.refusal.ExpectedInGoal.TheVariants as expected
use Rattle.zy_queries.specs.declared.refusal.GoalFault.{GoalFault}
use Rattle.zy_queries.specs.declared.refusal.GoalFault.TheVariants.{Refused, Memory}
use Rattle.zy_queries.specs.declared.reading.expressions.Operator.{Operator}
use Rattle.zy_queries.specs.declared.reading.expressions.Prefix.{Prefix}
use Rattle.zy_queries.specs.declared.reading.Query.{Query}
use Rattle.zy_queries.specs.Words.{Word, are_none, begin_with}
use Rattle.zy_queries.specs.Cursors.{left}
use Rattle.zy_queries.specs.Grammar.{Tree, negated, joined, Reads, Says, parts_of, word_of, level_of, ending, IsThen}

-- the words begin with no operator that could go on with an expression of level l
abbrev pub Stops : ℕ → List Word → Type 0
Stops l ws = (o : Operator) → l ≤ level_of o → begin_with (word_of o) ws ≡ false

-- A tree of level l was read from the beginning of the words, where n more parts were allowed. Each tree that ends where an
-- expression may end has the same words and says the same goal.
pub record Finds (names : Names) (l : ℕ) (ws : List Word) (n : ℕ) (p : Prefix) : Type 0 where
  pub tree : Tree
  pub reads : Reads names l tree ws (left p.at)
  pub says : Says tree p.goal
  pub parts : parts_of tree + p.spare ≡ n
  pub only : (t : Tree) (rest : List Word) → Reads names l t ws rest → Stops l rest
      → (rest ≡ left p.at) × (parts_of t + p.spare ≡ n) × Says t p.goal

-- the words are rejected for the number of parts alone
abbrev pub IsForParts : GoalFault → Type 0
IsForParts Memory = Unit {0}
IsForParts (Refused r) = r.expected ≡ expected.FewerParts

-- no tree is read from the words but those of more than n parts; where there is one, the fault says so
abbrev pub Misses : Names → ℕ → List Word → ℕ → GoalFault → Type 0
Misses names l ws n e = (t : Tree) (rest : List Word) → Reads names l t ws rest → Stops l rest
    → (n < parts_of t) × IsForParts e

-- what the reader of a tree of level l answers
abbrev pub Answers : Names → ℕ → List Word → ℕ → Result Prefix GoalFault → Type 0
Answers names l ws n (Ok p) = Finds names l ws n p
Answers names l ws n (Err Memory) = Unit {0}
Answers names l ws n (Err (Refused r)) = Misses names l ws n (Refused r)

-- one part fewer may come, or none may
abbrev pub Counts : ℕ → Result ℕ GoalFault → Type 0
Counts n (Ok m) = n ≡ suc m
Counts n (Err e) = (n ≡ 0) × IsForParts e

-- a bracket that closes what was read comes next, or another word
abbrev pub Closes : Prefix → Result Prefix GoalFault → Type 0
Closes p (Ok q) = (left p.at ≡ codes ")" ∷ left q.at) × (q.goal ≡ p.goal) × (q.spare ≡ p.spare)
Closes p (Err e) = begin_with (codes ")") (left p.at) ≡ false

-- the negation of what was read
pub record Negates (p q : Prefix) : Type 0 where
  pub at : q.at ≡ p.at
  pub spare : q.spare ≡ p.spare
  pub says : (t : Tree) → Says t p.goal → Says (negated t) q.goal

-- what was read, and an operand behind it
pub record Joins (o : Operator) (p q r : Prefix) : Type 0 where
  pub at : r.at ≡ q.at
  pub spare : r.spare ≡ q.spare
  pub says : (t u : Tree) → Says t p.goal → Says u q.goal → Says (joined o t u) r.goal

-- ---- the operands behind an operator

-- the words begin with operands, each with the operator before it, and rest are the words after them
abbrev pub Chain : Names → Operator → List Tree → List Word → List Word → Type 0
Chain names o [] ws rest = ws ≡ rest
Chain names o (u ∷ us) ws rest = (vs : List Word) × (mid : List Word) × (ws ≡ word_of o ∷ vs)
    × Reads names (suc (level_of o)) u vs mid × Chain names o us mid rest

-- the operands and their operators
abbrev pub chain_parts : List Tree → ℕ
chain_parts [] = 0
chain_parts (u ∷ us) = suc (parts_of u) + chain_parts us

-- a tree and the operands behind it
abbrev pub all_joined : Operator → Tree → List Tree → Tree
all_joined o t [] = t
all_joined o t (u ∷ us) = all_joined o (joined o t u) us

-- The operands behind a first one were read and joined to it. Any that end where an expression may end have the same words
-- and say the same.
pub record FindsMore (names : Names) (o : Operator) (first p : Prefix) : Type 0 where
  pub joins : (t : Tree) (ws : List Word) → Reads names (level_of o) t ws (left first.at) → Says t first.goal
      → (u : Tree) × Reads names (level_of o) u ws (left p.at) × Says u p.goal × (parts_of u + p.spare ≡ parts_of t + first.spare)
  pub only : (t : Tree) (us : List Tree) (rest : List Word) → Says t first.goal → Chain names o us (left first.at) rest
      → Stops (level_of o) rest
      → (rest ≡ left p.at) × (chain_parts us + p.spare ≡ first.spare) × Says (all_joined o t us) p.goal

-- no operands are read from the words but those of more than n parts; where there are some, the fault says so
abbrev pub MissesMore : Names → Operator → List Word → ℕ → GoalFault → Type 0
MissesMore names o ws n e = (us : List Tree) (rest : List Word) → Chain names o us ws rest → Stops (level_of o) rest
    → (n < chain_parts us) × IsForParts e

-- what the reader of the operands behind a first one answers
abbrev pub AnswersMore : Names → Operator → Prefix → Result Prefix GoalFault → Type 0
AnswersMore names o first (Ok p) = FindsMore names o first p
AnswersMore names o first (Err Memory) = Unit {0}
AnswersMore names o first (Err (Refused r)) = MissesMore names o (left first.at) first.spare (Refused r)

-- ---- queries

-- what an expression and the words after it ask for
abbrev pub Asks : Names → Prefix → Result Query GoalFault → Type 0
Asks names p (Ok q) = (q.goal ≡ p.goal) × (ending names (left p.at) ≡ Some q.then)
Asks names p (Err e) = ending names (left p.at) ≡ None

-- what `then` and the words after it ask for
abbrev pub AsksThen : Names → List Word → Result Query GoalFault → Type 0
AsksThen names ws (Ok q) = IsThen names ws q
AsksThen names ws (Err e) = ending names ws ≡ None

-- what an expression asks for, of which a state is wanted that does not meet it
abbrev pub AsksNever : Prefix → Result Query GoalFault → Type 0
AsksNever p (Ok q) =
    (are_none (left p.at) ≡ true) × ((t : Tree) → Says t p.goal → Says (negated t) q.goal) × (q.then ≡ None)
AsksNever p (Err Memory) = Unit {0}
AsksNever p (Err (Refused r)) = are_none (left p.at) ≡ false
