-- Gaps: places of a log where steps of its actor may be missing.
use Rattle.std.specs.Prelude.{◌≡◌, ◌≤◌, ◌+◌, ◌++◌, ℕ, zero, suc, List, [], ◌∷◌, None, true, length, sum}
use Rattle.zy_isa.specs.declared.node.Actor.{Actor}
use Rattle.zy_isa.specs.declared.node.Actor.TheVariants.{C, A, B}
use Rattle.zy_isa.specs.declared.choice.Choice.{Choice}
use Rattle.zy_isa.specs.Choices.{actor_of, names_below}
use Rattle.zy_logs.specs.declared.log_line.LogLine.{LogLine}
use Rattle.zy_order.specs.declared.gaps.Gaps.{Gaps}

-- how many steps may be missing from an actor's log: before each of its lines, and behind the last
abbrev pub gaps_of : Actor → Gaps → List ℕ
gaps_of C gaps = gaps.c.items
gaps_of A gaps = gaps.a.items
gaps_of B gaps = gaps.b.items

-- how many steps may be missing from the three logs together
abbrev pub gap_count : Gaps → ℕ
gap_count gaps = sum gaps.c.items + (sum gaps.a.items + sum gaps.b.items)

-- the line of a step of which only the choice is known
abbrev pub unlogged : Choice → LogLine
unlogged c = record { log = actor_of c; choice = c; told = None; value = None; sent = None; rows = None }

-- the line of a missing step: some choice of the actor, which names one of `count` transactions if it names one
pub record IsMissing (count : ℕ) (x : Actor) (line : LogLine) : Type 0 where
  pub is : line ≡ unlogged line.choice
  pub actor : actor_of line.choice ≡ x
  pub named : names_below count line.choice ≡ true

-- lines of missing steps
abbrev pub AreMissing : ℕ → Actor → List LogLine → Type 0
AreMissing count x [] = Unit {0}
AreMissing count x (line ∷ lines) = IsMissing count x line × AreMissing count x lines

-- what fills a gap: lines of at most n missing steps
pub record FillsGap (count n : ℕ) (x : Actor) (lines : List LogLine) : Type 0 where
  pub few : length lines ≤ n
  pub missing : AreMissing count x lines

-- what fills a gap, the log's next line, and lines that go on
pub record HasLine (count n : ℕ) (x : Actor) (line : LogLine) (GoOn : List LogLine → Type 0) (lines : List LogLine) : Type 0 where
  pub filled : List LogLine
  pub rest : List LogLine
  pub is : lines ≡ filled ++ line ∷ rest
  pub gap : FillsGap count n x filled
  pub goes_on : GoOn rest

-- lines complete the first k lines of an actor's log: they are these lines, in order, with what fills the gap before each
-- and the one behind the last
abbrev pub Completes : ℕ → Actor → ℕ → List LogLine → List ℕ → List LogLine → Type 0
Completes count x k log [] lines = ⊥
Completes count x zero log (n ∷ gaps) lines = FillsGap count n x lines
Completes count x (suc k) [] (n ∷ gaps) lines = ⊥
Completes count x (suc k) (line ∷ log) (n ∷ gaps) lines = HasLine count n x line (Completes count x k log gaps) lines
