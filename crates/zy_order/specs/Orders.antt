-- Orders of the steps that the lines of three logs tell, one log for each actor, and of steps that the logs lack.
use Rattle.std.specs.Prelude.{◌≡◌, ℕ, Bool, List, [], ◌∷◌, Option, None, Some, IfSome, flat_map, length, map, option_to_list}
use Rattle.std.specs.List.{filter}
use Rattle.zy_isa.specs.declared.node.Actor.{Actor}
use Rattle.zy_isa.specs.declared.node.Actor.TheVariants.{C, A, B}
use Rattle.zy_isa.specs.declared.node.Node.{Node}
use Rattle.zy_isa.specs.declared.choice.Choice.{Choice}
use Rattle.zy_isa.specs.declared.version.Version.{Version}
use Rattle.zy_isa.specs.Choices.{actor_at}
use Rattle.zy_isa.specs.Scenario.{Scenario}
use Rattle.zy_table.specs.declared.observation.Observation.{Observation}
use Rattle.zy_table.specs.State.{State}
use Rattle.zy_table.specs.Play.{step}
use Rattle.zy_table.specs.Observations.{observation_at}
use Rattle.zy_threads.specs.Turns.{is_c, is_a, is_b}
use Rattle.zy_logs.specs.declared.log_line.LogLine.{LogLine}
use Rattle.zy_logs.specs.Agrees.{Agrees}
use Rattle.zy_order.specs.declared.gaps.Gaps.{Gaps}
use Rattle.zy_order.specs.Gaps.{gaps_of, Completes}
use Rattle.zy_order.specs.Twins.{AreTwins, HasTwin}

-- ---- the logs

-- a line stands in the log of an actor
abbrev pub stands_in : Actor → LogLine → Bool
stands_in C line = is_c line.log
stands_in A line = is_a line.log
stands_in B line = is_b line.log

-- the log of an actor: those of the lines that stand in it, in order
abbrev pub lines_of : Actor → List LogLine → List LogLine
lines_of x lines = filter (stands_in x) lines

-- how many lines each actor's log has
abbrev pub all_of : List LogLine → Actor → ℕ
all_of lines x = length (lines_of x lines)

-- the choices of lines
abbrev pub choices_of : List LogLine → List Choice
choices_of lines = map (λ (line : LogLine). line.choice) lines

-- ---- steps

-- a step, as logs tell it: by a line, and by one of another log, if there is one
pub record ToldStep : Type 0 where
  pub line : LogLine
  pub other : Option LogLine

-- the lines of a step
abbrev pub lines_in : ToldStep → List LogLine
lines_in x = x.line ∷ option_to_list x.other

-- those of many
abbrev pub lines_told : List ToldStep → List LogLine
lines_told steps = flat_map lines_in steps

-- their choices
abbrev pub choices_told : List ToldStep → List Choice
choices_told steps = map (λ (x : ToldStep). x.line.choice) steps

-- the lines of a step agree with what it shows
abbrev pub Agree : LogLine → Option LogLine → Observation → Type 0
Agree line other o = Agrees line o × IfSome other (λ m. Agrees m o)

-- a line of the client's log and one of a node's may tell one step: they are of one choice, and twins if the second has a twin
pub record MayBeOne (v : Version) (log : Actor → List LogLine) (line other : LogLine) : Type 0 where
  pub choice : line.choice ≡ other.choice
  pub whole : HasTwin v log other → AreTwins v line other

-- a line of the client's log and one of a node's tell one step
pub record AreOne (v : Version) (log : Actor → List LogLine) (line other : LogLine) : Type 0 where
  pub node : Node
  pub client : line.log ≡ C
  pub stands : other.log ≡ actor_at node
  pub may : MayBeOne v log line other

-- a line comes alone if it has no twin, and with another if the two may be one
abbrev pub AreWhole : Version → (Actor → List LogLine) → LogLine → Option LogLine → Type 0
AreWhole v log line None = HasTwin v log line → ⊥
AreWhole v log line (Some other) = AreOne v log line other

-- steps fit a state: their choices are made from it, one after another, and the lines of each are whole and agree with what it shows
abbrev pub Fits : Scenario → (Actor → List LogLine) → State → List ToldStep → Type 0
Fits sc log s [] = Unit {0}
Fits sc log s (x ∷ xs) = AreWhole sc.version log x.line x.other × Agree x.line x.other (observation_at sc s x.line.choice)
    × Fits sc log (step sc x.line.choice s).after xs

-- a merge of completions: of each actor's log, its first lines, as many as `taken` has of it, are completed
abbrev pub Merges : Scenario → List LogLine → Gaps → (Actor → ℕ) → List ToldStep → Type 0
Merges sc lines gaps taken order =
    (x : Actor) → Completes (length sc.programs) x (taken x) (lines_of x lines) (gaps_of x gaps) (lines_of x (lines_told order))

-- an order of prefixes of the logs: a merge of their completions that fits the state
pub record IsPrefixOrder (sc : Scenario) (s : State) (lines : List LogLine) (gaps : Gaps) (taken : Actor → ℕ)
    (order : List ToldStep) : Type 0 where
  pub merges : Merges sc lines gaps taken order
  pub fits : Fits sc (λ x. lines_of x lines) s order

-- an order of the logs: all of their lines are taken
abbrev pub IsOrder : Scenario → State → List LogLine → Gaps → List ToldStep → Type 0
IsOrder sc s lines gaps order = IsPrefixOrder sc s lines gaps (all_of lines) order
