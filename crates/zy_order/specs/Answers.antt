-- What a search for an order answers.
use Rattle.std.specs.Prelude.{ℕ, ◌≡◌, ◌≤◌, ◌+◌, List, true, length}
use Rattle.zy_isa.specs.Limits.{max_choices}
use Rattle.zy_isa.specs.declared.node.Actor.{Actor}
use Rattle.zy_isa.specs.declared.node.Actor.TheVariants.{C, A, B}
use Rattle.zy_isa.specs.Scenario.{AreNamed}
use Rattle.zy_isa.specs.declared.choice.Choice.{Choice}
use Rattle.zy_table.specs.State.{State}
use Rattle.zy_machine.specs.Histories.{History}
use Rattle.zy_goals.specs.Facts.{is_over}
use Rattle.zy_search.specs.Searches.{reached}
use Rattle.zy_logs.specs.Logs.{AreInLogs}
use Rattle.zy_logs.specs.declared.log_line.LogLine.{LogLine}
use Rattle.zy_order.specs.declared.answer.OrderAnswer.{OrderAnswer}
use Rattle.zy_order.specs.declared.answer.OrderAnswer.TheVariants as answer
use Rattle.zy_order.specs.declared.end.End.{End}
use Rattle.zy_order.specs.declared.end.End.TheVariants as end
use Rattle.zy_order.specs.declared.gaps.Gaps.{Gaps}
use Rattle.zy_order.specs.Gaps.{gaps_of, gap_count}
use Rattle.zy_order.specs.Orders.{ToldStep, lines_of, IsOrder, IsPrefixOrder, choices_of, choices_told}

-- the lines can be logs of steps that follow a machine's: each is of its log and names a transaction, there is a gap before each line of
-- an actor and one behind the last, and the history has room for all steps
pub record IsInput (h : History) (lines : List LogLine) (gaps : Gaps) : Type 0 where
  pub logs : AreInLogs lines
  pub named : AreNamed (length h.scenario.programs) (choices_of lines)
  pub many : (x : Actor) → length (gaps_of x gaps) ≡ length (lines_of x lines) + 1
  pub room : length h.entries + (length lines + gap_count gaps) ≤ max_choices

-- the choices of an order of the logs
abbrev pub MatchesAll : History → List LogLine → Gaps → List Choice → Type 0
MatchesAll h lines gaps cs = (order : List ToldStep) × IsOrder h.scenario h.state lines gaps order × (cs ≡ choices_told order)

-- the choices of an order of prefixes of the logs
abbrev pub MatchesPrefixes : History → List LogLine → Gaps → List Choice → Type 0
MatchesPrefixes h lines gaps cs = (taken : Actor → ℕ) × (order : List ToldStep)
    × IsPrefixOrder h.scenario h.state lines gaps taken order × (cs ≡ choices_told order)

-- what is asked of the last state of an order
abbrev pub HasEnd : End → State → Type 0
HasEnd end.Any s = Unit {0}
HasEnd end.Settled s = is_over s ≡ true

-- the choices of an order of the logs, with this end
pub record MatchesWithEnd (h : History) (lines : List LogLine) (gaps : Gaps) (e : End) (cs : List Choice) : Type 0 where
  pub all : MatchesAll h lines gaps cs
  pub end : HasEnd e (reached h cs)

-- no order of the logs has this end
abbrev pub HasNoneWithEnd : History → List LogLine → Gaps → End → Type 0
HasNoneWithEnd h lines gaps e = (order : List ToldStep) → IsOrder h.scenario h.state lines gaps order → HasEnd e (reached h (choices_told order)) → ⊥

-- there are orders of the logs, one with these choices, and none has this end
pub record HasOtherEnd (h : History) (lines : List LogLine) (gaps : Gaps) (e : End) (cs : List Choice) : Type 0 where
  pub all : MatchesAll h lines gaps cs
  pub none : HasNoneWithEnd h lines gaps e

-- no list of steps is an order of the logs
abbrev pub HasNoOrder : History → List LogLine → Gaps → Type 0
HasNoOrder h lines gaps = (order : List ToldStep) → IsOrder h.scenario h.state lines gaps order → ⊥

-- how many lines of the logs of A and B together are taken
abbrev pub node_lines : (Actor → ℕ) → ℕ
node_lines taken = taken A + taken B

-- a furthest order of prefixes: none takes more lines of A and B together, and none that takes as many takes fewer of the
-- client. Steps that the logs lack do not count
pub record IsFurthest (h : History) (lines : List LogLine) (gaps : Gaps) (taken : Actor → ℕ) (order : List ToldStep) : Type 0 where
  pub prefix : IsPrefixOrder h.scenario h.state lines gaps taken order
  pub nodes : (others : Actor → ℕ) → (other : List ToldStep) → IsPrefixOrder h.scenario h.state lines gaps others other
      → node_lines others ≤ node_lines taken
  pub client : (others : Actor → ℕ) → (other : List ToldStep) → IsPrefixOrder h.scenario h.state lines gaps others other
      → node_lines others ≡ node_lines taken → taken C ≤ others C

-- the choices of a furthest order of prefixes of the logs
abbrev pub MatchesFurthest : History → List LogLine → Gaps → List Choice → Type 0
MatchesFurthest h lines gaps cs = (taken : Actor → ℕ) × (order : List ToldStep) × IsFurthest h lines gaps taken order
    × (cs ≡ choices_told order)

-- there is no order, and the choices are those of a furthest order of prefixes of the logs
pub record IsNowhere (h : History) (lines : List LogLine) (gaps : Gaps) (cs : List Choice) : Type 0 where
  pub none : HasNoOrder h lines gaps
  pub furthest : MatchesFurthest h lines gaps cs

-- what each answer says of the logs, where this end is asked for
abbrev pub IsAnswer : History → List LogLine → Gaps → End → OrderAnswer → Type 0
IsAnswer h lines gaps e (answer.Found v) = MatchesWithEnd h lines gaps e v.items
IsAnswer h lines gaps e (answer.OtherEnd v) = HasOtherEnd h lines gaps e v.items
IsAnswer h lines gaps e (answer.Nowhere v) = IsNowhere h lines gaps v.items
IsAnswer h lines gaps e (answer.Spent v) = MatchesPrefixes h lines gaps v.items
