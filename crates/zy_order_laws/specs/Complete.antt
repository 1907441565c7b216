-- Logs without gaps whose lines stand in the logs of their actors and tell their outcomes.
use Rattle.std.specs.Prelude.{◌≡◌, List, [], ◌∷◌, is_some, true}
use Rattle.zy_isa.specs.Choices.{actor_of}
use Rattle.zy_logs.specs.declared.log_line.LogLine.{LogLine}
use Rattle.zy_order.specs.declared.gaps.Gaps.{Gaps}
use Rattle.zy_order.specs.Gaps.{gap_count}

-- each line tells its outcome
abbrev pub AllTell : List LogLine → Type 0
AllTell [] = Unit {0}
AllTell (line ∷ lines) = (is_some line.told ≡ true) × AllTell lines

-- each line stands in the log of its choice's actor: no line stands in the log of a node for a choice of the client
abbrev pub AllOwn : List LogLine → Type 0
AllOwn [] = Unit {0}
AllOwn (line ∷ lines) = (line.log ≡ actor_of line.choice) × AllOwn lines

-- no gap is marked, and each line stands in the log of its choice's actor and tells its outcome
pub record AreComplete (lines : List LogLine) (gaps : Gaps) : Type 0 where
  pub whole : gap_count gaps ≡ 0
  pub own : AllOwn lines
  pub told : AllTell lines
