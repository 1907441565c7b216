-- What the engine of a debugger does: its input is a scenario text, and commands below it.
use Rattle.std.specs.Prelude.{ℕ, List, Result, drop, length}
use Rattle.zy_io.specs.Streams.{Sent}
use Rattle.zy_io.specs.declared.writing.TextFault.{TextFault}
use Rattle.zy_isa.specs.Scenario.{Scenario}
use Rattle.zy_text.specs.Words.{lines_of}
use Rattle.zy_text.specs.Cut.{cut}
use Rattle.zy_debug_text.specs.Console.{WroteReplies, opened}
use Rattle.zy_engine.specs.declared.faults.BenchFault.{BenchFault}
use Rattle.zy_engine.specs.declared.format.Format.TheVariants.{Text}
use Rattle.zy_engine.specs.OnInput.{OnInput}

-- the most choices from one copy to the next
abbrev pub max_every : ℕ
max_every = 4096

-- the most copies
abbrev pub max_ring : ℕ
max_ring = 64

-- the lines below the scenario part
abbrev pub commands_of : List ℕ → List (List ℕ)
commands_of input = lines_of (drop (length (cut input)) input)

-- The calls of the sink went from old to new.
module _ {X : Type 0} (input : List ℕ) where
  -- the replies to the commands went out, in a session on the scenario: all of them, or a prefix
  abbrev pub WroteRepliesTo : Scenario → Sent → Sent → Result X TextFault → Type 0
  WroteRepliesTo sc old new result = WroteReplies old new result (opened sc) (commands_of input)

  -- they are due where the scenario part is accepted
  abbrev pub Debugs : Sent → Sent → Result X BenchFault → Type 0
  Debugs = OnInput WroteRepliesTo Text (cut input)
