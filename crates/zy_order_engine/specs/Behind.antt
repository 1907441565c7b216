-- A scenario that is written with choices behind its own.
use Rattle.std.specs.Prelude.{List, Result}
use Rattle.zy_io.specs.Streams.{Sent}
use Rattle.zy_io.specs.declared.writing.TextFault.{TextFault}
use Rattle.zy_isa.specs.declared.choice.Choice.{Choice}
use Rattle.zy_isa.specs.Scenario.{Scenario}
use Rattle.zy_engine.specs.declared.wording.Wording.{Wording}
use Rattle.zy_engine.specs.Searching.{IsWorded, WroteSome}
use Rattle.zy_order_engine.specs.Runs.{extended}

-- a call that writes a text of a scenario with these choices behind its own
abbrev pub WroteBehind : {X : Type 0} → Wording → List Choice → Scenario → Sent → Sent → Result X TextFault → Type 0
WroteBehind w cs sc = WroteSome (IsWorded w (extended sc cs))
