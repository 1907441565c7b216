-- What an engine does with an input in hand.
use Rattle.std.specs.Prelude.{ℕ, List, Result}
use Rattle.zy_io.specs.declared.writing.TextFault.{TextFault}
use Rattle.zy_io.specs.Inputs as inputs
use Rattle.zy_io.specs.Streams.{Sent}
use Rattle.zy_isa.specs.Scenario.{Scenario}
use Rattle.zy_engine.specs.declared.faults.BenchFault.{BenchFault}
use Rattle.zy_engine.specs.declared.format.Format.{Format}
use Rattle.zy_engine.specs.Faults.{of_writing}
use Rattle.zy_engine.specs.Inputs.{IsAccepted, IsRefusal}

-- what is due is done with the scenario that the input stands for, or the input is refused
abbrev pub OnInput : {X : Type 0} → (Scenario → Sent → Sent → Result X TextFault → Type 0)
    → Format → List ℕ → Sent → Sent → Result X BenchFault → Type 0
OnInput Due format input = inputs.OnInput (IsAccepted format input) (IsRefusal format input) of_writing Due
