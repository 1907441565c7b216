-- What the engine of a run by three threads writes.
use Rattle.std.specs.Prelude.{◌≡◌, List, Result, IfOk}
use Rattle.zy_io.specs.Streams.{Sent}
use Rattle.zy_io.specs.Writing.{Wrote}
use Rattle.zy_io.specs.declared.writing.TextFault.{TextFault}
use Rattle.zy_isa.specs.declared.choice.Choice.{Choice}
use Rattle.zy_isa.specs.Scenario.{Scenario}
use Rattle.zy_machine.specs.Histories.{History}
use Rattle.zy_listing.specs.Run.{listing_run}
use Rattle.zy_threads.specs.Orders.{reordered, IsRunOf}
use Rattle.zy_threads.specs.Turns.{IsMerge}

-- a call that makes the choices of a scenario in some order, each actor's whole and in theirs: it writes the listing that run
-- writes of the scenario with its choices in that order, and returns the machine that has made them
pub record WroteMerge (sc : Scenario) (old new : Sent) (result : Result History TextFault) : Type 0 where
  pub order : List Choice
  pub merge : IsMerge order sc.choices
  pub wrote : Wrote old new result (listing_run (reordered sc order))
  pub machine : IfOk result (λ m. (m.scenario ≡ sc) × IsRunOf (reordered sc order) m)
