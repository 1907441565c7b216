-- A listing whose scenario part gives that listing.
use Rattle.std.specs.Prelude.{◌≡◌, Ok}
use Rattle.zy_io.specs.Streams.{Sent, Sends}
use Rattle.zy_text.specs.Canon.{canon}
use Rattle.zy_isa.specs.Scenario.{Scenario}
use Rattle.zy_text.specs.Text.{Means}
use Rattle.zy_listing.specs.Run.{listing_run, WroteRun}
use Rattle.zy_text.specs.Cut.{cut}
use Rattle.zy_machine.specs.Histories.{History}
use Rattle.zy_engine.specs.declared.format.Format.TheVariants.{Text}
use Rattle.zy_engine.specs.OnInput.{OnInput}

-- the scenario part of the listing is the scenario's canonical text and means it; and run of that part, where it is
-- done, writes the listing
pub record RunsAgain (sc : Scenario) : Type 0 where
  pub part : cut (listing_run sc) ≡ canon sc
  pub means : Means (canon sc) sc
  pub again : (old new : Sent) (machine : History)
      → OnInput (WroteRun listing_run) Text (cut (listing_run sc)) old new (Ok machine)
      → Sends old new (listing_run sc)
