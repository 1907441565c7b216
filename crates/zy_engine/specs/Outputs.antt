-- The bytes of what is written of a scenario.
use Rattle.std.specs.Prelude.{ℕ, List}
use Rattle.zy_isa.specs.Scenario.{Scenario}
use Rattle.zy_text.specs.Canon.{canon}
use Rattle.zy_image.specs.Image.{image_of}
use Rattle.zy_listing.specs.Run.{listing_run}
use Rattle.zy_trace.specs.Trace.{steps_text, trace}
use Rattle.zy_trace.specs.declared.form.StepForm.TheVariants as step
use Rattle.zy_engine.specs.declared.output.SourceFormat.{SourceFormat}
use Rattle.zy_engine.specs.declared.output.SourceFormat.TheVariants.{Image, Text}
use Rattle.zy_engine.specs.declared.output.RunFormat.{RunFormat}
use Rattle.zy_engine.specs.declared.output.RunFormat.TheVariants.{Listing, Objects, Trace, TracedObjects}

-- the bytes of an output
abbrev pub output_of : SourceFormat → Scenario → List ℕ
output_of Image = image_of
output_of Text = canon

-- the bytes of what is shown of a run
abbrev pub shown_of : RunFormat → Scenario → List ℕ
shown_of Listing = listing_run
shown_of Trace = trace
shown_of Objects = steps_text step.Object
shown_of TracedObjects = steps_text step.TracedObject
