-- What an input stands for, in each format, and its first fault.
use Rattle.std.specs.Prelude.{◌≡◌, ℕ, List, Some, None}
use Rattle.zy_io.specs.Inputs as inputs
use Rattle.zy_isa.specs.Scenario.{Scenario}
use Rattle.zy_text.specs.Text.{Means}
use Rattle.zy_asm.specs.Input.{input_fault}
use Rattle.zy_asm.specs.Reasons.{fault_of}
use Rattle.zy_image.specs.Image.{IsImage}
use Rattle.zy_image.specs.Reading.{image_fault}
use Rattle.zy_engine.specs.declared.format.Format.{Format}
use Rattle.zy_engine.specs.declared.format.Format.TheVariants as format
use Rattle.zy_engine.specs.declared.faults.BenchFault.{BenchFault}
use Rattle.zy_engine.specs.declared.faults.BenchFault.TheVariants.{Input, Image, Memory}

abbrev pub StandsFor : Format → List ℕ → Scenario → Type 0
StandsFor format.Text bytes s = Means bytes s
StandsFor format.Image bytes s = IsImage bytes s

abbrev pub HasNoFault : Format → List ℕ → Type 0
HasNoFault format.Text bytes = input_fault bytes ≡ None
HasNoFault format.Image bytes = image_fault bytes ≡ None

-- the fault is the first one of a text; no other fault is one of a text
abbrev pub IsTextFault : List ℕ → BenchFault → Type 0
IsTextFault bytes (Input r) = input_fault bytes ≡ Some (fault_of r)
IsTextFault bytes Memory = Unit {0}
IsTextFault bytes _ = ⊥

-- the same for an image
abbrev pub IsImageFault : List ℕ → BenchFault → Type 0
IsImageFault bytes (Image r) = image_fault bytes ≡ Some r.fault
IsImageFault bytes Memory = Unit {0}
IsImageFault bytes _ = ⊥

-- why an input is refused: its first fault, or out of memory
abbrev pub IsRefusal : Format → List ℕ → BenchFault → Type 0
IsRefusal format.Text bytes f = IsTextFault bytes f
IsRefusal format.Image bytes f = IsImageFault bytes f

-- the input stands for this scenario and for no other, and has no fault
abbrev pub IsAccepted : Format → List ℕ → Scenario → Type 0
IsAccepted format input = inputs.IsAccepted (StandsFor format input) (HasNoFault format input)
