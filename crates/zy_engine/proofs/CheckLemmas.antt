-- What went out of a check.
use Rattle.std.proofs.Common.{ℕ, List, Err}
use Rattle.zy_io.specs.Streams.{Sent}
use Rattle.zy_io.specs.declared.writing.TextFault.{TextFault}
use Rattle.zy_io.specs.declared.writing.TextFault.TheVariants.{Write, Memory}
use Rattle.zy_engine.specs.Checks.{WroteOrNothing}

-- a fault says as much of what went out, whatever the call would have returned
pub fault_says : (X Y : Type 0) (old new : Sent) (f : TextFault) (text : List ℕ)
    → WroteOrNothing old new {X = X} (Err f) text → WroteOrNothing old new {X = Y} (Err f) text
fault_says X Y old new Write text w = w
fault_says X Y old new Memory text w = w
