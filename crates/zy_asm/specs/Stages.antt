-- The stages of reading.
use Rattle.std.specs.Prelude.{ℕ}
use Rattle.zy_asm.specs.declared.state.Stage.{Stage}
use Rattle.zy_asm.specs.declared.state.Stage.TheVariants.{Program}

-- how many programs are open
abbrev pub open_programs : Stage → ℕ
open_programs Program = 1
open_programs _ = 0
