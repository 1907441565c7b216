-- What an effect says of its instruction.
use Rattle.std.proofs.Common.{◌≡◌, ℕ, List, Bool, true, false, nat_lt, refl}
use Rattle.zy_isa.specs.declared.instr.Instr.{Instr}
use Rattle.zy_isa.specs.declared.instr.Instr.TheVariants.{Commit}
use Rattle.zy_isa.specs.Programs.{ends, targets_below}
use Rattle.zy_table.specs.declared.effect.Effect.{Effect}
use Rattle.zy_table.specs.declared.effect.Effect.TheVariants.{Jumps, Commits, Aborts}
use Rattle.zy_table.specs.Effects.{effect_of}

-- it ends the transaction
abbrev pub is_last : Effect → Bool
is_last Commits = true
is_last Aborts = true
is_last e = false

-- where it may jump to is below count
abbrev pub jumps_below : ℕ → Effect → Bool
jumps_below count (Jumps taken to) = nat_lt to count
jumps_below count e = true

-- a program may end with an instruction if and only if its effect ends the transaction
pub ends-effect : (i : Instr) (regs : List ℕ) → ends i ≡ is_last (effect_of i regs)
ends-effect Commit regs = refl
ends-effect i regs = refl

-- an instruction and its effect have the same target
pub target-effect : (count : ℕ) (i : Instr) (regs : List ℕ) → targets_below count i ≡ jumps_below count (effect_of i regs)
target-effect count Commit regs = refl
target-effect count i regs = refl
