-- The registers.
use Rattle.std.specs.Prelude.{ℕ, List, [], ◌∷◌}
use Rattle.zy_isa.specs.declared.instr.Reg.{Reg}
use Rattle.zy_isa.specs.declared.instr.Reg.TheVariants.{R0, R1, R2, R3, R4, R5, R6, R7}

-- how many registers there are
abbrev pub register_count : ℕ
register_count = 8

abbrev pub number_of : Reg → ℕ
number_of R0 = 0
number_of R1 = 1
number_of R2 = 2
number_of R3 = 3
number_of R4 = 4
number_of R5 = 5
number_of R6 = 6
number_of R7 = 7

abbrev pub registers : List Reg
registers = R0 ∷ R1 ∷ R2 ∷ R3 ∷ R4 ∷ R5 ∷ R6 ∷ R7 ∷ []
