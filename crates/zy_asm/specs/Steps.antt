-- Numbers in their ranges.
use Rattle.std.specs.Prelude.{◌||◌, nat_lt, ℕ, List, Result, Ok, Err, ok_or, if◌then◌else◌}
use Rattle.zy_isa.specs.Results.{◌>>=◌}
use Rattle.zy_text.specs.Words.{number_of}
use Rattle.zy_asm.specs.declared.faults.AsmKind.{AsmKind}
use Rattle.zy_asm.specs.declared.faults.AsmKind.TheVariants as kinds

-- a number from least to most
abbrev pub number_in : List ℕ → ℕ → ℕ → Result ℕ AsmKind
number_in w least most = do
  n ← ok_or (number_of w) kinds.Number
  if nat_lt n least || nat_lt most n then Err kinds.Range else Ok n
