-- The greatest number of an integer type.
use Rattle.std.specs.Prelude.{ℕ}

abbrev pub max_u16 : ℕ
max_u16 = 65535

abbrev pub max_u32 : ℕ
max_u32 = 4294967295
