-- Keys from a low one on.
use Rattle.std.specs.Prelude.{ℕ, nat_le, nat_lt, Bool, true, ◌&&◌, Option, None, Some}
use Rattle.zy_wire.specs.declared.key_range.KeyRange.{KeyRange}

-- k is below the end, if there is one
abbrev pub is_before : Option ℕ → ℕ → Bool
is_before None k = true
is_before (Some end) k = nat_lt k end

-- k is among these keys
abbrev pub in_range : KeyRange → ℕ → Bool
in_range r k = nat_le r.low k && is_before r.end k
