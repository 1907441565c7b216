-- Those before this one are there, and there is room for the others.
use Rattle.std.proofs.Common.{◌≡◌, ◌++◌, take, vec_capacity}
use Rattle.zy_io.proofs.appending.with_all.Given as goal

abbrev pub invariant-loop-byte : goal.invariant-loop-byte
invariant-loop-byte l = (l.all.items ≡ l.initial.all.items ++ take l.byte-index l.others) × (vec_capacity l.all ≡ vec_capacity l.initial.all)
