-- Those before this one are there, and there is room for the others.
use Rattle.std.proofs.Common.{◌≡◌, ◌++◌, ◌+◌, take, vec_len, vec_capacity}
use Rattle.zy_io.proofs.piece.RefArrayU8Piece.put_behind.Given as goal

abbrev pub invariant-loop-byte : goal.invariant-loop-byte
invariant-loop-byte g l = (l.all.items ≡ l.initial.all.items ++ take l.byte-index l.byte-items) × (vec_len l.all ≡ vec_len l.initial.all + l.byte-index) × (vec_capacity l.all ≡ vec_capacity l.initial.all)
