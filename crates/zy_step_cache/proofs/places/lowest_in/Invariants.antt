-- None of the transactions so far is active there.
use Rattle.std.proofs.Common.{◌≡◌, drop}
use Rattle.zy_step_cache.specs.Places.{lowest_in}
use Rattle.zy_step_cache.proofs.places.lowest_in.Given as goal

abbrev pub invariant-loop-t : goal.invariant-loop-t
invariant-loop-t l = record { so_far : lowest_in l.table l.n 0 l.numbers ≡ lowest_in l.table l.n l.t (drop l.t l.numbers) }
