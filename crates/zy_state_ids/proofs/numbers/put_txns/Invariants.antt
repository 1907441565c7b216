-- The numbers are those of the first transactions behind the others, and each part that was in the table is.
use Rattle.std.proofs.Common.{ℕ, List, take, ◌++◌}
use Rattle.zy_state_ids.specs.Parts.{txn_parts, AreNumbersOf, Keeps}
use Rattle.zy_state_ids.proofs.numbers.put_txns.Given as goal

abbrev pub invariant-loop-t : goal.invariant-loop-t
invariant-loop-t l = record {
  so_far : (xs : List (List ℕ)) → AreNumbersOf l.fn.table l.fn.numbers.items xs
      → AreNumbersOf l.table l.numbers.items (xs ++ take l.t (txn_parts l.part l.machine.state));
  keeps : Keeps l.fn.table l.table;
}
