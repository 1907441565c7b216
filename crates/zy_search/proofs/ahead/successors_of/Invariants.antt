use Rattle.std.proofs.Common.{◌≡◌, ◌<◌, ℕ, length, slice_index_or}
use Rattle.zy_isa.specs.declared.choice.Choice.{Choice}
use Rattle.zy_search.specs.declared.ahead.Successor.TheVariants.{Unknown}
use Rattle.zy_search.specs.Ahead.{IsSuccessor}
use Rattle.zy_search.specs.Visits.{AreNumbersAt, Grows, IsNumber}
use Rattle.zy_search.proofs.ahead.successors_of.Given as goal

abbrev pub invariant-loop-i : goal.invariant-loop-i
invariant-loop-i l =
    record {
      many : length l.by_choice.items ≡ l.i;
      grows : Grows l.initial.kept l.kept;
      here : AreNumbersAt l.plan l.reached l.at l.numbers.here.items;
      each : (k : ℕ) (c : Choice) → k < l.i → IsNumber l.plan k c
          → IsSuccessor l.plan l.reached l.kept (record { from = l.at; by = c }) (slice_index_or l.by_choice.items k Unknown);
    }
