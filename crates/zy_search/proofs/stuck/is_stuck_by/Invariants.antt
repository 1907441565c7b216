use Rattle.std.proofs.Common.{◌≡◌, ◌<◌, ℕ, get_or, true}
use Rattle.zy_isa.specs.declared.choice.Choice.TheVariants.{Start}
use Rattle.zy_table.specs.Play.{step}
use Rattle.zy_search.specs.Stuck.{is_still}
use Rattle.zy_search.specs.Visits.{IsTwin}
use Rattle.zy_search.proofs.stuck.is_stuck_by.Given as goal

abbrev pub invariant-loop-i : goal.invariant-loop-i
invariant-loop-i l =
    record {
      twin : IsTwin l.machine l.twin;
      still : (j : ℕ) → j < l.i → is_still (step l.machine.scenario (get_or l.choices j Start) l.machine.state).outcome ≡ true;
    }
