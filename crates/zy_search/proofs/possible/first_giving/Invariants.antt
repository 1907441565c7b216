use Rattle.std.proofs.Common.{◌≡◌, ◌<◌, ℕ, get_or, false}
use Rattle.zy_isa.specs.declared.choice.Choice.TheVariants.{Start}
use Rattle.zy_search.specs.Possible.{gives}
use Rattle.zy_search.proofs.possible.first_giving.Given as goal

-- no choice before i has the outcome
abbrev pub invariant-loop-i : goal.invariant-loop-i
invariant-loop-i l =
    record {
      spare : l.spare.scenario ≡ l.machine.scenario;
      none : (j : ℕ) → j < l.i → gives l.machine.scenario l.wanted l.machine.state (get_or l.choices j Start) ≡ false;
    }
