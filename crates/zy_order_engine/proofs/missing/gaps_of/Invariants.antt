use Rattle.std.proofs.Common.{◌≡◌, ◌≤◌, ◌+◌, ◌++◌, length}
use Rattle.zy_isa.specs.Limits.{max_choices}
use Rattle.zy_logs.specs.Logs.{steps_in}
use Rattle.zy_order_engine.specs.Missing.{gaps_from}
use Rattle.zy_order_engine.proofs.missing.gaps_of.Given as goal

abbrev pub invariant-loop-rest : goal.invariant-loop-rest
invariant-loop-rest l =
    record {
      same : l.gaps.items ++ gaps_from l.gap l.actor l.missing l.rest ≡ gaps_from l.gap l.actor 0 l.lines;
      few : l.missing + steps_in l.gap l.rest ≤ max_choices;
    }

abbrev pub decreases-loop-rest : goal.decreases-loop-rest
decreases-loop-rest l = length l.rest
