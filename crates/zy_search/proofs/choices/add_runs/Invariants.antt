use Rattle.std.proofs.Common.{◌≡◌, ◌++◌}
use Rattle.zy_isa.specs.declared.choice.Choice.TheVariants.{Run}
use Rattle.zy_search.specs.Choices.{each}
use Rattle.zy_search.proofs.choices.add_runs.Given as goal

abbrev pub invariant-loop-t : goal.invariant-loop-t
invariant-loop-t l = l.choices.items ≡ l.initial.choices.items ++ each (Run l.n) l.t
