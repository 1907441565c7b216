use Rattle.std.proofs.Common.{◌≡◌, ◌++◌}
use Rattle.zy_isa.specs.declared.choice.Choice.TheVariants.{Begin}
use Rattle.zy_search.specs.Choices.{each}
use Rattle.zy_search.proofs.choices.add_begins.Given as goal

abbrev pub invariant-loop-t : goal.invariant-loop-t
invariant-loop-t l = l.choices.items ≡ l.initial.choices.items ++ each Begin l.t
