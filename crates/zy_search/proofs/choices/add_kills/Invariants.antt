use Rattle.std.proofs.Common.{◌≡◌, ◌++◌}
use Rattle.zy_isa.specs.declared.choice.Choice.TheVariants.{Kill}
use Rattle.zy_search.specs.Choices.{each}
use Rattle.zy_search.proofs.choices.add_kills.Given as goal

abbrev pub invariant-loop-t : goal.invariant-loop-t
invariant-loop-t l = l.choices.items ≡ l.initial.choices.items ++ each Kill l.t
