use Rattle.std.proofs.Common.{refl}
use Rattle.std.proofs.lemmas.Bool.{lt-ltb}
use Rattle.zy_table.specs.Run.{range_step}
use Rattle.zy_node.specs.Nodes.{with_node}
use Rattle.zy_rules.proofs.run.range_step.Goals as goal

pub returns-then-last-first-clause-line : goal.returns-then-last-first-clause-line
unfolding range_step
returns-then-last-first-clause-line c = (refl, λ v. rw (lt-ltb _ _ c.if-last-first.true) (c.set_step.ensures (with_node c.args.me.now v)))
