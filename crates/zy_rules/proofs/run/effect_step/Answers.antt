use Rattle.std.proofs.Common.{refl}
use Rattle.zy_table.specs.Run.{effect_step}
use Rattle.zy_node.specs.Nodes.{with_node}
use Rattle.zy_rules.proofs.run.effect_step.Goals as goal

pub returns-in-Sets-clause-line : goal.returns-in-Sets-clause-line
unfolding effect_step
returns-in-Sets-clause-line c = (refl, λ v. rw c.in-Sets.is (c.set_step.ensures (with_node c.args.me.now v)))

pub returns-in-Jumps-clause-line : goal.returns-in-Jumps-clause-line
unfolding effect_step
returns-in-Jumps-clause-line c = (refl, λ v. rw c.in-Jumps.is (c.jump_step.ensures (with_node c.args.me.now v)))
