use Rattle.std.proofs.Common.{◌∙◌, ap}
use Rattle.zy_node.specs.Nodes.{limits_of}
use Rattle.zy_machine.proofs.node_pair.NodePair.set_to.Goals as goal

pub returns-clause-limits : goal.returns-clause-limits
returns-clause-limits c = λ n mine other. record {
  few = mine.few;
  a = c.become_copy.ensures.limits n (ap limits_of c.changed_parts.ensures.others ∙ mine.a) other.a;
  b = c.become_copy-2.ensures.limits n (ap limits_of c.changed_parts-2.ensures.others ∙ mine.b) other.b;
}
