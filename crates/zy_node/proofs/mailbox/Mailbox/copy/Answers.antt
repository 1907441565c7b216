use Rattle.zy_node.proofs.MailLemmas.{AreWhole-same}
use Rattle.zy_node.proofs.mailbox.Mailbox.copy.Goals as goal

pub invariant_of-result : goal.invariant_of-result
invariant_of-result c =
    AreWhole-same c.self.inside.pages c.in_ok-link.link.messages c.self.inside.link.messages c.in_ok-link.ensures.messages c.in_ok-link.ensures.limits
    c.self.invariant
