use Rattle.std.proofs.Common.{sym}
use Rattle.zy_links.specs.Messages.{message_of}
use Rattle.zy_node.specs.Nodes.{node_shown}
use Rattle.zy_node.proofs.MailLemmas.{front_none, front_some}
use Rattle.zy_rules.proofs.TakeLemmas.{is_front}
use Rattle.zy_rules.proofs.take.at_front.Goals as goal

pub returns-in_default : goal.returns-in_default
returns-in_default c = front_none c.args.inbox.now.messages (sym c.in_default.ensures)

pub line-requires-clause-new : goal.line-requires-clause-new
line-requires-clause-new c =
    let m = message_of c.in-Some.message.now in
    c.requires.new m _ (front_some c.args.inbox.now.messages m (sym c.in-Some.ensures))

pub returns : goal.returns
returns c =
    let m = message_of c.in-Some.message.now in
    rw c.of.ensures (is_front m c.line.result (node_shown c.args.me.now) c.args.inbox.now.messages
    (record { front = sym c.in-Some.ensures; is_line = c.line.ensures }))
