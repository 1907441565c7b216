use Rattle.std.proofs.Common.{sym}
use Rattle.zy_table.proofs.PageLists.{least-owns}
use Rattle.zy_rules.proofs.push.push_step.Goals as goal

pub leave-requires-clause-owned : goal.leave-requires-clause-owned
leave-requires-clause-owned c = rw (c.reserve_post.ensures.others, c.lowest.ensures.same)
    (least-owns c.args.me.now.pages c.in-Some.p (sym c.in-Some.ensures.value))
