-- The plan has the start, the logs of the lines and all choices.
use Rattle.std.proofs.Common.{rules}
use Rattle.zy_order.proofs.LineLemmas.{plan_is}
use Rattle.zy_order.proofs.order.plan_from.Goals as goal

pub returns-in-Ok-clause-plan : goal.returns-in-Ok-clause-plan
returns-in-Ok-clause-plan c = plan_is _ c.args.start.now c.args.lines.now c.args.gaps (search rules) c.in_ok-logs.ensures c.in-Ok.ensures.replay c.requires c.in-Ok.ensures.choices
