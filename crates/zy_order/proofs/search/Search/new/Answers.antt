-- The empty path alone is reached, and is to be followed.
use Rattle.zy_order.proofs.LoopLemmas.{begins}
use Rattle.zy_order.proofs.search.Search.new.Goals as goal

pub returns-in-Ok : goal.returns-in-Ok
returns-in-Ok c =
    let r = c.in_ok-reached.ensures in
    let made = c.in-Ok.ensures in
    begins c.args.plan.now (record { reached = c.in_ok-reached.reached; recent = c.in-Ok.recent; twin = c.in-Ok.twin }) c.requires r.paths r.cursors
    r.todo made.machines made.checkpoints made.spare made.twin
