-- Where an outcome is asked for, the machine that has made the choices that were found has room for one more.
use Rattle.std.proofs.Common.{length, arith}
use Rattle.zy_search.proofs.DepthLemmas.{outcome_fits}
use Rattle.zy_search.proofs.last.with_last.Goals as goal

pub last_choice-requires-clause-room : goal.last_choice-requires-clause-room
last_choice-requires-clause-room c =
    outcome_fits c.args.plan.now.sought c.args.wanted (length c.go_along.new.here.entries) c.requires.then
    (omega (arith, c.in_ok-go_along.ensures.entries, c.requires.finds.finds.path.room))
