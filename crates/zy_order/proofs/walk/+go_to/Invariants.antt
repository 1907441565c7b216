use Rattle.zy_order.proofs.walk.+go_to.Given as goal

abbrev pub decreases-go_to : goal.decreases-go_to
decreases-go_to l = l.at
