-- None of the paths under the numbers leads there, or one does.
use Rattle.zy_order.proofs.PushLemmas.{known_recent, keeps_others_on, search_recent}
use Rattle.zy_order.proofs.search.Search.free_under.Goals as goal

pub is_known-requires : goal.is_known-requires
is_known-requires c = search_recent c.args.plan.now c.args.self.now c.loop-k.self c.loop-k.invariant c.requires

pub returns-then-branch-clause-known : goal.returns-then-branch-clause-known
returns-then-branch-clause-known c = λ _.
    known_recent c.args.plan.now c.args.self.now c.loop-k.self c.args.cursors c.loop-k.invariant (c.in_ok-is_known.ensures.known c.if-branch.true)

pub returns-then-branch-clause-keeps : goal.returns-then-branch-clause-keeps
returns-then-branch-clause-keeps c =
    keeps_others_on c.args.plan.now c.args.self.now c.loop-k.self c.is_known.new.self c.loop-k.invariant c.in_ok-is_known.ensures.keeps

pub loop-k-preserved : goal.loop-k-preserved
loop-k-preserved c =
    keeps_others_on c.args.plan.now c.args.self.now c.loop-k.self c.is_known.new.self c.loop-k.invariant c.in_ok-is_known.ensures.keeps
