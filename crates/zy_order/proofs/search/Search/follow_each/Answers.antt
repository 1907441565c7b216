-- Each missing step is tried, and then each next line is met.
use Rattle.std.proofs.Common.{◌≡◌, ◌<◌, Bool, true, length, arith}
use Rattle.zy_order.specs.Reaches.{Adds, AreMet, FollowsAll}
use Rattle.zy_order.proofs.PushLemmas.{adds_then, stands_on}
use Rattle.zy_order.proofs.LoopLemmas.{if_ok, all_followed}
use Rattle.zy_order.proofs.search.Search.follow_each.Goals as goal

pub meet_each-requires : goal.meet_each-requires
meet_each-requires c =
    stands_on c.args.here.plan.now c.args.self.now c.try_each.new.self c.args.here.at c.args.here.machine.now c.in_ok-try_each.ensures.adds c.requires

pub returns-clause-adds : goal.returns-clause-adds
returns-clause-adds c =
    adds_then c.args.here.plan.now c.args.self.now c.try_each.new.self c.meet_each.new.self c.meet_each.result c.in_ok-try_each.ensures.adds
    c.meet_each.ensures.adds

pub returns-clause-followed : goal.returns-clause-followed
returns-clause-followed c =
    let p = c.args.here.plan.now in
    let h = p.start in
    let at = c.args.here.at in
    let tried = c.try_each.new.self in
    let new = c.meet_each.new.self in
    let x = c.in_ok-try_each.ensures.adds in
    let there : at < length tried.reached.visited = omega (arith, c.requires.there, x.extends.paths.longer) in
    if_ok (Adds p tried new) (λ (b : Bool). b ≡ true → AreMet h p.logs new.reached at)
    (λ (b : Bool). b ≡ true → FollowsAll h p.logs new.reached at) c.meet_each.result
    (λ b y met e. all_followed h p.logs tried.reached new.reached at there y.extends (c.in_ok-try_each.ensures.tried c.if-not-branch.false) (met e))
    c.meet_each.ensures.adds c.meet_each.ensures.met
