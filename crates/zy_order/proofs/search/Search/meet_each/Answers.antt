-- Three lines are met, one after another.
use Rattle.std.proofs.Common.{◌≡◌, ◌<◌, Bool, true, length, arith}
use Rattle.zy_order.specs.Reaches.{Adds, IsMetWith, AreMet}
use Rattle.zy_order.proofs.PushLemmas.{adds_on, adds_then, stands_on}
use Rattle.zy_order.proofs.ReachLemmas.{met_with_on, extends_on}
use Rattle.zy_order.proofs.LoopLemmas.{all_met, if_ok}
use Rattle.zy_order.proofs.search.Search.meet_each.Goals as goal

pub meet_with-requires-2 : goal.meet_with-requires-2
meet_with-requires-2 c =
    stands_on c.args.here.plan.now c.args.self.now c.meet_with.new.self c.args.here.at c.args.here.machine.now c.in_ok-meet_with.ensures.adds c.requires

pub returns-then-not-branch-2-clause-adds : goal.returns-then-not-branch-2-clause-adds
returns-then-not-branch-2-clause-adds c =
    adds_on c.args.here.plan.now c.args.self.now c.meet_with.new.self c.meet_with-2.new.self c.in_ok-meet_with.ensures.adds c.in_ok-meet_with-2.ensures.adds

pub meet_with-requires-3 : goal.meet_with-requires-3
meet_with-requires-3 c =
    let p = c.args.here.plan.now in
    let two = adds_on p c.args.self.now c.meet_with.new.self c.meet_with-2.new.self c.in_ok-meet_with.ensures.adds c.in_ok-meet_with-2.ensures.adds in
    stands_on p c.args.self.now c.meet_with-2.new.self c.args.here.at c.args.here.machine.now two c.requires

pub returns-clause-adds : goal.returns-clause-adds
returns-clause-adds c =
    let p = c.args.here.plan.now in
    let two = adds_on p c.args.self.now c.meet_with.new.self c.meet_with-2.new.self c.in_ok-meet_with.ensures.adds c.in_ok-meet_with-2.ensures.adds in
    adds_then p c.args.self.now c.meet_with-2.new.self c.meet_with-3.new.self c.meet_with-3.result two c.meet_with-3.ensures.adds

pub returns-clause-met : goal.returns-clause-met
returns-clause-met c =
    let p = c.args.here.plan.now in
    let h = p.start in
    let l = p.logs in
    let at = c.args.here.at in
    let turns = c.turns_by-turns.result in
    let one = c.meet_with.new.self.reached in
    let two = c.meet_with-2.new.self.reached in
    let three = c.meet_with-3.new.self.reached in
    let x = c.in_ok-meet_with.ensures.adds in
    let y = c.in_ok-meet_with-2.ensures.adds in
    let in_first : at < length one.visited = omega (arith, c.requires.there, x.extends.paths.longer) in
    let in_second : at < length two.visited = omega (arith, in_first, y.extends.paths.longer) in
    if_ok (Adds p c.meet_with-2.new.self c.meet_with-3.new.self) (λ (b : Bool). b ≡ true → IsMetWith h l three at turns.third)
    (λ (b : Bool). b ≡ true → AreMet h l three at) c.meet_with-3.result
    (λ b z met e.
    let first = met_with_on h l one three at turns.first (extends_on one two three y.extends z.extends) in_first
    (c.in_ok-meet_with.ensures.met c.if-not-branch.false) in
    let second = met_with_on h l two three at turns.second z.extends in_second (c.in_ok-meet_with-2.ensures.met c.if-not-branch-2.false) in
    all_met h l three at turns c.turns_by-turns.ensures first second (met e)) c.meet_with-3.ensures.adds c.meet_with-3.ensures.met
