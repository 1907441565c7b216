-- A line is followed alone, or all steps are.
use Rattle.std.proofs.Common.{◌≡◌, Bool, true, inl, inr, subst, sym}
use Rattle.zy_order.specs.Reaches.{cursors_at, Adds, FollowsAll, IsComplete, IsFollowed}
use Rattle.zy_order.proofs.PushLemmas.{adds_then}
use Rattle.zy_order.proofs.ReachLemmas.{extends_on}
use Rattle.zy_order.proofs.LoopLemmas.{if_ok, is_followed}
use Rattle.zy_order.proofs.search.Search.expand.Goals as goal

pub returns-in-Known-clause-followed : goal.returns-in-Known-clause-followed
returns-in-Known-clause-followed c = λ _.
    let p = c.args.plan.now in
    let at = c.requires.at in
    let adds = c.in_ok-follow_alone.ensures.adds in
    is_followed p c.args.self.now.reached c.follow_alone.new.self.reached c.args.at at.there adds.extends
    (λ end. c.requires.part (subst (IsComplete p (cursors_at c.args.self.now.reached c.args.at)) (sym at.machine.state) end))
    (inr (c.in_ok-follow_alone.ensures.alone c.in-Known.is))

pub follow_each-requires : goal.follow_each-requires
follow_each-requires c = c.in_ok-follow_alone.ensures.back c.in-Unfit.is

pub returns-in-Unfit-clause-adds : goal.returns-in-Unfit-clause-adds
returns-in-Unfit-clause-adds c =
    adds_then c.args.plan.now c.args.self.now c.follow_alone.new.self c.follow_each.new.self c.follow_each.result
    c.in_ok-follow_alone.ensures.adds c.follow_each.ensures.adds

pub returns-in-Unfit-clause-followed : goal.returns-in-Unfit-clause-followed
returns-in-Unfit-clause-followed c =
    let p = c.args.plan.now in
    let at = c.requires.at in
    let i = c.args.at in
    let old = c.args.self.now in
    let mid = c.follow_alone.new.self in
    let new = c.follow_each.new.self in
    if_ok (Adds p mid new) (λ (b : Bool). b ≡ true → FollowsAll p.start p.logs new.reached i)
    (λ (b : Bool). b ≡ true → IsFollowed p new.reached i) c.follow_each.result
    (λ b more all e. is_followed p old.reached new.reached i at.there
    (extends_on old.reached mid.reached new.reached c.in_ok-follow_alone.ensures.adds.extends more.extends)
    (λ end. c.requires.part (subst (IsComplete p (cursors_at old.reached i)) (sym at.machine.state) end)) (inl (all e)))
    c.follow_each.ensures.adds c.follow_each.ensures.followed
