-- One path after another is followed.
use Rattle.std.proofs.Common.{List, sym, subst}
use Rattle.zy_isa.specs.declared.choice.Choice.{Choice}
use Rattle.zy_order.specs.declared.reached.Reached.{Reached}
use Rattle.zy_order.specs.Machines.{AreRecentMachines, IsPlaced}
use Rattle.zy_order.specs.Reaches.{IsTaken}
use Rattle.std.proofs.Common.{Some}
use Rattle.zy_order.proofs.LoopLemmas.{followed_next}
use Rattle.zy_order.proofs.search.Search.follow.Goals as goal

pub returns-in_default-clause-under_way : goal.returns-in_default-clause-under_way
returns-in_default-clause-under_way g c =
    let u = c.loop-turn.invariant.follows.search.under_way in
    record { plan = u.plan; reached = c.in_default.ensures.reached c.args.plan.now u.reached }

pub arrive-requires : goal.arrive-requires
arrive-requires g c =
    let p = c.args.plan.now in
    let f = c.loop-turn.invariant.follows in
    let u = f.search.under_way in
    let same = sym c.in-Some.ensures.paths in
    record {
      search = record {
        under_way = record { plan = u.plan; reached = c.in-Some.ensures.reached p u.reached };
        recent = subst (λ (ps : List (List Choice)). AreRecentMachines p.start ps c.loop-turn.self.recent) same f.search.recent;
        twin = f.search.twin;
      };
      there = (c.in-Some.ensures.taken p u.reached f.followed).0;
      machine = subst (λ (ps : List (List Choice)). IsPlaced p.start ps c.loop-turn.machine) same c.loop-turn.invariant.machine;
    }

pub loop-turn-preserved : goal.loop-turn-preserved
loop-turn-preserved g c =
    let p = c.args.plan.now in
    let f = c.loop-turn.invariant.follows in
    let there = c.in_ok-arrive.ensures in
    let adds = c.in_ok-expand.ensures.adds in
    let taken = subst (λ (r : Reached). IsTaken p r (Some c.in-Some.at)) (sym there.reached)
    (c.in-Some.ensures.taken p f.search.under_way.reached f.followed) in
    record {
      follows = record {
        search = adds.search;
        followed = followed_next p c.arrive.new.self c.expand.new.self c.in-Some.at taken adds (c.in_ok-expand.ensures.followed c.if-not-branch.false);
      };
      machine = c.in_ok-expand.ensures.placed;
    }
