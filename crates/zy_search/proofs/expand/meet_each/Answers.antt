-- Each choice of the plan is met in turn, from the state of one path.
use Rattle.std.proofs.Common.{ℕ, Global, Vec, inl, ◌≡◌, ◌<◌, List, true, get_or, sym, ap, subst, length, arith, refl}
use Rattle.zy_isa.specs.declared.choice.Choice.{Choice}
use Rattle.zy_isa.specs.declared.choice.Choice.TheVariants.{Start}
use Rattle.zy_search.specs.Choices.{is_considered}
use Rattle.zy_search.specs.Visits.{AreNumbersAt, IsFresh, Notes}
use Rattle.zy_search.proofs.AheadLemmas.{goes_further, numbers_on, stays}
use Rattle.zy_search.proofs.SearchLemmas.{grows_not, grows_on}
use Rattle.zy_search.proofs.EdgeLemmas.{by_next, fresh_one}
use Rattle.zy_search.proofs.MeetLemmas.{element, found, is_one, lead_all, lead_next}
use Rattle.zy_search.proofs.expand.meet_each.Goals as goal

pub meet-requires-clause-ready : goal.meet-requires-clause-ready
meet-requires-clause-ready c =
    let cs = c.args.plan.now.choices.items in
    let q = c.args.plan.now.sought in
    let n = length c.args.plan.now.start.scenario.programs in
    let lt : c.loop-i.i < length cs = omega (arith, c.loop-i-test.true, c.len-i-end.ensures) in
    let is = element cs c.loop-i.i c.index-choice.result.now lt c.index-choice.ensures in
    let i = c.loop-i.invariant in
    let ready = c.requires.ready in
    record {
      turn = record {
        ready = record {
          whole = ready.whole;
          visits = i.visits;
          near = i.near;
          there = omega (arith, ready.there, i.grows.longer);
          room = omega (arith, ready.room, ap (λ (l : List Choice). length l) (i.grows.same c.args.at ready.there));
        };
        considered = subst (λ (d : Choice). is_considered q.kinds n d ≡ true) (sym is) (is_one q.kinds n c.loop-i.i cs ready.whole lt);
        fresh = subst (IsFresh c.loop-i.reached.tree c.args.at) (sym is)
            (fresh_one q.kinds n c.loop-i.reached.tree c.args.at c.loop-i.i cs ready.whole lt i.by);
      };
      informed = i.informed;
      machines = i.scratch;
    }

pub meet-requires-clause-choice : goal.meet-requires-clause-choice
meet-requires-clause-choice c =
    let cs = c.args.plan.now.choices.items in
    let lt : c.loop-i.i < length cs = omega (arith, c.loop-i-test.true, c.len-i-end.ensures) in
    record { there = lt; choice = sym (element cs c.loop-i.i c.index-choice.result.now lt c.index-choice.ensures) }

pub returns-in-Spent : goal.returns-in-Spent
returns-in-Spent c =
    let m = rw c.in-Spent.is at c.in_ok-meet.ensures.meets.well in
    let g = grows_on c.args.reached.now.tree c.loop-i.reached.tree c.meet.new.reached.tree c.loop-i.invariant.grows m.grows in
    record {
      well = inl (record { visits = m.visits; near = m.near; grows = g; many = m.many });
      goes_on = goes_further c.args.reached.now c.loop-i.reached c.meet.new.reached c.loop-i.invariant.goes_on c.in_ok-meet.ensures.goes_on;
      ahead = c.in_ok-meet.ensures.ahead;
      informed = c.in_ok-meet.ensures.meets.informed;
      scratch = c.in_ok-meet.ensures.meets.machines.machines;
    }

pub loop-i-init : goal.loop-i-init
loop-i-init c = record {
  visits = c.requires.ready.visits;
  near = c.requires.ready.near;
  grows = grows_not c.args.reached.now.tree;
  goes_on = stays c.args.reached.now;
  ahead = c.requires.ahead;
  informed = c.requires.informed;
  scratch = c.requires.scratch;
  here = c.requires.here;
  by = λ i lt d e. absurd (c.requires.end d i lt e);
  known = λ j lt. absurd (omega (arith, lt));
}

pub with_choice-requires : goal.with_choice-requires
with_choice-requires c =
    let m = rw c.in-Shown.is at c.in_ok-meet.ensures.meets.well in
    omega (arith, c.requires.ready.there, c.loop-i.invariant.grows.longer, m.grows.longer)

pub returns-in-Shown : goal.returns-in-Shown
returns-in-Shown c =
    let h = c.args.plan.now.start in
    let q = c.args.plan.now.sought in
    let cs = c.args.plan.now.choices.items in
    let n = length h.scenario.programs in
    let d = c.index-choice.result.now in
    let lt : c.loop-i.i < length cs = omega (arith, c.loop-i-test.true, c.len-i-end.ensures) in
    let is = element cs c.loop-i.i d lt c.index-choice.ensures in
    let one = subst (λ (x : Choice). is_considered q.kinds n x ≡ true) (sym is) (is_one q.kinds n c.loop-i.i cs c.requires.ready.whole lt) in
    let m = rw c.in-Shown.is at c.in_ok-meet.ensures.meets.well in
    record {
      well = found h q c.args.reached.now.tree c.loop-i.reached.tree c.args.at c.requires.ready.there c.loop-i.invariant.grows c.meet.new.reached.tree d
          c.in_ok-path-in-Shown.path.items c.requires.ready.visits
          c.requires.ready.room one m c.in_ok-path-in-Shown.ensures;
      goes_on = goes_further c.args.reached.now c.loop-i.reached c.meet.new.reached c.loop-i.invariant.goes_on c.in_ok-meet.ensures.goes_on;
      ahead = c.in_ok-meet.ensures.ahead;
      informed = c.in_ok-meet.ensures.meets.informed;
      scratch = c.in_ok-meet.ensures.meets.machines.machines;
    }

pub loop-i-preserved : goal.loop-i-preserved
loop-i-preserved c =
    let h = c.args.plan.now.start in
    let q = c.args.plan.now.sought in
    let cs = c.args.plan.now.choices.items in
    let lt : c.loop-i.i < length cs = omega (arith, c.loop-i-test.true, c.len-i-end.ensures) in
    let is = element cs c.loop-i.i c.index-choice.result.now lt c.index-choice.ensures in
    let m = rw c.in-Noted.is at c.in_ok-meet.ensures.meets.well in
    let n = subst (λ (d : Choice). Notes h q c.loop-i.reached.tree c.meet.new.reached.tree c.args.at d) is m in
    let g = c.loop-i.invariant.grows in
    record {
      visits = n.visits;
      near = n.near;
      grows = grows_on c.args.reached.now.tree c.loop-i.reached.tree c.meet.new.reached.tree g n.grows;
      goes_on = goes_further c.args.reached.now c.loop-i.reached c.meet.new.reached c.loop-i.invariant.goes_on c.in_ok-meet.ensures.goes_on;
      ahead = c.in_ok-meet.ensures.ahead;
      informed = c.in_ok-meet.ensures.meets.informed;
      scratch = c.in_ok-meet.ensures.meets.machines;
      here = subst (λ (v : Vec ℕ Global). AreNumbersAt c.args.plan.now c.meet.new.reached c.args.at v.items) (sym c.in_ok-meet.ensures.here)
          (numbers_on c.args.plan.now c.loop-i.reached c.meet.new.reached c.in_ok-meet.ensures.goes_on c.args.at
          (omega (arith, c.requires.ready.there, g.longer)) c.loop-i.numbers.here.items c.loop-i.invariant.here);
      by = by_next c.loop-i.reached.tree c.meet.new.reached.tree c.args.at c.loop-i.i cs (get_or cs c.loop-i.i Start) n.more
          (omega (arith, c.requires.ready.there, g.longer)) c.loop-i.invariant.by refl;
      known = lead_next h q c.args.reached.now.tree c.loop-i.reached.tree c.args.at c.requires.ready.there g c.meet.new.reached.tree cs c.loop-i.i n c.loop-i.invariant.known;
    }

pub returns : goal.returns
returns c =
    let h = c.args.plan.now.start in
    let q = c.args.plan.now.sought in
    let i = c.loop-i.invariant in
    record {
      well = record {
        visits = i.visits;
        near = i.near;
        grows = i.grows;
        expanded = lead_all h q c.args.reached.now.tree c.loop-i.reached.tree c.args.at c.requires.ready.there i.grows c.args.plan.now.choices.items c.loop-i.i
            c.requires.ready.whole
            (omega (arith, c.loop-i-test.false, c.len-i-end.ensures)) i.known;
      };
      goes_on = i.goes_on;
      ahead = i.ahead;
      informed = i.informed;
      scratch = i.scratch.machines;
    }
