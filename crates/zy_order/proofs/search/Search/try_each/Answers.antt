-- One choice after another is tried.
use Rattle.std.proofs.Common.{◌≡◌, ◌<◌, ◌≤◌, true, length, sym, subst, arith, refl}
use Rattle.zy_isa.specs.declared.choice.Choice.{Choice}
use Rattle.zy_isa.specs.Choices.{names_below}
use Rattle.zy_search.proofs.MeetLemmas.{element}
use Rattle.zy_order.proofs.PushLemmas.{adds_none, adds_on, stands_on}
use Rattle.zy_order.proofs.LoopLemmas.{all_tried, named_at, tried_next}
use Rattle.zy_order.proofs.search.Search.try_each.Goals as goal

pub try_one-requires-clause-at : goal.try_one-requires-clause-at
try_one-requires-clause-at c =
    stands_on c.args.here.plan.now c.args.self.now c.loop-i.self c.args.here.at c.args.here.machine.now c.loop-i.invariant.adds c.requires

pub try_one-requires-clause-named : goal.try_one-requires-clause-named
try_one-requires-clause-named c =
    let p = c.args.here.plan.now in
    let cs = p.choices.items in
    let count = length p.start.scenario.programs in
    let lt : c.loop-i.i < length cs = omega (arith, c.loop-i-test.true, c.len-i-end.ensures) in
    let is = element cs c.loop-i.i c.index.result.now lt c.index.ensures in
    subst (λ (d : Choice). names_below count d ≡ true) (sym is) (named_at count c.loop-i.i cs c.requires.search.under_way.plan.choices lt)

pub returns-then-not-branch-clause-adds : goal.returns-then-not-branch-clause-adds
returns-then-not-branch-clause-adds c =
    adds_on c.args.here.plan.now c.args.self.now c.loop-i.self c.try_one.new.self c.loop-i.invariant.adds c.in_ok-try_one.ensures.adds

pub loop-i-preserved : goal.loop-i-preserved
loop-i-preserved c =
    let p = c.args.here.plan.now in
    let cs = p.choices.items in
    let at = c.args.here.at in
    let lt : c.loop-i.i < length cs = omega (arith, c.loop-i-test.true, c.len-i-end.ensures) in
    let is = element cs c.loop-i.i c.index.result.now lt c.index.ensures in
    let more = c.in_ok-try_one.ensures.adds in
    let there : at < length c.loop-i.self.reached.visited = omega (arith, c.requires.there, c.loop-i.invariant.adds.extends.paths.longer) in
    record {
      adds = adds_on p c.args.self.now c.loop-i.self c.try_one.new.self c.loop-i.invariant.adds more;
      tried = tried_next p.start p.logs c.loop-i.self.reached c.try_one.new.self.reached at c.loop-i.i cs c.index.result.now more.extends there is
          c.loop-i.invariant.tried (c.in_ok-try_one.ensures.tried c.if-not-branch.false);
    }

pub returns-clause-tried : goal.returns-clause-tried
returns-clause-tried c = λ done.
    let p = c.args.here.plan.now in
    let cs = p.choices.items in
    let all : length cs ≤ c.loop-i.i = omega (arith, c.loop-i-test.false, c.len-i-end.ensures) in
    all_tried p.start p.logs c.loop-i.self.reached c.args.here.at c.loop-i.i cs c.requires.search.under_way.plan.choices all c.loop-i.invariant.tried

pub loop-i-init : goal.loop-i-init
loop-i-init c = record {
  adds = adds_none c.args.here.plan.now c.args.self.now c.args.self.now c.requires.search refl;
  tried = λ j lt. absurd (omega (arith, lt));
}
