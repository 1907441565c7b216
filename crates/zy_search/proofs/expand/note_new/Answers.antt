use Rattle.std.proofs.Common.{arith}
use Rattle.zy_search.proofs.AheadLemmas.{adds, stays}
use Rattle.zy_search.proofs.ReachedLemmas.{scratch_grown}
use Rattle.zy_search.proofs.TurnLemmas.{full, noted, shown_next}
use Rattle.zy_search.proofs.expand.note_new.Goals as goal

pub returns-then-branch : goal.returns-then-branch
returns-then-branch c = record {
  meets = record {
    well = shown_next c.args.plan.now c.args.reached.now.tree c.args.branch c.requires.ready.turn c.requires.moved c.in_ok-shows_next.field-0
        c.in_ok-shows_next.ensures.shows c.if-branch.true;
    informed = c.requires.ready.informed;
    machines = c.in_ok-shows_next.ensures.scratch;
  };
  goes_on = stays c.args.reached.now;
}

pub returns-then-plan-len : goal.returns-then-plan-len
returns-then-plan-len c = record {
  meets = record {
    well = full c.args.plan.now c.args.reached.now.tree c.args.branch c.requires.ready.turn (omega (arith, c.if-plan-len.true, c.len.ensures.value));
    informed = c.requires.ready.informed;
    machines = c.in_ok-shows_next.ensures.scratch;
  };
  goes_on = stays c.args.reached.now;
}

pub returns : goal.returns
returns c =
    let p = c.args.plan.now in
    let old = c.args.reached.now in
    let b = c.args.branch in
    let turn = c.requires.ready.turn in
    let pushed = c.in_ok-push.ensures in
    let well = noted p old.tree b turn c.requires.moved c.in_ok-shows_next.field-0 c.in_ok-shows_next.ensures.shows c.push.new.self.tree c.if-branch.false
    pushed.paths in
    record {
      meets = record {
        well = well;
        informed = pushed.informed p c.requires.ready.informed c.requires.numbers;
        machines = scratch_grown p.start old.tree c.push.new.self.tree b.from _ well.grows turn.ready.there c.in_ok-shows_next.ensures.scratch;
      };
      goes_on = adds old c.push.new.self well.grows pushed.cache;
    }
