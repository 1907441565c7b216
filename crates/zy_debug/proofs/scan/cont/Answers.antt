use Rattle.std.proofs.Common.{◌≡◌, ◌∙◌, ◌+◌, sym, length, arith, Some}
use Rattle.zy_debug.specs.Stops.{firing}
use Rattle.zy_debug.proofs.ScanLemmas.{told, seen_again, none_more, slot_next}
use Rattle.zy_debug.proofs.scan.cont.Goals as goal

pub returns-in-Some-clause-stops : goal.returns-in-Some-clause-stops
returns-in-Some-clause-stops c =
    let sc = c.args.machine.now.scenario in
    let pos : length c.advance.new.machine.entries ≡ c.loop.counter + 1 = omega (arith, c.in_ok-outcome.ensures.position, c.loop.invariant.position) in
    let t = told c.loop.machine c.advance.new.machine sc c.args.slots.now c.deref.result.now c.loop.counter c.in_ok-outcome.outcome c.loop.invariant.follows
    c.advance.ensures.follows c.loop.invariant.scenario c.advance.ensures.scenario
    c.loop.invariant.position c.in_ok-outcome.ensures.position (c.deref.ensures.value ∙ c.loop.invariant.watched) c.in_ok-outcome.ensures.outcome in
    rw pos (record {
      above = omega (arith, c.loop.auto.counter, c.len-counter.ensures.value);
      most = rw (c.advance.ensures.scenario, c.loop.invariant.scenario, pos) at c.advance.ensures.follows.most;
      fires = sym t ∙ (sym c.first.ensures ∙ c.in-Some.is);
      least = λ k a b. c.loop.invariant.none k a (omega (arith, b));
    })

pub returns-in-Some-clause-slot : goal.returns-in-Some-clause-slot
returns-in-Some-clause-slot c = slot_next c.args.machine.now.scenario c.args.slots.now (length c.args.machine.now.entries) (Some c.in-Some.i)
    (length c.advance.new.machine.entries) (returns-in-Some-clause-stops c)

pub loop-preserved : goal.loop-preserved
loop-preserved c =
    let sc = c.args.machine.now.scenario in
    let pos : length c.advance.new.machine.entries ≡ c.loop.counter + 1 = omega (arith, c.in_ok-outcome.ensures.position, c.loop.invariant.position) in
    let t = told c.loop.machine c.advance.new.machine sc c.args.slots.now c.deref.result.now c.loop.counter c.in_ok-outcome.outcome c.loop.invariant.follows
    c.advance.ensures.follows c.loop.invariant.scenario c.advance.ensures.scenario
    c.loop.invariant.position c.in_ok-outcome.ensures.position (c.deref.ensures.value ∙ c.loop.invariant.watched) c.in_ok-outcome.ensures.outcome in
    record {
      scenario = c.advance.ensures.scenario ∙ c.loop.invariant.scenario;
      follows = c.advance.ensures.follows;
      position = pos;
      watched = rw (c.renew.ensures, c.loop.invariant.watched) (seen_again c.loop.machine.state c.advance.new.machine.state c.args.slots.now);
      none = none_more (firing sc c.args.slots.now) (length c.args.machine.now.entries) c.loop.counter c.loop.invariant.none
          (sym t ∙ (sym c.first.ensures ∙ c.in-None.is));
    }
