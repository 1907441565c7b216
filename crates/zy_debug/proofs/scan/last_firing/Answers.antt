use Rattle.std.proofs.Common.{◌≡◌, ◌∙◌, sym, refl, length, arith}
use Rattle.zy_debug.proofs.ScanLemmas.{told, seen_again, last_more, slot_last}
use Rattle.zy_debug.proofs.scan.last_firing.Goals as goal
use Rattle.zy_debug.proofs.scan.last_firing.Goals.{in-Some, in-None}

pub loop-m-preserved : goal.loop-m-preserved
loop-m-preserved c =
    let sc = c.args.machine.now.scenario in
    let i = c.loop-m.invariant in
    let t =
    rw i.position at (told c.loop-m.machine c.advance.new.machine sc c.args.slots.now c.deref.result.now
    (length c.loop-m.machine.entries) c.in_ok-outcome.outcome i.follows c.advance.ensures.follows i.scenario c.advance.ensures.scenario
    refl c.in_ok-outcome.ensures.position (c.deref.ensures.value ∙ i.watched) c.in_ok-outcome.ensures.outcome) in
    record {
      scenario = c.advance.ensures.scenario ∙ i.scenario;
      follows = c.advance.ensures.follows;
      position = omega (arith, c.in_ok-outcome.ensures.position, i.position);
      watched = rw (c.renew.ensures, i.watched) (seen_again c.loop-m.machine.state c.advance.new.machine.state c.args.slots.now);
      last = elim c.match-first.branch [
        | in-Some w ↦ rw w.last-is (record {
          above = omega (arith, c.loop-m.auto.m, c.len-m.ensures.value);
          below = omega arith;
          fires = sym t ∙ (sym c.first.ensures ∙ w.in-Some.is);
          greatest = λ k a b. absurd (omega (arith, a, b));
        })
        | in-None w ↦
            rw w.last-is (last_more sc c.args.slots.now (length c.args.machine.now.entries) c.loop-m.m c.loop-m.last i.last
            (sym t ∙ (sym c.first.ensures ∙ w.in-None.is)))
      ];
    }

pub returns-clause-found : goal.returns-clause-found
returns-clause-found c =
    let same : c.loop-m.m ≡ c.args.end = omega (arith, c.loop-m-test.false, c.loop-m.auto.m, c.loop-m.auto.m-end, c.len-m.ensures.value, c.requires.below) in
    rw same at c.loop-m.invariant.last

pub returns-clause-slot : goal.returns-clause-slot
returns-clause-slot c = slot_last c.args.machine.now.scenario c.args.slots.now _ _ _ (returns-clause-found c)
