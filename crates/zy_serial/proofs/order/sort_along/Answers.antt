use Rattle.std.proofs.Common.{◌≡◌, ◌∙◌, ◌++◌, ◌<◌, length, ap, sym, subst, arith}
use Rattle.std.proofs.lemmas.List.{drop_all}
use Rattle.std.proofs.lemmas.Result.{IfOk-weaker}
use Rattle.zy_laws.specs.SourceFirst.{SerialIn, Sorted, sorted, migration_order}
use Rattle.zy_machine.specs.Histories.{choices_of}
use Rattle.zy_machine.proofs.HistoryLemmas.{length-choices_of}
use Rattle.zy_serial.proofs.OrderLemmas.{named_there, sorted_next}
use Rattle.zy_serial.proofs.order.sort_along.Goals as goal

pub advance-requires-clause-named : goal.advance-requires-clause-named
advance-requires-clause-named c =
    let m = c.args.machine.now in
    let es = c.entries-entry-items.ensures.value in
    let below = c.loop-entry-test.true in
    rw (c.loop-entry.invariant.scenario, es)
    (named_there (length m.scenario.programs) m.entries c.loop-entry.entry-index _ c.entries-entry-items.ensures.replay.named (omega (arith, below, ap length es)))

pub loop-entry-preserved : goal.loop-entry-preserved
loop-entry-preserved c =
    let m = c.args.machine.now in
    let i = c.loop-entry.entry-index in
    let es = c.entries-entry-items.ensures.value in
    let before = c.loop-entry.invariant in
    let made = c.in_ok-advance.ensures in
    let below : i < length m.entries = omega (arith, c.loop-entry-test.true, ap length es) in
    record {
      scenario = made.scenario ∙ before.scenario;
      count = omega (arith, made.count, before.count);
      sorts = sorted_next m.scenario m.entries i _ c.loop-entry.replay.state c.advance.new.machine.state c.loop-entry.sorted c.advance.new.sorted below
          (rw (before.scenario, es) at made.state) (rw (before.scenario, es) at made.sorted) ∙ before.sorts;
    }

-- at the end of the loop all commits are sorted
all_sorted : (c : goal.After-joined) → c.loop-entry.sorted.first ++ c.loop-entry.sorted.later
    ≡ migration_order c.args.machine.now.scenario (choices_of c.args.machine.now.entries)
all_sorted c =
    let m = c.args.machine.now in
    let choices = choices_of m.entries in
    let over = c.loop-entry-test.false in
    let none_left = drop_all c.loop-entry.entry-index choices (omega (arith, over, ap length c.entries-entry-items.ensures.value, length-choices_of m.entries)) in
    let sorts = sym (ap (λ cs. sorted m.scenario c.loop-entry.replay.state cs c.loop-entry.sorted) none_left) ∙ c.loop-entry.invariant.sorts in
    ap (λ (o : Sorted). o.first ++ o.later) sorts

pub returns-clause-order : goal.returns-clause-order
returns-clause-order c = IfOk-weaker c.joined.result _ _ (λ order e. e ∙ all_sorted c) c.joined.ensures

pub returns-clause-serial : goal.returns-clause-serial
returns-clause-serial c =
    let m = c.args.machine.now in
    let choices = choices_of m.entries in
    let replay = c.entries-entry-items.ensures.replay in
    let law : SerialIn (migration_order m.scenario choices) m.scenario m.state =
    subst (SerialIn (migration_order m.scenario choices) m.scenario) (sym replay.state) (c.strictly_serializable.ensures m.scenario replay.tested choices).serial in
    IfOk-weaker c.joined.result _ _ (λ order e. subst (λ os. SerialIn os m.scenario m.state) (sym (e ∙ all_sorted c)) law) c.joined.ensures
