-- The next step is the first of those that are left.
use Rattle.std.proofs.Common.{◌<◌, ◌∙◌, ℕ, List, [], Err, ap, arith, length, subst, sym}
use Rattle.std.specs.List.{flat_map}
use Rattle.std.specs.Io.KnownBytes.{Appends}
use Rattle.std.proofs.KnownBytes.{Appends-trans}
use Rattle.std.proofs.lemmas.List.{take_all}
use Rattle.std.proofs.lemmas.Result.{err_from_is_err_and}
use Rattle.zy_io.specs.Writing.{line_of, Wrote}
use Rattle.zy_io.proofs.WritingLemmas.{Wrote-element-stops}
use Rattle.zy_isa.specs.Scenario.{Scenario}
use Rattle.zy_machine.specs.Histories.{History}
use Rattle.zy_table.specs.Play.{opening}
use Rattle.zy_trace.specs.Steps.{with_next}
use Rattle.zy_trace.proofs.TraceLemmas.{block-left, blocks, blocks-more, length-blocks, next-block, ran-left, ran-next, steps-blocks}
use Rattle.zy_trace.proofs.trace.write_steps.Goals as goal

pub write_step-requires-clause-more : goal.write_step-requires-clause-more
write_step-requires-clause-more g c =
    let sc = c.args.now.now.scenario in
    let all = c.choices-end.ensures.value ∙ ap (λ (s : Scenario). s.choices) c.scenario.ensures.value in
    let lt : c.loop.counter < length sc.choices = omega (arith, ap length all, c.loop-test.true) in
    subst (λ (h : History). length h.entries < length h.scenario.choices) (sym c.loop.invariant.made) (ran-left sc c.loop.counter lt)

pub loop-preserved : goal.loop-preserved
loop-preserved g c =
    let sc = c.args.now.now.scenario in
    let form = c.args.form in
    let i = c.loop.counter in
    let all = c.choices-end.ensures.value ∙ ap (λ (s : Scenario). s.choices) c.scenario.ensures.value in
    let lt : i < length sc.choices = omega (arith, ap length all, c.loop-test.true) in
    let made = c.loop.invariant.made in
    let step = c.in_ok-write_step.ensures in
    record {
      alike = step.alike;
      made = step.made ∙ (ap with_next made ∙ ran-next sc i lt);
      so_far = subst (Appends _ _) (sym (blocks-more form sc i lt))
          (Appends-trans _ _ _ _ _ c.loop.invariant.so_far (subst (Appends _ _) (next-block form sc i lt c.loop.now made) step.wrote.0));
      none_failed = step.wrote.1 ∙ c.loop.invariant.none_failed;
    }

pub returns-in_err-write_step-clause-wrote : goal.returns-in_err-write_step-clause-wrote
returns-in_err-write_step-clause-wrote g c =
    let sc = c.args.now.now.scenario in
    let form = c.args.form in
    let i = c.loop.counter in
    let all = c.choices-end.ensures.value ∙ ap (λ (s : Scenario). s.choices) c.scenario.ensures.value in
    let lt : i < length sc.choices = omega (arith, ap length all, c.loop-test.true) in
    let p = err_from_is_err_and c.from_residual.result c.from_residual.ensures.1 in
    let fault = c.in_err-write_step.field-0.0 in
    let Text : List ℕ → Type 0 = λ text. Wrote (g.K.Sink.sent c.loop.sink) (g.K.Sink.sent c.write_step.new.sink) {X = Unit {0}} (Err fault) text in
    rw steps-blocks
    (Wrote-element-stops _ _ _ (flat_map line_of) (blocks form sc 1 (opening sc) sc.choices) i [] fault _ (block-left form sc i lt) c.loop.invariant.so_far
    c.loop.invariant.none_failed (subst Text (next-block form sc i lt c.loop.now c.loop.invariant.made) c.in_err-write_step.ensures.wrote)
    (p.1 ∙ ap Err p.2))

pub returns-clause-wrote : goal.returns-clause-wrote
returns-clause-wrote g c =
    let sc = c.args.now.now.scenario in
    let form = c.args.form in
    let all = c.choices-end.ensures.value ∙ ap (λ (s : Scenario). s.choices) c.scenario.ensures.value in
    let whole = take_all c.loop.counter (blocks form sc 1 (opening sc) sc.choices)
    (omega (arith, length-blocks form sc 1 (opening sc) sc.choices, ap length all, c.loop-test.false)) in
    rw steps-blocks (subst (Appends _ _) (ap (flat_map (flat_map line_of)) whole) c.loop.invariant.so_far, c.loop.invariant.none_failed)
