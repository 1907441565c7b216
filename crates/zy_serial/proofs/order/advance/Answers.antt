use Rattle.std.proofs.Common.{◌≡◌, ◌∙◌, List, length, drop, ap}
use Rattle.zy_isa.specs.declared.node.Node.{Node}
use Rattle.zy_laws.specs.SourceFirst.{sorted_step}
use Rattle.zy_model.specs.Families.{is_source}
use Rattle.zy_table.specs.Play.{side_of, step}
use Rattle.zy_table.specs.State.{State, facing}
use Rattle.zy_table.specs.declared.entry.CommitRecord.{CommitRecord}
use Rattle.zy_serial.proofs.OrderLemmas.{drop_min}
use Rattle.zy_serial.proofs.order.advance.Goals as goal

pub returns-clause-sorted : goal.returns-clause-sorted
unfolding sorted_step
returns-clause-sorted c =
    let m = c.args.machine.now in
    let n = side_of m.scenario c.args.choice m.state in
    let after = (step m.scenario c.args.choice m.state).after in
    let side : c.side_of-node.result ≡ n = c.side_of-node.ensures in
    let was : c.is_source-was_source.result ≡ is_source (facing n m.state).me.mode =
    c.is_source-was_source.ensures ∙ ap is_source (c.mode.ensures ∙ ap (λ (k : Node). (facing k m.state).me.mode) side) in
    let here : c.is_source-now_source.result ≡ is_source (facing n after).me.mode =
    c.is_source-now_source.ensures ∙ ap is_source (c.mode-2.ensures ∙ (ap (λ (k : Node). (facing k c.step.new.self.state).me.mode) side
    ∙ ap (λ (s : State). (facing n s).me.mode) c.in_ok-step.ensures.state)) in
    let commits = c.commits-commits.ensures ∙ ap (λ (s : State). s.commits) c.in_ok-step.ensures.state in
    let held = c.commits-commits.result.now in
    let new : c.split_at.result.1.now ≡ drop (length m.state.commits) after.commits =
    c.split_at.ensures.back ∙ (ap (λ k. drop k held) c.min.ensures ∙ (drop_min (length c.commits-seen.result.now) held
    ∙ (ap (λ (xs : List CommitRecord). drop (length xs) held) c.commits-seen.ensures ∙ ap (drop (length m.state.commits)) commits))) in
    rw (← was, ← here, ← new) c.add.ensures
