use Rattle.std.proofs.Common.{List, [], ◌∷◌, ◌++◌, true, false, get_or, ap, sym, ◌∙◌}
use Rattle.zy_isa.specs.declared.choice.Choice.{Choice}
use Rattle.zy_isa.specs.declared.choice.Choice.TheVariants.{Start}
use Rattle.zy_threads.proofs.TurnLemmas.{sub_take}
use Rattle.zy_threads.proofs.board.choices_by.Goals as goal
use Rattle.zy_threads.proofs.board.choices_by.Goals.{then-is_of+in_ok-push, else-is_of}

pub loop-choice-preserved : goal.loop-choice-preserved
loop-choice-preserved c =
    elim c.if-is_of.branch [
      | then-is_of+in_ok-push w ↦
          ap (λ v. v.items) w.found-is ∙ w.in_ok-push.ensures.items ∙ ap (λ (l : List Choice). l ++ get_or c.args.choices.now c.loop-choice.choice-index Start
          ∷ []) c.loop-choice.invariant ∙ sym (sub_take c.args.actor c.args.choices.now c.loop-choice.choice-index Start true c.loop-choice-test.true
          (sym c.is_of.ensures ∙ w.if-is_of.true))
      | else-is_of w ↦
          ap (λ v. v.items) w.found-is ∙ c.loop-choice.invariant
          ∙ sym (sub_take c.args.actor c.args.choices.now c.loop-choice.choice-index Start false c.loop-choice-test.true
          (sym c.is_of.ensures ∙ w.if-is_of.false))
    ]
