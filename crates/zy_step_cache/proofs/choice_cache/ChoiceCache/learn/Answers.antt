use Rattle.std.proofs.Common.{◌∙◌, ap, subst, sym}
use Rattle.zy_steps.specs.Reads.{uncounted}
use Rattle.zy_step_cache.specs.Steps.{AreTrue}
use Rattle.zy_step_cache.proofs.ChoiceCacheLemmas.{learned}
use Rattle.zy_step_cache.proofs.choice_cache.ChoiceCache.learn.Goals as goal

pub returns-clause-steps : goal.returns-clause-steps
returns-clause-steps c sc part s each before after many named outcome =
    let note = c.note_of-step.ensures in
    subst (λ choice. AreTrue sc c.args.table.now part choice c.keep.new.self.steps.items) (sym c.in_ok-keep.ensures.choice)
    (learned sc c.args.table.now part c.args.self.now.choice c.args.self.now.steps.items c.keep.new.self.steps.items c.note_of-step.result s c.in-Some.scope
    c.args.before.now c.args.after.now each c.in_ok-keep.ensures.steps before after many named c.in-Some.ensures note.scope note.read note.written
    (ap uncounted note.outcome ∙ outcome))
