use Rattle.std.proofs.Common.{◌≡◌, true, length, subst, sym}
use Rattle.std.proofs.lemmas.List.Elements.{All-set}
use Rattle.zy_isa.specs.Choices.{names_below}
use Rattle.zy_isa.specs.declared.choice.Choice.{Choice}
use Rattle.zy_isa.specs.declared.choice.Choice.TheVariants.{Start}
use Rattle.zy_step_cache.specs.declared.choice_cache.ChoiceCache.{ChoiceCache}
use Rattle.zy_step_cache.specs.StepCaches.{Leads}
use Rattle.zy_step_cache.specs.Steps.{AreTrue}
use Rattle.zy_step_cache.proofs.StepCacheLemmas.{choice_is, choices_stay, each_at}
use Rattle.zy_step_cache.proofs.step_cache.StepCache.learn.Goals as goal

pub returns-in_err-learn-clause-choices : goal.returns-in_err-learn-clause-choices
returns-in_err-learn-clause-choices c =
    choices_stay c.args.self.now.caches.items c.args.place c.index_mut.result.now c.learn.new.self c.requires.there c.index_mut.ensures.value c.in_err-learn.ensures.choice

pub returns-clause-choices : goal.returns-clause-choices
returns-clause-choices c =
    choices_stay c.args.self.now.caches.items c.args.place c.index_mut.result.now c.learn.new.self c.requires.there c.index_mut.ensures.value c.in_ok-learn.ensures.choice

pub returns-clause-truth : goal.returns-clause-truth
returns-clause-truth c sc s each before after many named =
    let old = c.args.self.now in
    let choice_cache = c.index_mut.result.now in
    let P : ChoiceCache → Type 0 = λ x. AreTrue sc old.table old.part x.choice x.steps.items in
    let is = choice_is old.caches.items c.args.place choice_cache Start c.requires.there c.index_mut.ensures.value in
    let this = each_at P old.caches.items c.args.place choice_cache c.requires.there c.index_mut.ensures.value each in
    let leads = subst (λ (x : Choice). Leads sc old x s c.args.after.now c.args.outcome) is after in
    All-set P old.caches.items c.args.place c.learn.new.self
    (c.in_ok-learn.ensures.steps sc old.part s this before leads.0 many (subst (λ (x : Choice). names_below (length sc.programs) x ≡ true) is named) (sym leads.1)) each
