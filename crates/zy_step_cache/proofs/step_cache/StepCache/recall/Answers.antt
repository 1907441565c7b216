use Rattle.std.proofs.Common.{◌≡◌, Contains, subst, sym}
use Rattle.zy_isa.specs.declared.choice.Choice.{Choice}
use Rattle.zy_isa.specs.declared.choice.Choice.TheVariants.{Start}
use Rattle.zy_step_cache.specs.declared.choice_cache.ChoiceCache.{ChoiceCache}
use Rattle.zy_step_cache.specs.StepCaches.{Leads}
use Rattle.zy_step_cache.specs.Places.{places, reads}
use Rattle.zy_step_cache.specs.Steps.{put_at, AreTrue}
use Rattle.zy_step_cache.proofs.ChoiceCacheLemmas.{if_both}
use Rattle.zy_step_cache.proofs.StepCacheLemmas.{choice_is, each_at, leads}
use Rattle.zy_step_cache.proofs.step_cache.StepCache.recall.Goals as goal

pub returns : goal.returns
returns c =
    let m = c.args.self.now in
    let choice_cache = c.index.result.now in
    let i = c.args.place in
    let numbers = c.args.numbers.now in
    if_both (λ r. Contains choice_cache.steps.items r.now) (λ r. r.now.read ≡ reads m.table choice_cache.choice r.now.scope numbers) _ c.recall.result
    (λ r there read sc s each before many.
    let is = choice_is m.caches.items i choice_cache Start c.requires c.index.ensures in
    let this = each_at (λ (x : ChoiceCache). AreTrue sc m.table m.part x.choice x.steps.items) m.caches.items i choice_cache c.requires c.index.ensures each in
    subst (λ (x : Choice). Leads sc m x s (put_at numbers (places m.table x r.now.scope numbers) r.now.written) r.now.outcome) (sym is)
    (leads sc m.table m.part choice_cache.choice choice_cache.steps.items r.now s numbers this there read before many))
    c.recall.ensures.there c.recall.ensures.read
