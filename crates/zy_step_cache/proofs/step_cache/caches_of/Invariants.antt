-- A cache for each choice so far, with no step.
use Rattle.std.proofs.Common.{◌≡◌, [], map, take}
use Rattle.std.specs.List.{All}
use Rattle.zy_step_cache.specs.declared.choice_cache.ChoiceCache.{ChoiceCache}
use Rattle.zy_step_cache.proofs.step_cache.caches_of.Given as goal

abbrev pub invariant-loop-choice : goal.invariant-loop-choice
invariant-loop-choice l = record {
  choices : map (λ (x : ChoiceCache). x.choice) l.caches.items ≡ take l.choice-index l.choices;
  none : All (λ (x : ChoiceCache). x.steps.items ≡ []) l.caches.items;
}
