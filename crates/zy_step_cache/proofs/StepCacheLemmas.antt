-- What is remembered of each choice.
use Rattle.std.proofs.Common.{◌≡◌, ◌∙◌, ◌<◌, ℕ, zero, suc, List, [], ◌∷◌, length, map, slice_index_or, slice_set, Contains, sym, ap, arith, subst}
use Rattle.std.specs.List.{All}
use Rattle.std.proofs.lemmas.List.Elements.{All-contains}
use Rattle.zy_isa.specs.Scenario.{Scenario}
use Rattle.zy_isa.specs.declared.choice.Choice.{Choice}
use Rattle.zy_steps.specs.declared.part.StatePart.{StatePart}
use Rattle.zy_steps.specs.Reads.{uncounted}
use Rattle.zy_table.specs.State.{State}
use Rattle.zy_table.specs.Play.{step}
use Rattle.zy_state_ids.specs.Parts.{IsNumbered, Keeps}
use Rattle.zy_step_cache.specs.declared.choice_cache.ChoiceCache.{ChoiceCache}
use Rattle.zy_step_cache.specs.declared.choice_cache.CachedStep.{CachedStep}
use Rattle.zy_step_cache.specs.Places.{places, reads}
use Rattle.zy_step_cache.specs.Steps.{put_at, Happened, AreTrue}
use Rattle.zy_step_cache.proofs.Again.{written_again, outcome_again}
use Rattle.zy_step_cache.proofs.Growth.{happened_stays}

-- where no step is remembered each one happened
pub none_true : (sc : Scenario) (table : List (List ℕ)) (part : StatePart) (caches : List ChoiceCache) → All (λ (x : ChoiceCache). x.steps.items ≡ []) caches
    → All (λ (x : ChoiceCache). AreTrue sc table part x.choice x.steps.items) caches
none_true sc table part caches none k d h =
    let choice_cache : ChoiceCache = slice_index_or caches k d in
    subst (λ (steps : List CachedStep). AreTrue sc table part choice_cache.choice steps) (sym (none k d h)) (λ i e lt. absurd (omega (arith, lt)))

-- what happened stays so while the table grows
pub true_stays : (sc : Scenario) (old new : List (List ℕ)) (part : StatePart) (caches : List ChoiceCache) → Keeps old new
    → All (λ (x : ChoiceCache). AreTrue sc old part x.choice x.steps.items) caches → All (λ (x : ChoiceCache). AreTrue sc new part x.choice x.steps.items) caches
true_stays sc old new part caches keeps each k d h i e lt =
    let choice_cache : ChoiceCache = slice_index_or caches k d in
    let r : CachedStep = slice_index_or choice_cache.steps.items i e in
    happened_stays old new keeps sc part choice_cache.choice r.scope r.read r.written r.outcome (each k d h i e lt)

-- ---- one of some caches

-- the choice at a place
pub choice_is : (caches : List ChoiceCache) (i : ℕ) (x : ChoiceCache) (d : Choice) → i < length caches → x ≡ slice_index_or caches i x
    → slice_index_or (map (λ (y : ChoiceCache). y.choice) caches) i d ≡ x.choice
choice_is [] i x d h is = absurd (omega (arith, h))
choice_is (m ∷ ms) zero x d h is = ap (λ (y : ChoiceCache). y.choice) (sym is)
choice_is (m ∷ ms) (suc i) x d h is = choice_is ms i x d (omega (arith, h)) is

-- one of the same choice takes its place
pub choices_stay : (caches : List ChoiceCache) (i : ℕ) (x new : ChoiceCache) → i < length caches → x ≡ slice_index_or caches i x → new.choice ≡ x.choice
    → map (λ (y : ChoiceCache). y.choice) (slice_set caches i new) ≡ map (λ (y : ChoiceCache). y.choice) caches
choices_stay [] i x new h is e = absurd (omega (arith, h))
choices_stay (m ∷ ms) zero x new h is e = ap (λ c. c ∷ map (λ (y : ChoiceCache). y.choice) ms) (e ∙ ap (λ (y : ChoiceCache). y.choice) is)
choices_stay (m ∷ ms) (suc i) x new h is e = ap (λ cs. m.choice ∷ cs) (choices_stay ms i x new (omega (arith, h)) is e)

-- what holds of each holds of the one at a place
pub each_at : (P : ChoiceCache → Type 0) (caches : List ChoiceCache) (i : ℕ) (x : ChoiceCache) → i < length caches → x ≡ slice_index_or caches i x → All P caches → P x
each_at P caches i x h is each = subst P (sym is) (each i x h)

-- what a remembered step wrote leads on
pub leads : (sc : Scenario) (table : List (List ℕ)) (part : StatePart) (c : Choice) (steps : List CachedStep) (r : CachedStep) (s : State) (numbers : List ℕ)
    → AreTrue sc table part c steps → Contains steps r → r.read ≡ reads table c r.scope numbers → IsNumbered table part numbers s
    → length s.txns ≡ length sc.programs
    → IsNumbered table part (put_at numbers (places table c r.scope numbers) r.written) (step sc c s).after
    × (uncounted (step sc c s).outcome ≡ uncounted r.outcome)
leads sc table part c steps r s numbers each there read are many =
    let P : CachedStep → Type 0 = λ x. Happened sc table part c x.scope x.read x.written x.outcome in
    let was = All-contains P steps r each there in (
      written_again sc part table c r.scope r.read r.written r.outcome was s numbers are many read,
      outcome_again sc part table c r.scope r.read r.written r.outcome was s numbers are many read,
    )
