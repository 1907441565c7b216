-- What is kept of a step that happened.
use Rattle.std.proofs.Common.{◌≡◌, ◌∙◌, ℕ, zero, suc, List, [], ◌∷◌, ◌++◌, length, map, Option, Some, None, true, sym, ap, arith, subst}
use Rattle.std.specs.Prelude.{IfSome}
use Rattle.std.specs.List.{All}
use Rattle.std.proofs.lemmas.List.Elements.{All-append}
use Rattle.zy_isa.specs.declared.choice.Choice.{Choice}
use Rattle.zy_isa.specs.Choices.{names_below}
use Rattle.zy_isa.specs.Scenario.{Scenario}
use Rattle.zy_steps.specs.Reads.{uncounted}
use Rattle.zy_steps.specs.declared.part.StatePart.{StatePart}
use Rattle.zy_table.specs.State.{State}
use Rattle.zy_table.specs.Play.{step}
use Rattle.zy_state_ids.specs.Parts.{IsNumbered}
use Rattle.zy_step_cache.specs.declared.choice_cache.CachedStep.{CachedStep}
use Rattle.zy_step_cache.specs.declared.places.Scope.{Scope}
use Rattle.zy_step_cache.specs.Places.{at, places, reads}
use Rattle.zy_step_cache.specs.Steps.{Happened, AreTrue, IsInScope}

-- what follows for whatever there is
pub if_some : {X : Type 0} (P Q : X → Type 0) (o : Option X) → ((x : X) → P x → Q x) → IfSome o P → IfSome o Q
if_some P Q None f p = p
if_some P Q (Some x) f p = f x p

-- what follows from two facts of whatever there is
pub if_both : {X : Type 0} (P Q R : X → Type 0) (o : Option X) → ((x : X) → P x → Q x → R x) → IfSome o P → IfSome o Q → IfSome o R
if_both P Q R None f p q = p
if_both P Q R (Some x) f p q = f x p q

-- a list of one
one : {X : Type 0} (P : X → Type 0) (x : X) → P x → All P (x ∷ [])
one P x p zero d h = p
one P x p (suc k) d h = absurd (omega (arith, h))

-- one more step that happened is kept
pub learned : (sc : Scenario) (table : List (List ℕ)) (part : StatePart) (c : Choice) (old new : List CachedStep) (r : CachedStep) (s : State) (k : Scope)
    (before after : List ℕ) → AreTrue sc table part c old → new ≡ old ++ r ∷ [] → IsNumbered table part before s
    → IsNumbered table part after (step sc c s).after → length s.txns ≡ length sc.programs → names_below (length sc.programs) c ≡ true
    → IsInScope c k before after → r.scope ≡ k → r.read ≡ reads table c k before → r.written ≡ map (at after) (places table c k before)
    → uncounted r.outcome ≡ uncounted (step sc c s).outcome → AreTrue sc table part c new
learned sc table part c old new r s k before after each more is_before is_after many named within scope read written outcome =
    let P : CachedStep → Type 0 = λ x. Happened sc table part c x.scope x.read x.written x.outcome in
    let this : P r = record {
      state = s;
      before = before;
      after = after;
      is_before = is_before;
      is_after = is_after;
      many = many;
      named = named;
      in_scope = subst (λ y. IsInScope c y before after) (sym scope) within;
      read = read ∙ ap (λ y. reads table c y before) (sym scope);
      wrote = written ∙ ap (λ y. map (at after) (places table c y before)) (sym scope);
      outcome = outcome;
    } in
    subst (λ xs. All P xs) (sym more) (All-append P old (r ∷ []) each (one P r this))
