-- What stays known of states.
use Rattle.std.proofs.Common.{◌≡◌, ◌∙◌, ◌<◌, ◌⊎◌, inl, inr, ℕ, zero, suc, List, [], ◌∷◌, ◌++◌, length, Some, slice_get, slice_index_or, true, refl, sym, ap, ap₂, arith, subst, length-append}
use Rattle.std.proofs.Math.Seq.{get_or-append_seam}
use Rattle.std.proofs.lemmas.List.{get_or_append_left}
use Rattle.std.proofs.lemmas.Option.{slice_get_within}
use Rattle.zy_isa.specs.Scenario.{Scenario}
use Rattle.zy_isa.specs.declared.choice.Choice.{Choice}
use Rattle.zy_isa.specs.declared.choice.Choice.TheVariants.{Start}
use Rattle.zy_isa.specs.Choices.{names_below}
use Rattle.zy_steps.specs.Reads.{uncounted}
use Rattle.zy_steps.specs.Alike.{Alike}
use Rattle.zy_table.specs.State.{State}
use Rattle.zy_table.specs.Play.{step}
use Rattle.zy_table.specs.declared.outcome.Outcome.{Outcome}
use Rattle.zy_state_ids.specs.Parts.{parts, IsNumbered, Keeps}
use Rattle.zy_state_ids.proofs.PartLemmas.{stay, alike_by_numbers}
use Rattle.zy_step_cache.specs.declared.explored.Explored.{Explored}
use Rattle.zy_step_cache.specs.declared.step_cache.StepCache.{StepCache}
use Rattle.zy_step_cache.specs.StepCaches.{choice_at, choices_of, IsTrue, Knows, Leads, Numbers}
use Rattle.zy_state_ids.specs.Packed.{items, commit}
use Rattle.zy_state_ids.proofs.States.{all, commit_is_code}
use Rattle.zy_step_cache.specs.Places.{commits_place}
use Rattle.zy_step_cache.specs.Places as places
use Rattle.zy_step_cache.proofs.Assembly.{gives}
use Rattle.zy_step_cache.proofs.Carried.{of_some, told}
use Rattle.zy_step_cache.proofs.Said.{bytes_are}

-- one of some states and one more
old_or_last : (xs : List State) (y x : State) (i : ℕ) → slice_get (xs ++ y ∷ []) i ≡ Some x → (slice_get xs i ≡ Some x) ⊎ ((i ≡ length xs) × (y ≡ x))
old_or_last [] y x zero e = inr (refl, of_some y x e)
old_or_last [] y x (suc i) e = cc
old_or_last (z ∷ xs) y x zero e = inl e
old_or_last (z ∷ xs) y x (suc i) e = elim (old_or_last xs y x i e) [ inl h ↦ inl h | inr h ↦ inr (ap suc h.0, h.1) ]

-- numbers that a table gives stay those of a state while it grows
pub numbers_stay : (old new : StepCache) (s : State) (numbers : List ℕ) → Keeps old.table new.table → new.part ≡ old.part → Numbers old s numbers → Numbers new s numbers
numbers_stay old new s numbers keeps part are =
    subst (λ p. IsNumbered new.table p numbers s) (sym part) (stay old.table new.table keeps numbers (parts old.part s) are)

-- what is known stays known while the cache grows
pub grown : (sc : Scenario) (e f : Explored) (states : List State) → f.vectors ≡ e.vectors → Keeps e.cache.table f.cache.table
    → f.cache.part ≡ e.cache.part → IsTrue sc f.cache → Knows sc e states → Knows sc f states
grown sc e f states vectors keeps part truth k = record {
  truth = truth;
  many = ap length vectors ∙ k.many;
  each = λ i s h.
      let known = k.each i s h in (
        numbers_stay e.cache f.cache s (slice_index_or f.vectors i []) keeps part
            (subst (λ vs. Numbers e.cache s (slice_index_or vs i [])) (sym vectors) known.0),
        known.1,
      );
}

-- one state more
pub pushed : (sc : Scenario) (e f : Explored) (states : List State) (s : State) (numbers : List ℕ) → f.vectors ≡ e.vectors ++ numbers ∷ []
    → f.cache ≡ e.cache → Knows sc e states → Numbers e.cache s numbers → length s.txns ≡ length sc.programs → Knows sc f (states ++ s ∷ [])
pushed sc e f states s numbers vectors cache k are many = record {
  truth = subst (IsTrue sc) (sym cache) k.truth;
  many = omega (arith, ap length vectors, length-append e.vectors (numbers ∷ []), length-append states (s ∷ []), k.many);
  each = λ i x h. elim (old_or_last states s x i h) [
    | inl old ↦
        let known = k.each i x old in
        let there : i < length e.vectors = omega (arith, slice_get_within states i x old, k.many) in
        let same = ap (λ vs. slice_index_or vs i []) vectors ∙ get_or_append_left e.vectors (numbers ∷ []) [] i there in (
          subst (λ (m : StepCache). Numbers m x (slice_index_or f.vectors i [])) (sym cache) (subst (Numbers e.cache x) (sym same) known.0),
          known.1,
        )
    | inr last ↦
        let at : i ≡ length e.vectors = omega (arith, last.0, k.many) in
        let same = ap₂ (λ vs j. slice_index_or vs j []) vectors at ∙ get_or-append_seam e.vectors numbers [] [] in (
          subst (λ (m : StepCache). Numbers m x (slice_index_or f.vectors i [])) (sym cache)
              (subst (Numbers e.cache x) (sym same) (subst (λ (y : State). Numbers e.cache y numbers) last.1 are)),
          subst (λ (y : State). length y.txns ≡ length sc.programs) last.1 many,
        )
  ];
}

-- numbers that are at a place are those of a state like the one there
pub found : (sc : Scenario) (e : Explored) (states : List State) (s t : State) (i : ℕ) (numbers : List ℕ) → slice_get e.vectors i ≡ Some numbers
    → Knows sc e states → slice_get states i ≡ Some s → Numbers e.cache t numbers → Alike e.cache.part s t
found sc e states s t i numbers at k there are =
    let known = k.each i s there in
    alike_by_numbers e.cache.table e.cache.part numbers s t (subst (Numbers e.cache s) (bytes_are e.vectors i numbers at) known.0) are

-- the same number stands for the same commits
pub commits_told : (sc : Scenario) (e : Explored) (states : List State) (s t : State) (place : ℕ) (numbers : List ℕ)
    → places.at (slice_index_or e.vectors place []) commits_place ≡ places.at numbers commits_place
    → Knows sc e states → slice_get states place ≡ Some s → Numbers e.cache t numbers → t.commits ≡ s.commits
commits_told sc e states s t place numbers same k at are =
    let table = e.cache.table in
    let part = e.cache.part in
    let mine = gives table (slice_index_or e.vectors place []) (parts part s) (k.each place s at).0 commits_place (items commit s.commits) refl in
    let its = gives table numbers (parts part t) are commits_place (items commit t.commits) refl in
    told (items commit) (all commit commit_is_code) t.commits s.commits (sym its ∙ (ap (slice_get table) (sym same) ∙ mine))

-- a place is one of a known state
pub is_place : (sc : Scenario) (e : Explored) (states : List State) (i : ℕ) (numbers : List ℕ) → slice_get e.vectors i ≡ Some numbers → Knows sc e states
    → i < length states
is_place sc e states i numbers at k = omega (arith, slice_get_within e.vectors i numbers at, k.many)

-- a step is remembered that has happened: the cache went from that of e to `middle` when the numbers after it were taken, and then to that of f
pub remembered : (sc : Scenario) (e f : Explored) (middle : StepCache) (states : List State) (s after : State) (choice place : ℕ) (next : List ℕ) (o : Outcome)
    → f.vectors ≡ e.vectors → Keeps e.cache.table middle.table → middle.part ≡ e.cache.part → choices_of middle ≡ choices_of e.cache
    → (IsTrue sc e.cache → IsTrue sc middle) → f.cache.table ≡ middle.table → f.cache.part ≡ middle.part → Numbers middle after next
    → (IsTrue sc middle → Numbers middle s (slice_index_or e.vectors place []) → Leads sc middle (choice_at middle choice) s next o
    → length s.txns ≡ length sc.programs → names_below (length sc.programs) (choice_at middle choice) ≡ true → IsTrue sc f.cache)
    → Knows sc e states → slice_get states place ≡ Some s → after ≡ (step sc (choice_at e.cache choice) s).after
    → uncounted o ≡ uncounted (step sc (choice_at e.cache choice) s).outcome → names_below (length sc.programs) (choice_at e.cache choice) ≡ true
    → Knows sc f states
remembered sc e f middle states s after choice place next o vectors keeps part choices truth table part' are learn k at is outcome named =
    let same = ap (λ cs. slice_index_or cs choice Start) choices in
    let known = k.each place s at in
    let before = numbers_stay e.cache middle s (slice_index_or e.vectors place []) keeps part known.0 in
    let leads : Leads sc middle (choice_at e.cache choice) s next o = (subst (λ (x : State). Numbers middle x next) is are, sym outcome) in
    let true' = learn (truth k.truth) before (subst (λ (c : Choice). Leads sc middle c s next o) (sym same) leads) known.1
    (subst (λ (c : Choice). names_below (length sc.programs) c ≡ true) (sym same) named) in
    let keeps' : Keeps e.cache.table f.cache.table = λ i x h. ap (λ t. slice_get t i) table ∙ keeps i x h in
    grown sc e f states vectors keeps' (part' ∙ part) true' k
