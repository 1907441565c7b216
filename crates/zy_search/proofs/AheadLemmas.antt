-- What is known ahead stays known while a search goes on.
use Rattle.std.proofs.Common.{◌≡◌, ◌∙◌, ◌+◌, ◌++◌, ◌∷◌, ◌<◌, [], inl, inr, ℕ, List, Some, true, get_or, length, slice_get, slice_index_or, refl, sym, ap, arith, subst}
use Rattle.std.proofs.lemmas.Bool.{cases_lt}
use Rattle.std.proofs.lemmas.List.{get_or_append_left, get_or_default, get_or_push}
use Rattle.std.proofs.lemmas.List.Elements.{All-push}
use Rattle.std.specs.List.{All}
use Rattle.zy_isa.specs.declared.choice.Choice.{Choice}
use Rattle.zy_isa.specs.declared.choice.Choice.TheVariants.{Start}
use Rattle.zy_steps.specs.Alike.{part_of, Alike}
use Rattle.zy_step_cache.specs.declared.step_cache.StepCache.{StepCache}
use Rattle.zy_step_cache.specs.StepCaches.{Numbers}
use Rattle.zy_step_cache.proofs.ExploredLemmas.{numbers_stay}
use Rattle.zy_state_ids.proofs.PartLemmas.{alike_by_numbers}
use Rattle.zy_table.specs.State.{State, Step}
use Rattle.zy_table.specs.Play.{step}
use Rattle.zy_search.specs.declared.ahead.Ahead.{Ahead}
use Rattle.zy_search.specs.declared.ahead.Successors.{Successors}
use Rattle.zy_search.specs.declared.ahead.Successor.{Successor}
use Rattle.zy_search.specs.declared.ahead.Successor.TheVariants as successor
use Rattle.zy_search.specs.declared.branch.Branch.{Branch}
use Rattle.zy_search.specs.declared.plan.Plan.{Plan}
use Rattle.zy_search.specs.declared.reached.Reached.{Reached}
use Rattle.zy_search.specs.Stuck.{is_still}
use Rattle.zy_search.specs.Searches.{reached}
use Rattle.zy_search.specs.Visits.{counted, path_at, state_by, step_by, AreNumbersAt, Grows, IsInformed, IsKnown, IsNumber, Notes}
use Rattle.zy_search.specs.Ahead.{numbers_at, successor_in, GoesOn, IsForeseen, HasNumbers, AreSuccessors, IsSuccessor, IsTaken}
use Rattle.zy_search.proofs.SearchLemmas.{grows_not, grows_on}
use Rattle.zy_search.proofs.StillSteps.{still_stays}

-- nothing changed
pub stays : (x : Reached) → GoesOn x x
stays x = record { paths = grows_not x.tree; parts = λ i part h. h; part = refl }

-- there are paths more, and the cache is as it was
pub adds : (x y : Reached) → Grows x.tree y.tree → y.explored.cache ≡ x.explored.cache → GoesOn x y
adds x y grows cache = record {
  paths = grows;
  parts = λ i part e. subst (λ (m : StepCache). slice_get m.table i ≡ Some part) (sym cache) e;
  part = ap (λ (m : StepCache). m.part) cache;
}

-- a search goes on, and then further
pub goes_further : (x y z : Reached) → GoesOn x y → GoesOn y z → GoesOn x z
goes_further x y z g h = record {
  paths = grows_on x.tree y.tree z.tree g.paths h.paths;
  parts = λ i part e. h.parts i part (g.parts i part e);
  part = h.part ∙ g.part;
}

-- where nothing comes of the choice of a branch, its state is that of a path
pub still_known : (p : Plan) (ps : List (List Choice)) (b : Branch) → b.from < length ps → is_still (step_by p ps b).outcome ≡ true
    → IsKnown p.start p.sought ps (state_by p ps b)
still_known p ps b lt still =
    (b.from, lt, ap (part_of (counted p.sought)) (sym (still_stays p.start.scenario b.by (reached p.start (path_at ps b.from)) still)))

module _ (p : Plan) (old new : Reached) (on : GoesOn old new) where
  -- the choice of a branch has the same step
  step_on : (b : Branch) → b.from < length old.tree → step_by p new.tree b ≡ step_by p old.tree b
  step_on b lt = ap (λ (cs : List Choice). step p.start.scenario b.by (reached p.start cs)) (on.paths.same b.from lt)

  -- a state that is known stays so
  known_on : (s : State) → IsKnown p.start p.sought old.tree s → IsKnown p.start p.sought new.tree s
  known_on s k = (
    k.0,
    omega (arith, k.1, on.paths.longer),
    subst (λ (cs : List Choice). Alike (counted p.sought) (reached p.start cs) s) (sym (on.paths.same k.0 k.1)) k.2,
  )

  -- the numbers of the state of a path are its numbers
  pub numbers_on : (at : ℕ) → at < length old.tree → (numbers : List ℕ) → AreNumbersAt p old at numbers → AreNumbersAt p new at numbers
  numbers_on at lt numbers is =
      subst (λ (cs : List Choice). Numbers new.explored.cache (reached p.start cs) numbers) (sym (on.paths.same at lt))
      (numbers_stay old.explored.cache new.explored.cache (reached p.start (path_at old.tree at)) numbers on.parts on.part is)

  -- so does where a choice leads
  successor_on : (arena : List (List ℕ)) (b : Branch) → b.from < length old.tree → (x : Successor) → IsSuccessor p old arena b x
      → IsSuccessor p new arena b x
  successor_on arena b lt successor.Unknown is = tt
  successor_on arena b lt successor.Reached is =
      subst (IsKnown p.start p.sought new.tree) (sym (ap (λ (x : Step). x.after) (step_on b lt))) (known_on (state_by p old.tree b) is)
  successor_on arena b lt (successor.Numbered j) is = record {
    there = is.there;
    moved = ap (λ (x : Step). is_still x.outcome) (step_on b lt) ∙ is.moved;
    numbers = subst (λ (s : State). Numbers new.explored.cache s (numbers_at arena j)) (sym (ap (λ (x : Step). x.after) (step_on b lt)))
        (numbers_stay old.explored.cache new.explored.cache (state_by p old.tree b) (numbers_at arena j) on.parts on.part is.numbers);
  }

  -- so does where each leads from a state
  successors_on : (arena : List (List ℕ)) (known : Successors) → AreSuccessors p old arena known → AreSuccessors p new arena known
  successors_on arena known is = record {
    there = omega (arith, is.there, on.paths.longer);
    each = λ i c n. successor_on arena (record { from = known.place; by = c }) is.there (successor_in known i) (is.each i c n);
  }

  -- and a state that was taken in
  taken_on : (arena : List (List ℕ)) (j : ℕ) → IsTaken p old arena j → IsTaken p new arena j
  taken_on arena j is = record {
    state = is.state;
    numbers = numbers_stay old.explored.cache new.explored.cache is.state (numbers_at arena j) on.parts on.part is.numbers;
    known = known_on is.state is.known;
  }

  -- and what is known ahead
  pub foreseen_on : (a : Ahead) → IsForeseen p old a → IsForeseen p new a
  foreseen_on a is = record {
    found = λ k d lt. successors_on a.numbers (get_or a.found.items k d) (is.found k d lt);
    taken = λ j lt. taken_on a.numbers j (is.taken j lt);
  }

  -- a state that is taken in was reached
  pub noted_is_taken : (arena : List (List ℕ)) (b : Branch) (j : ℕ) → HasNumbers p old arena b j → Notes p.start p.sought old.tree new.tree b.from b.by
      → IsTaken p new arena j
  noted_is_taken arena b j is notes = record {
    state = state_by p old.tree b;
    numbers = numbers_stay old.explored.cache new.explored.cache (state_by p old.tree b) (numbers_at arena j) on.parts on.part is.numbers;
    known = (notes.known.0, notes.known.1, notes.known.3);
  }

  -- and what is known of others
  pub rest_on : (rest : List Ahead) → All (IsForeseen p old) rest → All (IsForeseen p new) rest
  rest_on rest are = λ k d lt. foreseen_on (get_or rest k d) (are k d lt)

-- the choice of a branch leads to a known state where one with its numbers was taken in
pub taken_known : (p : Plan) (x : Reached) → IsInformed p x → (arena : List (List ℕ)) (b : Branch) (j : ℕ) → HasNumbers p x arena b j → IsTaken p x arena j
    → IsKnown p.start p.sought x.tree (state_by p x.tree b)
taken_known p x informed arena b j is taken =
    let cache = x.explored.cache in
    let same = alike_by_numbers cache.table cache.part (numbers_at arena j) taken.state (state_by p x.tree b) taken.numbers is.numbers in (
      taken.known.0,
      taken.known.1,
      taken.known.2 ∙ subst (λ part. Alike part taken.state (state_by p x.tree b)) informed.part same,
    )

-- An arena takes in numbers.
module _ (p : Plan) (x : Reached) (old new : List (List ℕ)) (grows : Grows old new) where
  -- what is known of where a choice leads stays known
  pub successor_grown : (b : Branch) (s : Successor) → IsSuccessor p x old b s → IsSuccessor p x new b s
  successor_grown b successor.Unknown is = tt
  successor_grown b successor.Reached is = is
  successor_grown b (successor.Numbered j) is = record {
    there = omega (arith, is.there, grows.longer);
    moved = is.moved;
    numbers = subst (Numbers x.explored.cache (state_by p x.tree b)) (sym (grows.same j is.there)) is.numbers;
  }

  -- and where each leads from a state
  successors_grown : (known : Successors) → AreSuccessors p x old known → AreSuccessors p x new known
  successors_grown known is = record { there = is.there; each = λ i c n. successor_grown (record { from = known.place; by = c }) (successor_in known i) (is.each i c n) }

  -- one state more is looked at
  pub successors_more : (found : List Successors) (known : Successors) → All (AreSuccessors p x old) found → AreSuccessors p x new known → All (AreSuccessors p x new) (found ++ known ∷ [])
  successors_more found known are is = All-push (AreSuccessors p x new) found known (λ k d lt. successors_grown (get_or found k d) (are k d lt)) is

  -- where the first n choices lead from the state at a place
  abbrev AreFirst : List (List ℕ) → ℕ → List Successor → ℕ → Type 0
  AreFirst arena at xs n = (k : ℕ) (c : Choice) → k < n → IsNumber p k c → IsSuccessor p x arena (record { from = at; by = c }) (slice_index_or xs k successor.Unknown)

  -- and one choice more
  pub one_more : (at : ℕ) (xs : List Successor) (s : Successor) (n : ℕ) → length xs ≡ n → (by : Choice) → AreFirst old at xs n
      → by ≡ slice_index_or p.choices.items n by → IsSuccessor p x new (record { from = at; by = by }) s → AreFirst new at (xs ++ s ∷ []) (n + 1)
  one_more at xs s n many by first is last = λ k c lt number.
      elim (cases_lt k n) [
        | inl less ↦
            let same = get_or_append_left xs (s ∷ []) successor.Unknown k (omega (arith, less, many)) in
            subst (λ (y : Successor). IsSuccessor p x new (record { from = at; by = c }) y) (sym same)
            (successor_grown (record { from = at; by = c }) (slice_index_or xs k successor.Unknown) (first k c less number))
        | inr le ↦
            let here : k ≡ n = omega (arith, le, lt) in
            let same = ap (λ (j : ℕ). slice_index_or (xs ++ s ∷ []) j successor.Unknown) here ∙ get_or_push xs s successor.Unknown n many in
            let choice : by ≡ c =
            is ∙ get_or_default p.choices.items n by Start (omega (arith, here, number.there)) ∙ ap (λ (j : ℕ). slice_index_or p.choices.items j Start) (sym here)
            ∙ number.choice in
            subst (λ (y : Successor). IsSuccessor p x new (record { from = at; by = c }) y) (sym same)
            (subst (λ (d : Choice). IsSuccessor p x new (record { from = at; by = d }) s) choice last)
      ]
