-- What is known of the states that paths lead to.
use Rattle.std.proofs.Common.{◌≡◌, ◌∙◌, ◌<◌, ◌+◌, ℕ, zero, suc, List, [], ◌∷◌, ◌++◌, false, true, length, Some, slice_get, slice_index_or, refl, sym, ap, arith, subst, Result, Ok, Err, IfOk}
use Rattle.std.proofs.lemmas.List.{map-append, length-map}
use Rattle.zy_isa.specs.declared.choice.Choice.{Choice}
use Rattle.zy_isa.specs.declared.choice.Choice.TheVariants.{Start}
use Rattle.zy_isa.specs.Scenario.{Scenario}
use Rattle.zy_table.specs.State.{State}
use Rattle.zy_table.specs.declared.outcome.Outcome.{Outcome}
use Rattle.zy_table.specs.declared.outcome.Outcome.TheVariants.{Started, BadMode, Began, Idle, Elsewhere, NotYet, Did, Split, Aborted, Committed, Waits, Pulls, Awaits}
use Rattle.zy_table.specs.declared.outcome.Outcome.TheVariants.{NoMessage, GotWire, GotReady, GotDual, Stale, Held, GotPull, GotPage, GotFinish, GotDone, Stray}
use Rattle.zy_table.specs.declared.outcome.Outcome.TheVariants.{Finishing, Active, Pushed, NoPush}
use Rattle.zy_machine.specs.Histories.{History}
use Rattle.zy_steps.specs.Alike.{Alike}
use Rattle.zy_steps.specs.Reads.{uncounted}
use Rattle.zy_step_cache.specs.declared.choice_cache.ChoiceCache.{ChoiceCache}
use Rattle.zy_step_cache.specs.declared.choice_cache.CachedStep.{CachedStep}
use Rattle.zy_step_cache.specs.StepCaches.{choice_at, choices_of, numbers_by, IsTrue, Knows, Leads, Numbers}
use Rattle.zy_step_cache.specs.Rests.{is_idle}
use Rattle.zy_step_cache.proofs.Again.{many_after}
use Rattle.zy_search.specs.declared.branch.Branch.{Branch}
use Rattle.zy_search.specs.declared.plan.Plan.{Plan}
use Rattle.zy_search.specs.declared.reached.Reached.{Reached}
use Rattle.zy_search.specs.declared.scratch.Scratch.{Scratch}
use Rattle.zy_search.specs.Stuck.{is_still}
use Rattle.zy_search.specs.Searches.{reached}
use Rattle.zy_search.specs.Visits.{path_at, states_of, state_by, AreNumbersAt, AreScratch, Grows, IsInformed, IsKnown, IsNumber, LeadsTo}
use Rattle.zy_search.proofs.SearchLemmas.{reached_more}

-- what follows for what a call returns
pub if_ok_with : {X E : Type 0} (P Q : X → Type 0) (r : Result X E) → ((x : X) → P x → Q x) → IfOk r P → IfOk r Q
if_ok_with P Q (Ok x) f p = f x p
if_ok_with P Q (Err e) f p = tt

-- ---- the states of paths

-- that of the path at a place
pub state_at : (h : History) (ps : List (List Choice)) (i : ℕ) → i < length ps → slice_get (states_of h ps) i ≡ Some (reached h (path_at ps i))
state_at h [] i lt = absurd (omega (arith, lt))
state_at h (p ∷ ps) zero lt = refl
state_at h (p ∷ ps) (suc i) lt = state_at h ps i (omega (arith, lt))

-- those of one path more
pub states_more : (h : History) (ps : List (List Choice)) (p : List Choice) → states_of h (ps ++ p ∷ []) ≡ states_of h ps ++ reached h p ∷ []
states_more h ps p = map-append (reached h) ps (p ∷ [])

-- there are as many as paths
pub as_many : (h : History) (ps : List (List Choice)) → length (states_of h ps) ≡ length ps
as_many h ps = length-map ps (reached h)

-- ---- outcomes

-- the number of a commit does not count for whether something came of a step
still_uncounted : (o : Outcome) → is_still (uncounted o) ≡ is_still o
still_uncounted Started = refl
still_uncounted BadMode = refl
still_uncounted (Began n) = refl
still_uncounted Idle = refl
still_uncounted Elsewhere = refl
still_uncounted NotYet = refl
still_uncounted Did = refl
still_uncounted (Split p q k) = refl
still_uncounted (Aborted w) = refl
still_uncounted (Committed i) = refl
still_uncounted (Waits p) = refl
still_uncounted (Pulls p) = refl
still_uncounted (Awaits p) = refl
still_uncounted NoMessage = refl
still_uncounted GotWire = refl
still_uncounted GotReady = refl
still_uncounted GotDual = refl
still_uncounted (Stale p) = refl
still_uncounted (Held p) = refl
still_uncounted (GotPull p) = refl
still_uncounted (GotPage p) = refl
still_uncounted GotFinish = refl
still_uncounted GotDone = refl
still_uncounted Stray = refl
still_uncounted Finishing = refl
still_uncounted (Active t) = refl
still_uncounted (Pushed p) = refl
still_uncounted NoPush = refl

-- outcomes that differ in that alone
pub still_alike : (o r : Outcome) → uncounted r ≡ uncounted o → is_still o ≡ is_still r
still_alike o r e = sym (still_uncounted o) ∙ (ap is_still (sym e) ∙ still_uncounted r)

-- nothing came of a step that was idle
pub idle_still : (o : Outcome) → is_idle o ≡ true → is_still o ≡ true
idle_still BadMode e = refl
idle_still Idle e = refl
idle_still Elsewhere e = refl
idle_still NoMessage e = refl
idle_still o e = cc

-- ---- what is known

module _ (p : Plan) (x : Reached) (is : IsInformed p x) where
  -- a remembered choice is that of the plan
  pub remembered_choice : (i : ℕ) (c : Choice) → IsNumber p i c → choice_at x.explored.cache i ≡ c
  remembered_choice i c n = ap (λ (cs : List Choice). slice_index_or cs i Start) is.choices ∙ n.choice

  -- and there
  pub remembered_there : (i : ℕ) (c : Choice) → IsNumber p i c → i < length x.explored.cache.caches.items
  remembered_there i c n =
      let caches = x.explored.cache.caches.items in
      omega (arith, n.there, ap (λ (cs : List Choice). length cs) is.choices, length-map caches (λ (m : ChoiceCache). m.choice))

  -- there are as many transactions as programs after a step
  pub many_by : (b : Branch) → b.from < length x.tree → length (state_by p x.tree b).txns ≡ length p.start.scenario.programs
  many_by b lt =
      many_after p.start.scenario b.by (reached p.start (path_at x.tree b.from))
      ∙ (is.knows.each b.from (reached p.start (path_at x.tree b.from)) (state_at p.start x.tree b.from lt)).1

  -- a state that has the numbers of one of the states is known
  pub known_by : (i : ℕ) (t : State) → i < length (states_of p.start x.tree)
      → ((s : State) → slice_get (states_of p.start x.tree) i ≡ Some s → Alike x.explored.cache.part s t)
      → IsKnown p.start p.sought x.tree t
  known_by i t lt alike =
      let there : i < length x.tree = omega (arith, lt, as_many p.start x.tree) in (
        i,
        there,
        subst (λ part. Alike part (reached p.start (path_at x.tree i)) t) is.part
            (alike (reached p.start (path_at x.tree i)) (state_at p.start x.tree i there)),
      )

  -- the numbers at the place of a path are those of its state
  pub numbers_there : (i : ℕ) → i < length x.tree → (numbers : List ℕ) → numbers ≡ slice_index_or x.explored.vectors i []
      → AreNumbersAt p x i numbers
  numbers_there i lt numbers at =
      let s = reached p.start (path_at x.tree i) in
      subst (Numbers x.explored.cache s) (sym at) (is.knows.each i s (state_at p.start x.tree i lt)).0

  -- where a remembered step leads, if its numbers were taken where something came of it
  pub remembered_leads : (b : Branch) → b.from < length x.tree → (i : ℕ) → IsNumber p i b.by → (r : CachedStep) → (numbers next : List ℕ)
      → AreNumbersAt p x b.from numbers
      → (is_still r.outcome ≡ false → next ≡ numbers_by x.explored.cache i r numbers)
      → ((sc : Scenario) (s : State) → IsTrue sc x.explored.cache → Numbers x.explored.cache s numbers → length s.txns ≡ length sc.programs
      → Leads sc x.explored.cache (choice_at x.explored.cache i) s (numbers_by x.explored.cache i r numbers) r.outcome)
      → LeadsTo p x b next r.outcome
  remembered_leads b lt i n r numbers next here taken recalled =
      let s = reached p.start (path_at x.tree b.from) in
      let many = (is.knows.each b.from s (state_at p.start x.tree b.from lt)).1 in
      let led = recalled p.start.scenario s is.knows.truth here many in
      let to = numbers_by x.explored.cache i r numbers in
      let leads = subst (λ (c : Choice). Leads p.start.scenario x.explored.cache c s to r.outcome) (remembered_choice i b.by n) led in
      record {
        still = still_alike r.outcome _ leads.1;
        numbers = λ moved. subst (Numbers x.explored.cache (state_by p x.tree b)) (sym (taken moved)) leads.0;
        informed = is;
      }

-- one state more is known
pub informed_more : (p : Plan) (old new : Reached) (b : Branch) → b.from < length old.tree
    → new.tree ≡ old.tree ++ (path_at old.tree b.from ++ b.by ∷ []) ∷ [] → new.explored.cache ≡ old.explored.cache
    → (Knows p.start.scenario old.explored (states_of p.start old.tree) → length (state_by p old.tree b).txns ≡ length p.start.scenario.programs
    → Knows p.start.scenario new.explored (states_of p.start old.tree ++ state_by p old.tree b ∷ []))
    → IsInformed p old → IsInformed p new
informed_more p old new b lt paths cache knows is =
    let cs = path_at old.tree b.from in
    let more = states_more p.start old.tree (cs ++ b.by ∷ []) ∙ ap (λ (s : State). states_of p.start old.tree ++ s ∷ []) (reached_more p.start cs b.by) in
    record {
      knows = subst (Knows p.start.scenario new.explored) (sym (ap (states_of p.start) paths ∙ more)) (knows is.knows (many_by p old is b lt));
      part = ap (λ m. m.part) cache ∙ is.part;
      choices = ap choices_of cache ∙ is.choices;
    }

-- the same paths, with what was known of their states and steps that were remembered since
pub informed_still : (p : Plan) (old new : Reached) → new.tree ≡ old.tree → Knows p.start.scenario new.explored (states_of p.start old.tree)
    → new.explored.cache.part ≡ old.explored.cache.part → choices_of new.explored.cache ≡ choices_of old.explored.cache
    → IsInformed p old → IsInformed p new
informed_still p old new tree knows part choices is = record {
  knows = subst (λ (ps : List (List Choice)). Knows p.start.scenario new.explored (states_of p.start ps)) (sym tree) knows;
  part = part ∙ is.part;
  choices = choices ∙ is.choices;
}

-- a machine where a path leads is there, whatever paths are added
pub scratch_grown : (h : History) (ps qs : List (List Choice)) (at : ℕ) (x : Scratch) → Grows ps qs → at < length ps → AreScratch h ps at x → AreScratch h qs at x
scratch_grown h ps qs at x g lt a =
    let same = sym (g.same at lt) in
    record {
      machines = a.machines;
      state = λ e. a.state e ∙ ap (reached h) same;
      entries = λ e. a.entries e ∙ ap (λ (cs : List Choice). length h.entries + length cs) same;
    }
