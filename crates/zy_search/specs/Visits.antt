-- What a search keeps, and what each of its parts adds.
use Rattle.std.specs.Prelude.{ℕ, ◌≡◌, ◌≤◌, ◌<◌, ◌+◌, ◌⊎◌, List, [], ◌∷◌, ◌++◌, Bool, true, false, length, slice_index_or}
use Rattle.std.specs.Prelude.{IfSome, map}
use Rattle.std.specs.List.{All}
use Rattle.zy_isa.specs.declared.choice.Choice.{Choice}
use Rattle.zy_isa.specs.declared.choice.Choice.TheVariants.{Start}
use Rattle.zy_table.specs.State.{State}
use Rattle.zy_isa.specs.Scenario.{Scenario}
use Rattle.zy_table.specs.State.{Step}
use Rattle.zy_table.specs.Play.{step}
use Rattle.zy_table.specs.declared.outcome.Outcome.{Outcome}
use Rattle.zy_machine.specs.Histories.{History}
use Rattle.zy_steps.specs.declared.part.StatePart.{StatePart}
use Rattle.zy_steps.specs.declared.part.StatePart.TheVariants.{Whole, Live}
use Rattle.zy_steps.specs.Alike.{Alike}
use Rattle.zy_goals.specs.Footprints.{reads_ended}
use Rattle.zy_step_cache.specs.StepCaches.{choices_of, Knows, Numbers}
use Rattle.zy_search.specs.declared.sought.Sought.{Sought}
use Rattle.zy_search.specs.declared.plan.Plan.{Plan}
use Rattle.zy_search.specs.declared.branch.Branch.{Branch}
use Rattle.zy_search.specs.declared.reached.Reached.{Reached}
use Rattle.zy_search.specs.declared.scratch.Scratch.{Scratch}
use Rattle.zy_search.specs.declared.answer.Met.{Met}
use Rattle.zy_search.specs.declared.answer.Met.TheVariants as met
use Rattle.zy_search.specs.declared.answer.Expanded.{Expanded}
use Rattle.zy_search.specs.declared.answer.Expanded.TheVariants as expanded
use Rattle.zy_search.specs.Choices.{considered, is_considered}
use Rattle.zy_search.specs.Paths.{AreApart}
use Rattle.zy_search.specs.Stuck.{is_still}
use Rattle.zy_search.specs.Searches.{Shows, reached, deepest, IsPath, Finds}

-- the choices of a plan are all that its search considers
abbrev pub IsWhole : Plan → Type 0
IsWhole p = p.choices.items ≡ considered p.sought.kinds (length p.start.scenario.programs)

abbrev pub path_at : List (List Choice) → ℕ → List Choice
path_at paths i = slice_index_or paths i []

abbrev pub length_at : List (List Choice) → ℕ → ℕ
length_at paths i = length (path_at paths i)

-- how much of a state counts: all of it where a goal reads what ended transactions had, else what is live
abbrev pub counted_if : Bool → StatePart
counted_if true = Whole
counted_if false = Live

-- how much of a state counts for what is looked for
abbrev pub counted : Sought → StatePart
counted q = counted_if (reads_ended q.goal)

-- one of some paths leads to a state like this one
abbrev pub IsKnown : History → Sought → List (List Choice) → State → Type 0
IsKnown h q paths x = (i : ℕ) × (i < length paths) × Alike (counted q) (reached h (path_at paths i)) x

-- one of at most n choices does
abbrev pub IsVisited : History → Sought → List (List Choice) → ℕ → State → Type 0
IsVisited h q paths n x =
    (i : ℕ) × (i < length paths) × (length_at paths i ≤ n) × Alike (counted q) (reached h (path_at paths i)) x

-- the empty path and others, none of which leads to a state that shows what is looked for, by their lengths
pub record Visits (h : History) (q : Sought) (ps : List (List Choice)) : Type 0 where
  pub some : 0 < length ps
  pub first : path_at ps 0 ≡ []
  pub paths : (i : ℕ) → i < length ps → IsPath h q (path_at ps i)
  pub none : (i : ℕ) → i < length ps → Shows h.scenario q (reached h (path_at ps i)) → ⊥
  pub order : (i j : ℕ) → i ≤ j → j < length ps → length_at ps i ≤ length_at ps j
  pub apart : AreApart ps

-- no path goes on from that at a place by this choice
abbrev pub IsFresh : List (List Choice) → ℕ → Choice → Type 0
IsFresh ps at c = (i : ℕ) → i < length ps → path_at ps i ≡ path_at ps at ++ c ∷ [] → ⊥

-- none goes on from one of those from n on
abbrev pub AreEnds : List (List Choice) → ℕ → Type 0
AreEnds ps n = (j : ℕ) → n ≤ j → j < length ps → (c : Choice) → IsFresh ps j c

-- those that go on from that at a place do so by one of the first n choices
abbrev pub GoOnBy : List (List Choice) → ℕ → List Choice → ℕ → Type 0
GoOnBy ps at cs n = (i : ℕ) → i < length ps → (c : Choice) → path_at ps i ≡ path_at ps at ++ c ∷ [] → (k : ℕ) × (k < n)
    × (slice_index_or cs k Start ≡ c)

-- where that at a place is gone on from: no path has more than one choice more, and none goes on from a later one
pub record IsEdge (ps : List (List Choice)) (at : ℕ) : Type 0 where
  pub near : (i : ℕ) → i < length ps → length_at ps i ≤ length_at ps at + 1
  pub ends : AreEnds ps (at + 1)

-- each choice from the state of the path at i leads to a state like that of one of the paths, which is at most one choice
-- longer
abbrev pub IsExpanded : History → Sought → List (List Choice) → ℕ → Type 0
IsExpanded h q paths i =
    (c : Choice) → is_considered q.kinds (length h.scenario.programs) c ≡ true
    → IsVisited h q paths (length_at paths i + 1) (step h.scenario c (reached h (path_at paths i))).after

-- each of the first n paths is expanded
abbrev pub AreExpanded : History → Sought → List (List Choice) → ℕ → Type 0
AreExpanded h q paths n = (i : ℕ) → i < n → IsExpanded h q paths i

-- a machine where the path at a place leads: it has made its choices
pub record IsHere (h : History) (paths : List (List Choice)) (at : ℕ) (m : History) : Type 0 where
  pub scenario : m.scenario ≡ h.scenario
  pub state : m.state ≡ reached h (path_at paths at)
  pub entries : length m.entries ≡ length h.entries + length_at paths at

-- another machine in the same state, which has made no fewer choices
pub record IsTwin (m twin : History) : Type 0 where
  pub scenario : twin.scenario ≡ m.scenario
  pub state : twin.state ≡ m.state
  pub entries : length m.entries ≤ length twin.entries

-- ---- what is known of the states

-- the states that paths lead to
abbrev pub states_of : History → List (List Choice) → List State
states_of h paths = map (reached h) paths

-- the step by which a branch goes on
abbrev pub step_by : Plan → List (List Choice) → Branch → Step
step_by p paths b = step p.start.scenario b.by (reached p.start (path_at paths b.from))

-- the state that it leads to
abbrev pub state_by : Plan → List (List Choice) → Branch → State
state_by p paths b = (step_by p paths b).after

-- the numbers of the states that the paths lead to are known, of what counts of them, and only steps that happened are remembered
pub record IsInformed (p : Plan) (x : Reached) : Type 0 where
  pub knows : Knows p.start.scenario x.explored (states_of p.start x.tree)
  pub part : x.explored.cache.part ≡ counted p.sought
  pub choices : choices_of x.explored.cache ≡ p.choices.items

-- these are the numbers of the state of the path at a place
abbrev pub AreNumbersAt : Plan → Reached → ℕ → List ℕ → Type 0
AreNumbersAt p x at numbers = Numbers x.explored.cache (reached p.start (path_at x.tree at)) numbers

-- what comes of the choice of a branch is known, and the numbers of the state that it leads to where something does
pub record LeadsTo (p : Plan) (x : Reached) (b : Branch) (next : List ℕ) (o : Outcome) : Type 0 where
  pub still : is_still o ≡ is_still (step_by p x.tree b).outcome
  pub numbers : is_still o ≡ false → Numbers x.explored.cache (state_by p x.tree b) next
  pub informed : IsInformed p x

-- ---- the machines

-- machines of a scenario
pub record AreOf (sc : Scenario) (x : Scratch) : Type 0 where
  pub here : x.here.scenario ≡ sc
  pub after : x.after.scenario ≡ sc
  pub spare : x.spare.scenario ≡ sc

-- the first of them is where the path at a place leads, if it says so, and has made the choices of that path alone
pub record AreScratch (h : History) (paths : List (List Choice)) (at : ℕ) (x : Scratch) : Type 0 where
  pub machines : AreOf h.scenario x
  pub state : x.is_here ≡ true → x.here.state ≡ reached h (path_at paths at)
  pub entries : x.is_here ≡ true → length x.here.entries ≡ length h.entries + length_at paths at

-- ---- the search goes on

-- it begins, with the empty path alone
pub record Begins (p : Plan) (x : Reached) : Type 0 where
  pub whole : IsWhole p
  pub visits : Visits p.start p.sought x.tree
  pub first : x.tree ≡ [] ∷ []
  pub informed : IsInformed p x

-- it is ready to go on from the path at a place
pub record IsReady (p : Plan) (paths : List (List Choice)) (at : ℕ) : Type 0 where
  pub whole : IsWhole p
  pub visits : Visits p.start p.sought paths
  pub near : IsEdge paths at
  pub there : at < length paths
  pub room : length p.start.entries + length_at paths at < deepest p.sought

-- it is the turn of the choice of a branch: it is considered, and no path goes on so yet
pub record IsTurn (p : Plan) (paths : List (List Choice)) (b : Branch) : Type 0 where
  pub ready : IsReady p paths b.from
  pub considered : is_considered p.sought.kinds (length p.start.scenario.programs) b.by ≡ true
  pub fresh : IsFresh paths b.from b.by

-- it is the turn of the choice of a branch, with what is known of the states and the machines
pub record IsReadyFor (p : Plan) (x : Reached) (b : Branch) (scratch : Scratch) : Type 0 where
  pub turn : IsTurn p x.tree b
  pub informed : IsInformed p x
  pub machines : AreScratch p.start x.tree b.from scratch

-- the number of a choice among those of a plan
pub record IsNumber (p : Plan) (i : ℕ) (c : Choice) : Type 0 where
  pub there : i < length p.choices.items
  pub choice : slice_index_or p.choices.items i Start ≡ c

-- the lists of old are at their places in new
pub record Grows {X : Type 0} (old new : List (List X)) : Type 0 where
  pub longer : length old ≤ length new
  pub same : (i : ℕ) → i < length old → slice_index_or new i [] ≡ slice_index_or old i []

-- what a choice from the state of the path at a place has led to
pub record Notes (h : History) (q : Sought) (old new : List (List Choice)) (at : ℕ) (c : Choice) : Type 0 where
  pub visits : Visits h q new
  pub near : IsEdge new at
  pub grows : Grows old new
  pub known : IsVisited h q new (length_at old at + 1) (step h.scenario c (reached h (path_at old at))).after
  pub more : (new ≡ old) ⊎ (new ≡ old ++ (path_at old at ++ c ∷ []) ∷ [])

-- one that shows what is looked for
pub record ShowsNext (h : History) (q : Sought) (old new : List (List Choice)) (at : ℕ) (c : Choice) : Type 0 where
  pub shows : Shows h.scenario q (reached h (path_at old at ++ c ∷ []))
  pub moved : is_still (step h.scenario c (reached h (path_at old at))).outcome ≡ false
  pub grows : Grows old new

-- there are as many paths as there may be
pub record IsFull (h : History) (q : Sought) (most : ℕ) (old new : List (List Choice)) (at : ℕ) : Type 0 where
  pub visits : Visits h q new
  pub near : IsEdge new at
  pub grows : Grows old new
  pub many : most ≤ length new

-- what a choice has led to, where the paths went from old to new
abbrev pub MeetsWell : Plan → List (List Choice) → List (List Choice) → Branch → Met → Type 0
MeetsWell p old new b met.Noted = Notes p.start p.sought old new b.from b.by
MeetsWell p old new b met.Shown = ShowsNext p.start p.sought old new b.from b.by
MeetsWell p old new b met.Spent = IsFull p.start p.sought p.most old new b.from

-- what a choice has led to, with what is known of the states, and the machines
pub record Meets (p : Plan) (old : List (List Choice)) (new : Reached) (b : Branch) (scratch : Scratch) (x : Met) : Type 0 where
  pub well : MeetsWell p old new.tree b x
  pub informed : IsInformed p new
  pub machines : AreScratch p.start new.tree b.from scratch

-- each choice from the state of the path at a place leads to a state like that of one of the paths
pub record Expands (h : History) (q : Sought) (old new : List (List Choice)) (at : ℕ) : Type 0 where
  pub visits : Visits h q new
  pub near : IsEdge new at
  pub grows : Grows old new
  pub expanded : IsExpanded h q new at

-- one of them shows what is looked for
pub record FindsNext (h : History) (q : Sought) (old : List (List Choice)) (at : ℕ) (cs : List Choice) : Type 0 where
  pub finds : Finds h q cs
  pub longer : length cs ≡ length_at old at + 1

-- the search can go on no more
abbrev pub StopsAt : History → Sought → ℕ → List (List Choice) → List (List Choice) → ℕ → Type 0
StopsAt h q most old new at = IsFull h q most old new at
    ⊎ (Grows old new × (deepest q ≤ length h.entries + length_at old at))

-- what all considered choices from the path at a place have led to
abbrev pub ExpandsWell : Plan → List (List Choice) → List (List Choice) → ℕ → Expanded → Type 0
ExpandsWell p old new at expanded.Whole = Expands p.start p.sought old new at
ExpandsWell p old new at (expanded.Found v) = FindsNext p.start p.sought old at v.items
ExpandsWell p old new at expanded.Spent = StopsAt p.start p.sought p.most old new at
