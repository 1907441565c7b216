-- A path more.
use Rattle.std.proofs.Common.{◌≡◌, ◌∙◌, ℕ, ◌+◌, ◌<◌, ◌^◌, ◌⊎◌, inl, inr, List, [], ◌∷◌, ◌++◌, length, refl, sym, ap, subst, arith, length-append}
use Rattle.std.proofs.Common.{Result, Ok, Err, OnOk}
use Rattle.std.specs.Prelude.{Contains}
use Rattle.std.proofs.lemmas.Bool.{cases_lt}
use Rattle.std.proofs.lemmas.List.{get_or_append_left, get_or_push}
use Rattle.std.proofs.lemmas.List.Elements.{Contains-append_left, Contains-push, Contains-push_cases}
use Rattle.zy_isa.specs.declared.choice.Choice.{Choice}
use Rattle.zy_isa.specs.Scenario.{Scenario}
use Rattle.zy_table.specs.declared.observation.Observation.{Observation}
use Rattle.zy_table.specs.State.{State}
use Rattle.zy_table.specs.Play.{step}
use Rattle.zy_machine.specs.Histories.{History}
use Rattle.zy_search.specs.Searches.{reached}
use Rattle.zy_search.specs.Visits.{path_at, Grows, IsHere}
use Rattle.zy_order.specs.Machines.{AreRecentMachines, IsThere}
use Rattle.zy_order.specs.declared.recent_machines.RecentMachines.{RecentMachines}
use Rattle.zy_search.proofs.SearchLemmas.{reached_more, grows_push, before_it, it, old_or_new}
use Rattle.zy_order.proofs.RecentLemmas.{here_grown, recent_grown}
use Rattle.zy_order.specs.declared.logs.Logs.{Logs}
use Rattle.zy_order.specs.declared.cursors.Cursors.{Cursors}
use Rattle.zy_order.specs.declared.plan.Plan.{Plan}
use Rattle.zy_order.specs.declared.reached.Reached.{Reached}
use Rattle.zy_order.specs.declared.search.Search.{Search}
use Rattle.zy_search.specs.declared.branch.Branch.{Branch}
use Rattle.zy_table.specs.Observations.{observation_at}
use Rattle.zy_order.specs.declared.tellers.StepLines.{StepLines}
use Rattle.zy_order.specs.Orders.{Agree}
use Rattle.zy_order.specs.Ways.{at_start, cursors_in, advanced_by, NeedNoMore, ComeNext, Leads}
use Rattle.zy_order.specs.Reaches.{cursors_at, observation_by, state_by, IsKnown, IsReached, IsUnderWay, IsSearch, IsWayOf}
use Rattle.zy_order.specs.Reaches.{StandsAt, IsNext, GoesOn, HasMade, Adds, KeepsOthers}
use Rattle.zy_order.proofs.NeedLemmas.{need_self}
use Rattle.zy_order.proofs.WayLemmas.{way_push}
use Rattle.zy_order.proofs.ReachLemmas.{extends_on, extends_same}

-- A branch leads on, and its path is added to what was reached.
module _ (p : Plan) (s : Search) (b : Branch) (to : Cursors) (on : GoesOn p s b to) (new : Reached)
    (paths : new.visited ≡ s.reached.visited ++ (path_at s.reached.visited b.from ++ b.by ∷ []) ∷ [])
    (cursors : new.cursors.items ≡ s.reached.cursors.items ++ to ∷ []) (todo : new.todo.items ≡ s.reached.todo.items ++ length s.reached.visited ∷ [])
    (room : length s.reached.visited + 1 < 2 ^ 32) where
  abbrev r : Reached
  r = s.reached

  is : IsReached p r
  is = on.search.under_way.reached

  -- the new path
  abbrev path : List Choice
  path = path_at r.visited b.from ++ b.by ∷ []

  -- it goes along the logs
  way_new : IsWayOf p path to
  way_new =
      way_push p.start.scenario p.logs at_start p.start.state (path_at r.visited b.from) (cursors_at r b.from) b.by to (is.ways b.from on.there) on.leads

  -- the state where it leads
  reached_new : reached p.start path ≡ state_by p.start r b.from b.by
  reached_new = reached_more p.start (path_at r.visited b.from) b.by

  -- there is one path more
  longer : length new.visited ≡ length r.visited + 1
  longer = omega (arith, ap (λ (l : List (List Choice)). length l) paths, length-append r.visited (path ∷ []))

  -- the others are where they were
  old_path : (i : ℕ) → i < length r.visited → path_at new.visited i ≡ path_at r.visited i
  old_path i lt = ap (λ (l : List (List Choice)). path_at l i) paths ∙ before_it r.visited path i lt

  -- and it is behind them
  new_path : (i : ℕ) → i ≡ length r.visited → path_at new.visited i ≡ path
  new_path i e = ap (λ (l : List (List Choice)). path_at l i) paths ∙ it r.visited path i e

  -- there is no other place
  either : (i : ℕ) → i < length new.visited → (i < length r.visited) ⊎ (i ≡ length r.visited)
  either i lt = old_or_new r.visited path i (subst (λ (l : List (List Choice)). i < length l) paths lt)

  -- the cursors of the others are where they were
  old_cursors : (i : ℕ) → i < length r.visited → cursors_at new i ≡ cursors_at r i
  old_cursors i lt =
      ap (λ (l : List Cursors). cursors_in l i) cursors ∙ get_or_append_left r.cursors.items (to ∷ []) at_start i (omega (arith, lt, is.many))

  -- and its own are behind them
  new_cursors : (i : ℕ) → i ≡ length r.visited → cursors_at new i ≡ to
  new_cursors i e = ap (λ (l : List Cursors). cursors_in l i) cursors ∙ get_or_push r.cursors.items to at_start i (is.many ∙ sym e)

  -- a place to do is the new one, or was to do before
  todo_new : (i : ℕ) → Contains new.todo.items i → Contains r.todo.items i ⊎ (length r.visited ≡ i)
  todo_new i at = Contains-push_cases r.todo.items (length r.visited) i (subst (λ (l : List ℕ). Contains l i) todo at)

  -- a path is a way to its cursors
  way_at : (i : ℕ) → i < length new.visited → IsWayOf p (path_at new.visited i) (cursors_at new i)
  way_at i lt =
      elim (either i lt) [
        | inl below ↦
            subst (λ (g : Cursors). IsWayOf p (path_at new.visited i) g) (sym (old_cursors i below))
            (subst (λ (q : List Choice). IsWayOf p q (cursors_at r i)) (sym (old_path i below)) (is.ways i below))
        | inr here ↦
            subst (λ (g : Cursors). IsWayOf p (path_at new.visited i) g) (sym (new_cursors i here))
            (subst (λ (q : List Choice). IsWayOf p q to) (sym (new_path i here)) way_new)
      ]

  -- with it what is reached is still as it should be
  reached_push : IsReached p new
  reached_push = record {
    some = omega (arith, longer);
    few = omega (arith, longer, room);
    first = old_path 0 is.some ∙ is.first;
    start = old_cursors 0 is.some ∙ is.start;
    ways = way_at;
    many = omega (arith, longer, is.many, ap (λ (l : List Cursors). length l) cursors, length-append r.cursors.items (to ∷ []));
    there = λ i at.
        elim (todo_new i at) [
          | inl old ↦ omega (arith, is.there i old, longer)
          | inr last ↦ omega (arith, last, longer)
        ];
  }

  -- the old paths are at their places
  grows_new : Grows r.visited new.visited
  grows_new = subst (Grows r.visited) (sym paths) (grows_push r.visited path)

  -- where the branch leads is known
  pub known_new : IsKnown p.start new to (state_by p.start r b.from b.by)
  known_new = (
    length r.visited,
    omega (arith, longer),
    subst (λ (g : Cursors). NeedNoMore g to) (sym (new_cursors (length r.visited) refl)) (need_self to),
    ap (reached p.start) (new_path (length r.visited) refl) ∙ reached_new,
  )

  -- the twin is there
  twin_there : (place : ℕ) → place ≡ length r.visited → IsThere p.start new.visited place s.twin
  twin_there place e =
      let n = ap (λ (l : List Choice). length l) (new_path place e) in
      record {
        there = omega (arith, e, longer);
        here = record {
          scenario = on.next.scenario;
          state = on.next.state ∙ (sym reached_new ∙ ap (reached p.start) (sym (new_path place e)));
          entries = omega (arith, on.next.longer, n, length-append (path_at r.visited b.from) (b.by ∷ []));
        };
      }

  -- what the path adds, where the twin is put on the recent for another machine
  pub adds_new : (place : ℕ) (recent : RecentMachines) (m : History) → place ≡ length r.visited → m.scenario ≡ p.start.scenario
      → (AreRecentMachines p.start new.visited s.recent → IsThere p.start new.visited place s.twin → AreRecentMachines p.start new.visited recent)
      → Adds p s (record { reached = new; recent = recent; twin = m })
  adds_new place recent m e scenario put = record {
    search = record {
      under_way = record { plan = on.search.under_way.plan; reached = reached_push };
      recent =
          put (recent_grown p.start r.visited new.visited s.recent grows_new on.search.recent) (twin_there place e);
      twin = scenario;
    };
    extends = record { paths = grows_new; cursors = old_cursors };
    more = λ i le lt.
        let same : length r.visited ≡ i = omega (arith, le, lt, longer) in
        subst (λ (l : List ℕ). Contains l i) (sym todo) (subst (λ (n : ℕ). Contains (r.todo.items ++ length r.visited ∷ []) n) same
        (Contains-push r.todo.items (length r.visited)));
    still = λ i at.
        subst (λ (l : List ℕ). Contains l i) (sym todo) (Contains-append_left r.todo.items (length r.visited ∷ []) i at);
  }

-- ---- what a part of a search adds

-- paths are added, and then others
pub adds_on : (p : Plan) (r s t : Search) → Adds p r s → Adds p s t → Adds p r t
adds_on p r s t x y = record {
  search = y.search;
  extends = extends_on r.reached s.reached t.reached x.extends y.extends;
  more = λ i le lt.
      elim (cases_lt i (length s.reached.visited)) [
        | inl below ↦ y.still i (x.more i le below)
        | inr past ↦ y.more i past lt
      ];
  still = λ i at. y.still i (x.still i at);
}

-- and more where a call succeeds
pub adds_then : {X E : Type 0} (p : Plan) (r s t : Search) (result : Result X E) → Adds p r s → OnOk result (Adds p s t) → OnOk result (Adds p r t)
adds_then p r s t (Ok x) first more = adds_on p r s t first more
adds_then p r s t (Err e) first more = tt

-- none is
pub adds_none : (p : Plan) (s t : Search) → IsSearch p t → t.reached ≡ s.reached → Adds p s t
adds_none p s t is same = record {
  search = is;
  extends = extends_same s.reached t.reached (ap (λ (r : Reached). r.visited) same) (ap (λ (r : Reached). r.cursors.items) same);
  more = λ i le lt. absurd (omega (arith, le, lt, ap (λ (r : Reached). length r.visited) same));
  still = λ i at. subst (λ (r : Reached). Contains r.todo.items i) (sym same) at;
}

-- a search that adds paths still goes on from the path at a place
pub stands_on : (p : Plan) (s t : Search) (at : ℕ) (m : History) → Adds p s t → StandsAt p s at m → StandsAt p t at m
stands_on p s t at m adds is = record {
  search = adds.search;
  there = omega (arith, is.there, adds.extends.paths.longer);
  machine = here_grown p.start s.reached.visited t.reached.visited at m adds.extends.paths is.there is.machine;
}

-- ---- another twin

-- a search may have another machine of the scenario for its twin
pub search_twin : (p : Plan) (s : Search) (m : History) → IsSearch p s → m.scenario ≡ p.start.scenario → IsSearch p (record s { twin = m })
search_twin p s m is scenario = record { under_way = is.under_way; recent = is.recent; twin = scenario }

-- it adds nothing
pub adds_twin : (p : Plan) (s : Search) (m : History) → IsSearch p s → m.scenario ≡ p.start.scenario → Adds p s (record s { twin = m })
adds_twin p s m is scenario = adds_none p s (record s { twin = m }) (search_twin p s m is scenario) refl

-- what comes of a choice from the state of a machine where a path leads
pub observation_here : (h : History) (r : Reached) (at : ℕ) (m : History) (c : Choice) → IsHere h r.visited at m → observation_at m.scenario m.state c ≡ observation_by h r at c
observation_here h r at m c here =
    ap (λ (sc : Scenario). observation_at sc m.state c) here.scenario ∙ ap (λ (s : State). observation_at h.scenario s c) here.state

-- a twin that has made a choice from the state of a machine where a path leads is next to it
pub is_next : (p : Plan) (s : Search) (at : ℕ) (m : History) (c : Choice) (twin : History) → StandsAt p s at m → twin.scenario ≡ m.scenario
    → twin.state ≡ (step m.scenario c m.state).after → length twin.entries ≡ length m.entries + 1 → IsNext p.start s.reached at c twin
is_next p s at m c twin is scenario state longer =
    let sc = p.start.scenario in
    let first : (step m.scenario c m.state).after ≡ (step sc c m.state).after = ap (λ (x : Scenario). (step x c m.state).after) is.machine.scenario in
    record {
      scenario = scenario ∙ is.machine.scenario;
      state = state ∙ (first ∙ ap (λ (x : State). (step sc c x).after) is.machine.state);
      longer = omega (arith, is.machine.entries, longer);
    }

-- with it the search has made the choice of the lines of a step
pub has_made : (p : Plan) (s : Search) (at : ℕ) (m : History) (lines : StepLines) (shown : Observation) (twin : History) → StandsAt p s at m
    → ComeNext p.start.scenario.version p.logs (cursors_at s.reached at) lines → twin.scenario ≡ m.scenario
    → twin.state ≡ (step m.scenario lines.line.choice m.state).after → length twin.entries ≡ length m.entries + 1
    → shown ≡ observation_at m.scenario m.state lines.line.choice → HasMade p (record s { twin = twin }) at lines shown
has_made p s at m lines shown twin is next scenario state longer came = record {
  search = search_twin p s twin is.search (scenario ∙ is.machine.scenario);
  there = is.there;
  next = next;
  made = is_next p s at m lines.line.choice twin is scenario state longer;
  came = came ∙ observation_here p.start s.reached at m lines.line.choice is.machine;
}

-- lines that come next lead on where they agree with what comes of their choice
pub lines_lead : (sc : Scenario) (l : Logs) (g : Cursors) (o : Observation) (lines : StepLines) (to : Cursors) → ComeNext sc.version l g lines
    → lines.line.choice ≡ o.entry.choice → Agree lines.line lines.other o → to ≡ advanced_by lines.by g → Leads sc l g o to
lines_lead sc l g o lines to next choice agree there = inl (record { lines = lines; next = next; choice = choice; agree = agree }, there)

-- ---- another recent

-- a search may have another recent
pub search_taken : (p : Plan) (s : Search) (recent : RecentMachines) → IsSearch p s → AreRecentMachines p.start s.reached.visited recent → IsSearch p (record s { recent = recent })
search_taken p s recent is there = record { under_way = is.under_way; recent = there; twin = is.twin }

-- it adds nothing
pub adds_taken : (p : Plan) (s : Search) (recent : RecentMachines) → IsSearch p s → AreRecentMachines p.start s.reached.visited recent → Adds p s (record s { recent = recent })
adds_taken p s recent is there = adds_none p s (record s { recent = recent }) (search_taken p s recent is there) refl

-- a recent is changed, and then again
pub keeps_others_on : (p : Plan) (r s t : Search) → KeepsOthers p r s → KeepsOthers p s t → KeepsOthers p r t
keeps_others_on p r s t x y = record { reached = y.reached ∙ x.reached; twin = y.twin ∙ x.twin; recent = y.recent }

-- a search with another recent is one
pub search_recent : (p : Plan) (s t : Search) → KeepsOthers p s t → IsSearch p s → IsSearch p t
search_recent p s t new is = record {
  under_way = subst (IsUnderWay p) (sym new.reached) is.under_way;
  recent = new.recent;
  twin = ap (λ (m : History). m.scenario) new.twin ∙ is.twin;
}

-- it adds nothing
pub adds_recent : (p : Plan) (s t : Search) → KeepsOthers p s t → IsSearch p s → Adds p s t
adds_recent p s t new is = adds_none p s t (search_recent p s t new is) new.reached

-- it goes on as before
pub goes_on_recent : (p : Plan) (s t : Search) (b : Branch) (to : Cursors) → KeepsOthers p s t → GoesOn p s b to → GoesOn p t b to
goes_on_recent p s t b to new on =
    let h = p.start in
    record {
      search = search_recent p s t new on.search;
      there = subst (λ (r : Reached). b.from < length r.visited) (sym new.reached) on.there;
      leads =
          subst (λ (r : Reached). Leads h.scenario p.logs (cursors_at r b.from) (observation_by h r b.from b.by) to) (sym new.reached) on.leads;
      next =
          subst (λ (r : Reached). IsNext h r b.from b.by t.twin) (sym new.reached)
          (subst (λ (m : History). IsNext h s.reached b.from b.by m) (sym new.twin) on.next);
    }

-- what was known of its twin is known
pub known_recent : (p : Plan) (s t : Search) (to : Cursors) → KeepsOthers p s t → IsKnown p.start t.reached to t.twin.state
    → IsKnown p.start s.reached to s.twin.state
known_recent p s t to new known =
    subst (λ (r : Reached). IsKnown p.start r to s.twin.state) new.reached
    (subst (λ (m : History). IsKnown p.start t.reached to m.state) new.twin known)
