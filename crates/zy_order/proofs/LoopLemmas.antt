-- One path after another is followed.
use Rattle.std.proofs.Common.{◌≡◌, ◌∙◌, ℕ, zero, suc, ◌<◌, ◌≤◌, ◌⊎◌, inl, inr, List, [], ◌∷◌, ◌++◌, length, refl, ◌+◌, Bool, ◌&&◌, sym, ap, subst, arith, true, get_or}
use Rattle.std.proofs.Common.{Option, None, Some, Result, Ok, Err, OnOk, IfOk}
use Rattle.std.specs.Prelude.{Contains, IsSome, option_to_list, sum}
use Rattle.std.specs.List.{All}
use Rattle.std.proofs.lemmas.List.Sums.{sum_by-cons}
use Rattle.std.proofs.Math.Bool.{false≢true}
use Rattle.std.proofs.lemmas.Bool.{cases_lt}
use Rattle.std.proofs.lemmas.List.Elements.{Contains-append_left, Contains-push, Contains-push_cases}
use Rattle.zy_isa.specs.declared.choice.Choice.{Choice}
use Rattle.zy_isa.specs.declared.choice.Choice.TheVariants.{Start, Begin, Kill, Run, Take, Finish, Push}
use Rattle.zy_isa.specs.declared.node.Actor.{Actor}
use Rattle.zy_isa.specs.declared.node.Node.{Node}
use Rattle.zy_isa.specs.declared.node.Node.TheVariants as node
use Rattle.zy_isa.specs.declared.node.Actor.TheVariants.{C, A, B}
use Rattle.zy_isa.specs.Choices.{actor_of, actor_at, names_below}
use Rattle.zy_table.specs.declared.observation.Observation.{Observation}
use Rattle.zy_table.specs.Play.{step}
use Rattle.zy_isa.specs.declared.version.Version.{Version}
use Rattle.zy_patterns.specs.declared.patterns.OutcomePattern.{OutcomePattern}
use Rattle.zy_patterns.specs.declared.patterns.OutcomePattern.TheVariants as pattern
use Rattle.zy_logs.specs.declared.log_line.LogLine.{LogLine}
use Rattle.zy_search.specs.Searches.{reached}
use Rattle.zy_machine.specs.Histories.{History}
use Rattle.zy_search.specs.Visits.{path_at}
use Rattle.zy_order.specs.Machines.{IsPlaced, AreRecentMachines}
use Rattle.zy_search.specs.Choices.{is_considered, considered}
use Rattle.zy_search.proofs.ChoiceLemmas.{has_considered}
use Rattle.zy_search.proofs.MeetLemmas.{is_one}
use Rattle.zy_search.proofs.SearchLemmas.{named_if}
use Rattle.zy_order.specs.declared.logs.Logs.{Logs}
use Rattle.zy_order.specs.declared.cursors.Cursors.{Cursors}
use Rattle.zy_order.specs.declared.plan.Plan.{Plan}
use Rattle.zy_order.specs.declared.reached.Reached.{Reached}
use Rattle.zy_order.specs.declared.search.Search.{Search}
use Rattle.zy_order.specs.declared.turns.Turns.{Turns}
use Rattle.zy_order.specs.declared.line.Met.{Met}
use Rattle.zy_order.specs.declared.line.Met.TheVariants as met
use Rattle.zy_order.specs.declared.gaps.Gaps.{Gaps}
use Rattle.zy_order.specs.Gaps.{gaps_of, gap_count}
use Rattle.zy_order.specs.declared.tellers.StepLines.{StepLines}
use Rattle.zy_order.specs.declared.tellers.Tellers.{Tellers}
use Rattle.zy_order.specs.declared.tellers.Tellers.TheVariants.{One, Both}
use Rattle.zy_order.specs.Twins.{HasTwin, comes_once}
use Rattle.zy_order.specs.Orders.{Agree}
use Rattle.zy_order.specs.Ways.{log_of, cursor_of, cursor, at_start, cursors_in, gap_at, advanced_by, with_missing, ComeBy, ComeNext, TellNext, HasGap}
use Rattle.zy_order.specs.Reaches.{all_kinds, cursors_at, is_nothing, alone_at, IsReached, Extends, IsMet, IsMetWith, AreMet, IsTried, AreTried, AgreeAt, MayBeAlone, LeadsOn}
use Rattle.zy_order.specs.Reaches.{FollowsAll, FollowsAlone, IsCompleteAt, IsFollowed, AreFollowedBut, HasEachActor, IsMetBy}
use Rattle.zy_order.specs.Reaches.{Adds, Follows, IsPlan, IsTaken, IsWayOf, IsKnown, observation_by, state_by}
use Rattle.zy_order.proofs.WayLemmas.{no_client, same_lines}
use Rattle.zy_order.proofs.ReachLemmas.{extends_same, complete_before, met_on, tried_on, followed_on}

-- ---- what is to do

-- A search begins: the empty path alone is reached, and is to be followed.
module _ (p : Plan) (s : Search) (plan : IsPlan p) (paths : s.reached.visited ≡ [] ∷ []) (cursors : s.reached.cursors.items ≡ at_start ∷ [])
    (todo : s.reached.todo.items ≡ 0 ∷ []) (machines : s.recent.machines.items ≡ [])
    (checkpoints : s.recent.checkpoints.points.items ≡ [])
    (spare : s.recent.spare ≡ record { machine = p.start; at = None }) (twin : s.twin ≡ p.start) where
  -- there is one path
  one : length s.reached.visited ≡ 1
  one = ap (λ (ps : List (List Choice)). length ps) paths

  -- its place is 0
  at_first : (i : ℕ) → i < length s.reached.visited → 0 ≡ i
  at_first i lt = omega (arith, lt, one)

  -- it is empty
  first_path : path_at s.reached.visited 0 ≡ []
  first_path = ap (λ (ps : List (List Choice)). path_at ps 0) paths

  -- it leads to the start of the logs
  first_cursors : cursors_at s.reached 0 ≡ at_start
  first_cursors = ap (λ (gs : List Cursors). cursors_in gs 0) cursors

  -- so it is a way
  first_way : IsWayOf p (path_at s.reached.visited 0) (cursors_at s.reached 0)
  first_way =
      subst (λ (q : List Choice). IsWayOf p q (cursors_at s.reached 0)) (sym first_path)
      (subst (λ (g : Cursors). IsWayOf p [] g) (sym first_cursors) refl)

  -- nothing else is to do
  first_todo : (i : ℕ) → Contains s.reached.todo.items i → i < length s.reached.visited
  first_todo i at = elim (Contains-push_cases [] 0 i (subst (λ (t : List ℕ). Contains t i) todo at)) [
    | inl none ↦ absurd (omega (arith, none.1))
    | inr same ↦ omega (arith, same, one)
  ]

  -- what is reached is as it should be
  first_reached : IsReached p s.reached
  first_reached = record {
    some = omega (arith, one);
    few = omega (arith, one);
    first = first_path;
    start = first_cursors;
    ways = λ i lt. subst (λ (j : ℕ). IsWayOf p (path_at s.reached.visited j) (cursors_at s.reached j)) (at_first i lt) first_way;
    many = ap (λ (gs : List Cursors). length gs) cursors ∙ sym one;
    there = first_todo;
  }

  -- no machine is placed
  first_recent : AreRecentMachines p.start s.reached.visited s.recent
  first_recent = record {
    machines = subst (All (IsPlaced p.start s.reached.visited)) (sym machines) (λ k d lt. absurd (omega (arith, lt)));
    checkpoints = subst (All (IsPlaced p.start s.reached.visited)) (sym checkpoints) (λ k d lt. absurd (omega (arith, lt)));
    spare = subst (IsPlaced p.start s.reached.visited) (sym spare) (record { scenario = refl; here = tt });
  }

  -- the path is to be followed, and there is no other
  pub begins : Follows p s
  begins = record {
    search = record {
      under_way = record { plan = plan; reached = first_reached };
      recent = first_recent;
      twin = ap (λ (m : History). m.scenario) twin;
    };
    followed = λ i lt.
        inl (subst (Contains s.reached.todo.items) (at_first i lt) (subst (λ (t : List ℕ). Contains t 0) (sym todo) (Contains-push [] 0)));
  }

module _ (p : Plan) (r new : Reached) (o : Option ℕ) (is : IsReached p r) (e : r.todo.items ≡ new.todo.items ++ option_to_list o)
    (paths : new.visited ≡ r.visited) (cursors : new.cursors.items ≡ r.cursors.items) where
  -- a path was reached before the last place to do was taken
  old : (i : ℕ) → i < length new.visited → i < length r.visited
  old i lt = subst (λ (ps : List (List Choice)). i < length ps) paths lt

  -- its cursors are where they were
  same_cursors : (i : ℕ) → cursors_at new i ≡ cursors_at r i
  same_cursors i = ap (λ (l : List Cursors). cursors_in l i) cursors

  -- a place that is still to do was to do before
  still : (i : ℕ) → Contains new.todo.items i → Contains r.todo.items i
  still i left = subst (λ (t : List ℕ). Contains t i) (sym e) (Contains-append_left new.todo.items (option_to_list o) i left)

  -- what is reached is still as it should be
  pub taken_reached : IsReached p new
  taken_reached = record {
    some = rw paths is.some;
    few = rw paths is.few;
    first = ap (λ (ps : List (List Choice)). path_at ps 0) paths ∙ is.first;
    start = same_cursors 0 ∙ is.start;
    ways = λ i lt.
        subst (λ (g : Cursors). IsWayOf p (path_at new.visited i) g) (sym (same_cursors i))
        (subst (λ (ps : List (List Choice)). IsWayOf p (path_at ps i) (cursors_at r i)) (sym paths) (is.ways i (old i lt)));
    many = ap (λ (l : List Cursors). length l) cursors ∙ (is.many ∙ ap (λ (ps : List (List Choice)). length ps) (sym paths));
    there = λ i left. subst (λ (ps : List (List Choice)). i < length ps) (sym paths) (is.there i (still i left));
  }

  -- what was followed still is
  pub taken_followed : (i : ℕ) → i < length r.visited → IsFollowed p r i → IsFollowed p new i
  taken_followed i lt done = followed_on p r new i (extends_same r new paths cursors) lt done

-- where the last place to do was taken, each path but it and those that are still to do was followed; where none was to do, each was
pub taken : (p : Plan) (r new : Reached) (o : Option ℕ) → IsReached p r → AreFollowedBut p r r.todo.items
    → r.todo.items ≡ new.todo.items ++ option_to_list o → (0 < length r.todo.items → IsSome o) → new.visited ≡ r.visited
    → new.cursors.items ≡ r.cursors.items → IsTaken p new o
taken p r new None is followed e some paths cursors = λ i lt.
    let was = old p r new None is e paths cursors i lt in
    elim (followed i was) [
      | inl here ↦ absurd (false≢true (some (omega (arith, here.1))))
      | inr done ↦ taken_followed p r new None is e paths cursors i was done
    ]
taken p r new (Some at) is followed e some paths cursors =
    let here : Contains r.todo.items at = subst (λ (t : List ℕ). Contains t at) (sym e) (Contains-push new.todo.items at) in (
      subst (λ (ps : List (List Choice)). at < length ps) (sym paths) (is.there at here),
      λ i lt.
          let was = old p r new (Some at) is e paths cursors i lt in
          elim (followed i was) [
            | inl left ↦ inl (subst (λ (t : List ℕ). Contains t i) e left)
            | inr done ↦ inr (taken_followed p r new (Some at) is e paths cursors i was done)
          ],
    )

-- once its path is followed, each but those that are to do then was followed
pub followed_next : (p : Plan) (s new : Search) (at : ℕ) → IsTaken p s.reached (Some at) → Adds p s new → IsFollowed p new.reached at
    → AreFollowedBut p new.reached new.reached.todo.items
followed_next p s new at is adds done = λ i there.
    elim (cases_lt i (length s.reached.visited)) [
      | inr past ↦ inl (adds.more i past there)
      | inl below ↦
          elim (is.1 i below) [
            | inr old ↦ inr (followed_on p s.reached new.reached i adds.extends below old)
            | inl here ↦
                elim (Contains-push_cases s.reached.todo.items at i here) [
                  | inl left ↦ inl (adds.still i left)
                  | inr same ↦ inr (subst (IsFollowed p new.reached) same done)
                ]
          ]
    ]

-- ---- the three actors

-- where the lines of three actors are met, and these are all, all are
pub all_met : (h : History) (l : Logs) (r : Reached) (at : ℕ) (t : Turns) → HasEachActor t → IsMetWith h l r at t.first → IsMetWith h l r at t.second
    → IsMetWith h l r at t.third
    → AreMet h l r at
all_met h l r at t all first second third = λ x.
    elim (all x) [
      | inl e ↦ subst (IsMetWith h l r at) (sym e) first
      | inr other ↦
          elim other [
            | inl e ↦ subst (IsMetWith h l r at) (sym e) second
            | inr e ↦ subst (IsMetWith h l r at) (sym e) third
          ]
    ]

module _ (h : History) (l : Logs) (r : Reached) (i : ℕ) (lines : StepLines) (next : ComeNext h.scenario.version l (cursors_at r i) lines) where
  -- what comes next of the same logs is these lines
  tell_same : (o : Observation) (tell : TellNext h.scenario.version l (cursors_at r i) o) → tell.lines.by ≡ lines.by
      → (lines.line ≡ tell.lines.line) × (lines.other ≡ tell.lines.other)
  tell_same o tell same =
      let m = tell.lines in
      same_lines h.scenario.version l (cursors_at r i) lines.by lines.line m.line lines.other m.other next
      (subst (λ (by : Tellers). ComeBy by h.scenario.version l (cursors_at r i) m.line m.other) same tell.next)

  -- lines that come next and lead on are met
  met_leads : LeadsOn h r i lines → IsMet h l r i lines.by
  met_leads leads = λ c tell by.
      let one = tell_same (observation_by h r i c) tell by in
      let same : lines.line.choice ≡ c = ap (λ (m : LogLine). m.choice) one.0 ∙ tell.choice in
      subst (λ (d : Choice). IsKnown h r (advanced_by lines.by (cursors_at r i)) (state_by h r i d)) same leads.known

  -- so are those that do not fit
  met_unfit : (AgreeAt h r i lines → ⊥) → IsMet h l r i lines.by
  met_unfit unfit = λ c tell by.
      let o = observation_by h r i c in
      let one = tell_same o tell by in
      let same : lines.line.choice ≡ c = ap (λ (m : LogLine). m.choice) one.0 ∙ tell.choice in
      let agree : Agree lines.line lines.other o = subst (λ (m : Option LogLine). Agree lines.line m o) (sym one.1)
      (subst (λ (m : LogLine). Agree m tell.lines.other o) (sym one.0) tell.agree) in
      absurd (unfit (subst (λ (d : Choice). Agree lines.line lines.other (observation_by h r i d)) (sym same) agree))

-- lines that come next where a path leads are met, after the search has gone on, if they lead on then or do not fit
pub lines_met : (h : History) (l : Logs) (r new : Reached) (i : ℕ) (lines : StepLines) → Extends r new → i < length r.visited
    → ComeNext h.scenario.version l (cursors_at r i) lines → LeadsOn h new i lines ⊎ (AgreeAt h new i lines → ⊥) → IsMet h l new i lines.by
lines_met h l r new i lines e lt next came =
    let there = subst (λ (g : Cursors). ComeNext h.scenario.version l g lines) (sym (e.cursors i lt)) next in
    elim came [
      | inl leads ↦ met_leads h l new i lines there leads
      | inr unfit ↦ met_unfit h l new i lines there unfit
    ]

-- where no lines of some logs come next, they are met
pub none_met : (h : History) (l : Logs) (r : Reached) (i : ℕ) (by : Tellers)
    → ((lines : StepLines) → lines.by ≡ by → ComeNext h.scenario.version l (cursors_at r i) lines → ⊥) → IsMet h l r i by
none_met h l r i by none = λ c tell same. absurd (none tell.lines same tell.next)

-- nodes that are one actor are the same
same_node : (n m : Node) → actor_at n ≡ actor_at m → n ≡ m
same_node node.A node.A e = refl
same_node node.A node.B e = cc e
same_node node.B node.A e = cc e
same_node node.B node.B e = refl

-- the client's next line is met with no other
pub client_met : (h : History) (l : Logs) (r : Reached) (i : ℕ) (x : Actor) → x ≡ C → IsMet h l r i (One x) → IsMetWith h l r i x
client_met h l r i x client met = (met, λ n own. absurd (no_client n (sym client ∙ own)))

-- a node's next line is met, alone and then with the client's
pub node_met : (h : History) (l : Logs) (r new : Reached) (i : ℕ) (n : Node) (x : Actor) → x ≡ actor_at n → Extends r new → i < length r.visited
    → IsMet h l r i (One x) → IsMet h l new i (Both n) → IsMetWith h l new i x
node_met h l r new i n x at_n e lt one both =
    (met_on h l r new i (One x) e lt one, λ m own. subst (λ (k : Node). IsMet h l new i (Both k)) (same_node n m (sym at_n ∙ own)) both)

-- a next line that may be followed alone and leads on is
pub alone_leads : (h : History) (l : Logs) (r new : Reached) (i : ℕ) (n : Node) (line : LogLine) (m : Met) → Extends r new → i < length r.visited
    → MayBeAlone n l (cursors_at r i) line → IsMetBy h new i (alone_at n line) m → m ≡ met.Known → FollowsAlone h l new i
alone_leads h l r new i n line m e lt may came known = record {
  node = n;
  line = line;
  may = subst (λ (g : Cursors). MayBeAlone n l g line) (sym (e.cursors i lt)) may;
  leads = subst (IsMetBy h new i (alone_at n line)) known came;
}

-- of what a line that may be followed alone tells nothing comes only once
nothing_often : (v : Version) (t : OutcomePattern) → is_nothing t ≡ true → comes_once v t ≡ true → ⊥
nothing_often v pattern.BadMode nothing once = false≢true once
nothing_often v pattern.Idle nothing once = false≢true once
nothing_often v pattern.Elsewhere nothing once = false≢true once
nothing_often v pattern.NotYet nothing once = false≢true once
nothing_often v (pattern.Waits page) nothing once = false≢true once
nothing_often v (pattern.Awaits page) nothing once = false≢true once
nothing_often v pattern.NoMessage nothing once = false≢true once
nothing_often v (pattern.Held page) nothing once = false≢true once
nothing_often v pattern.Stray nothing once = false≢true once
nothing_often v (pattern.Active txn) nothing once = false≢true once
nothing_often v pattern.NoPush nothing once = false≢true once
nothing_often v t nothing once = false≢true nothing

-- so it has no twin
pub no_twin_alone : (v : Version) (n : Node) (l : Logs) (g : Cursors) (line : LogLine) → MayBeAlone n l g line → HasTwin v (λ x. log_of x l) line → ⊥
no_twin_alone v n l g line may twin =
    let once = twin.1.4.first in
    elim may.tells [
      | inl did ↦
          let same : Some pattern.Did ≡ Some once.what = sym did.did ∙ once.told in
          let is : pattern.Did ≡ once.what = cc same in
          absurd (false≢true (ap (comes_once v) is ∙ once.once))
      | inr nothing ↦
          let same : Some nothing.what ≡ Some once.what = sym nothing.told ∙ once.told in
          let is : nothing.what ≡ once.what = cc same in
          nothing_often v nothing.what nothing.nothing (ap (comes_once v) is ∙ once.once)
    ]

-- ---- missing steps

-- where a choice leads to a state that is known, it is tried
pub tried_by : (h : History) (l : Logs) (r new : Reached) (i : ℕ) (c : Choice) (to : Cursors) → Extends r new → i < length r.visited
    → to ≡ with_missing (actor_of c) (cursors_at r i) → IsKnown h new to (state_by h r i c) → IsTried h l new i c
tried_by h l r new i c to e lt there known =
    let x = actor_of c in
    let after : IsKnown h new (with_missing x (cursors_at r i)) (state_by h r i c) =
    subst (λ (f : Cursors). IsKnown h new f (state_by h r i c)) there known in
    subst (λ (f : Cursors). HasGap x l f → IsKnown h new (with_missing x f) (state_by h new i c)) (sym (e.cursors i lt))
    (subst (λ (path : List Choice). HasGap x l (cursors_at r i)
    → IsKnown h new (with_missing x (cursors_at r i)) (step h.scenario c (reached h path)).after) (sym (e.paths.same i lt)) (λ gap. after))

-- one number is no more than all together
one_of_sum : (ns : List ℕ) (k : ℕ) → get_or ns k 0 ≤ sum ns
one_of_sum [] k = omega arith
one_of_sum (n ∷ ns) zero = omega (arith, sum_by-cons (λ m. m) n ns)
one_of_sum (n ∷ ns) (suc k) = omega (arith, sum_by-cons (λ m. m) n ns, one_of_sum ns k)

-- the gaps of an actor are no more than all together
gaps_few : (x : Actor) (g : Gaps) → sum (gaps_of x g) ≤ gap_count g
gaps_few C g = omega arith
gaps_few A g = omega arith
gaps_few B g = omega arith

-- where one step more may be missing there is room to count it
pub missing_few : (p : Plan) (x : Actor) (g : Cursors) → IsPlan p → HasGap x p.logs g → (cursor_of x g).missing < 65535
missing_few p x g plan gap =
    let few : gap_at (gaps_of x p.logs.gaps) (cursor_of x g) ≤ sum (gaps_of x p.logs.gaps) = one_of_sum (gaps_of x p.logs.gaps) (cursor x g) in
    omega (arith, gap, few, gaps_few x p.logs.gaps, plan.room)

-- each of the first n choices of a list is tried
abbrev pub AreTriedTo : History → Logs → Reached → ℕ → List Choice → ℕ → Type 0
AreTriedTo h l r at cs n = (j : ℕ) → j < n → IsTried h l r at (get_or cs j Start)

-- the choice at a place is named
pub named_at : (count i : ℕ) (cs : List Choice) → cs ≡ considered all_kinds count → i < length cs → names_below count (get_or cs i Start) ≡ true
named_at count i cs e lt = named_if all_kinds count (get_or cs i Start) (is_one all_kinds count i cs e lt)

-- one more is tried
pub tried_next : (h : History) (l : Logs) (r new : Reached) (at n : ℕ) (cs : List Choice) (c : Choice) → Extends r new → at < length r.visited
    → c ≡ get_or cs n Start → AreTriedTo h l r at cs n → IsTried h l new at c → AreTriedTo h l new at cs (n + 1)
tried_next h l r new at n cs c e lt same tried last = λ j less.
    elim (cases_lt j n) [
      | inl before ↦ tried_on h l r new at (get_or cs j Start) e lt (tried j before)
      | inr past ↦
          let here : n ≡ j = omega (arith, past, less) in
          subst (λ (k : ℕ). IsTried h l new at (get_or cs k Start)) here (subst (IsTried h l new at) same last)
    ]

-- all kinds of choices are considered
considers_all : (count : ℕ) (c : Choice) → names_below count c ≡ true → is_considered all_kinds count c ≡ true
considers_all count Start named = refl
considers_all count (Begin t) named = subst (λ (b : Bool). (b && true) ≡ true) (sym named) refl
considers_all count (Kill t) named = subst (λ (b : Bool). (b && true) ≡ true) (sym named) refl
considers_all count (Run m t) named = subst (λ (b : Bool). (b && true) ≡ true) (sym named) refl
considers_all count (Take m) named = refl
considers_all count (Finish m) named = refl
considers_all count (Push m) named = refl

-- where each of all choices is tried, all are
pub all_tried : (h : History) (l : Logs) (r : Reached) (at n : ℕ) (cs : List Choice) → cs ≡ considered all_kinds (length h.scenario.programs)
    → length cs ≤ n → AreTriedTo h l r at cs n → AreTried h l r at
all_tried h l r at n cs e le tried = λ c named.
    let count = length h.scenario.programs in
    let here = has_considered all_kinds count c (considers_all count c named) in
    let all = ap (λ (ds : List Choice). length ds) e in
    let is : get_or cs here.0 Start ≡ c = ap (λ (ds : List Choice). get_or ds here.0 Start) e ∙ here.2 in
    subst (IsTried h l r at) is (tried here.0 (omega (arith, here.1, all, le)))

-- where each choice was tried and then each next line met, all steps were followed
pub all_followed : (h : History) (l : Logs) (r new : Reached) (at : ℕ) → at < length r.visited → Extends r new → AreTried h l r at → AreMet h l new at
    → FollowsAll h l new at
all_followed h l r new at lt e tried met = record { tried = λ c named. tried_on h l r new at c e lt (tried c named); met = met }

-- where steps of a path were followed, and it is no order with the end that is asked for, it was followed
pub is_followed : (p : Plan) (r new : Reached) (at : ℕ) → at < length r.visited → Extends r new → (IsCompleteAt p r at → ⊥)
    → FollowsAll p.start p.logs new at ⊎ FollowsAlone p.start p.logs new at → IsFollowed p new at
is_followed p r new at lt e part steps = record { part = λ end. part (complete_before p r new at e lt end); steps = steps }

-- ---- results

-- what follows of a call's result from what holds where it succeeds
pub if_ok : {X E : Type 0} (P : Type 0) (Q S : X → Type 0) (r : Result X E) → ((x : X) → P → Q x → S x) → OnOk r P → IfOk r Q → IfOk r S
if_ok P Q S (Ok x) f p q = f x p q
if_ok P Q S (Err e) f p q = tt

-- and from what two facts say of it there
pub on_ok_both : {X E : Type 0} (P Q S : Type 0) (r : Result X E) → (P → Q → S) → OnOk r P → OnOk r Q → OnOk r S
on_ok_both P Q S (Ok x) f p q = f p q
on_ok_both P Q S (Err e) f p q = tt
