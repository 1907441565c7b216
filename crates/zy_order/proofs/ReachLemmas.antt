-- What a search knows of the paths that it has reached.
use Rattle.std.proofs.Common.{◌≡◌, ◌∙◌, ℕ, zero, suc, ◌+◌, ◌<◌, ◌≤◌, inl, inr, List, [], ◌∷◌, length, refl, sym, ap, subst, arith, Option, None, Some}
use Rattle.std.proofs.lemmas.Option.{slice_get_within}
use Rattle.zy_isa.specs.Scenario.{Scenario}
use Rattle.zy_isa.specs.declared.node.Node.{Node}
use Rattle.zy_isa.specs.declared.node.Actor.{Actor}
use Rattle.zy_isa.specs.declared.node.Actor.TheVariants.{C, A, B}
use Rattle.zy_isa.specs.declared.choice.Choice.{Choice}
use Rattle.zy_isa.specs.Choices.{actor_of, actor_at}
use Rattle.zy_model.specs.Order.{LocksRise}
use Rattle.zy_table.specs.declared.observation.Observation.{Observation}
use Rattle.zy_table.specs.State.{State, facing}
use Rattle.zy_table.specs.Play.{play, step}
use Rattle.zy_laws.proofs.walk.PlayPush.{play-keeps}
use Rattle.zy_laws.proofs.order.ListsInOrder.{Tidy, ordered_from, step_tidy, tidy}
use Rattle.zy_machine.specs.Histories.{History, choices_of}
use Rattle.zy_logs.specs.declared.log_line.LogLine.{LogLine}
use Rattle.zy_search.specs.Searches.{reached}
use Rattle.zy_search.specs.Visits.{path_at, Grows}
use Rattle.zy_search.proofs.SearchLemmas.{grows_on}
use Rattle.zy_order.specs.declared.logs.Logs.{Logs}
use Rattle.zy_order.specs.declared.cursors.Cursors.{Cursors}
use Rattle.zy_order.specs.declared.plan.Plan.{Plan}
use Rattle.zy_order.specs.declared.reached.Reached.{Reached}
use Rattle.zy_order.specs.Answers.{HasEnd}
use Rattle.zy_table.specs.Observations.{observation_at}
use Rattle.zy_isa.specs.Integers.{max_u16}
use Rattle.zy_order.specs.declared.tellers.StepLines.{StepLines}
use Rattle.zy_order.specs.declared.tellers.Tellers.{Tellers}
use Rattle.zy_order.specs.declared.tellers.Tellers.TheVariants.{One, Both}
use Rattle.zy_order.specs.Orders.{Agree}
use Rattle.zy_order.specs.Ways.{log_of, cursor, at_start, cursors_in, advanced, advanced_by, with_missing, of_nodes, line_count, Tells}
use Rattle.zy_order.specs.Ways.{IsNoFurther, NeedNoMore, AreMatched, IsNextLine, ComeBy, TellNext, HasGap, Leads, IsWay}
use Rattle.zy_order.specs.Reaches.{cursors_at, observation_by, state_by, alone_at, Extends, IsKnown, IsReached, IsMet, IsMetWith, AreMet, IsTried, FollowsAll}
use Rattle.zy_order.specs.Reaches.{AgreeAt, MayBeAlone, LeadsOn, FollowsAlone}
use Rattle.zy_order.specs.Reaches.{IsCompleteAt, IsFollowed, IsFurthestPath, IsWayOf, IsFurthestWay, IsOtherEndWay, IsPlan}
use Rattle.zy_order.proofs.NeedLemmas.{need_self, need_missing, need_lines, way_less, matched_less, no_further_less, no_further_self, no_further_on}
use Rattle.zy_order.proofs.WayLemmas.{along, log_few, within_start}
use Rattle.zy_order.proofs.AloneLemmas.{BeginsBy, begins_by}

-- ---- each way is outdone

-- where each actor's next line is met, lines of any logs are
met_by : (h : History) (l : Logs) (r : Reached) (i : ℕ) → AreMet h l r i → (by : Tellers) → IsMet h l r i by
met_by h l r i met (One x) = (met x).0
met_by h l r i met (Both n) = (met (actor_at n)).1 n refl

-- where all steps were followed, each step that leads on leads where a path does
all_lead : (h : History) (l : Logs) (r : Reached) (i : ℕ) (c : Choice) (next : Cursors) → FollowsAll h l r i
    → Leads h.scenario l (cursors_at r i) (observation_by h r i c) next → IsKnown h r next (state_by h r i c)
all_lead h l r i c next is leads =
    elim leads [
      | inl by ↦ subst (λ (g : Cursors). IsKnown h r g (state_by h r i c)) (sym by.1) (met_by h l r i is.met by.0.lines.by c by.0 refl)
      | inr by ↦ subst (λ (g : Cursors). IsKnown h r g (state_by h r i c)) (sym by.1) (is.tried c by.0.named by.0.gap)
    ]

-- how many lines are matched
abbrev lines_in : Cursors → ℕ
lines_in g = g.c.lines + of_nodes g

-- with one line more of an actor there is one more
lines_advanced : (x : Actor) (g : Cursors) → lines_in (advanced x g) ≡ lines_in g + 1
lines_advanced C g = omega arith
lines_advanced A g = omega arith
lines_advanced B g = omega arith

-- so there are more with those of a step
lines_by : (by : Tellers) (g : Cursors) → lines_in g < lines_in (advanced_by by g)
lines_by (One x) g = omega (arith, lines_advanced x g)
lines_by (Both n) g = omega (arith, lines_advanced (actor_at n) (advanced C g), lines_advanced C g)

-- a step leads to no fewer lines
lines_lead : (sc : Scenario) (l : Logs) (g : Cursors) (o : Observation) (to : Cursors) → Leads sc l g o to → lines_in g ≤ lines_in to
lines_lead sc l g o to leads = elim leads [
  | inl by ↦ omega (arith, lines_by by.0.lines.by g, ap lines_in by.1)
  | inr by ↦ omega (arith, need_lines g (with_missing (actor_of o.entry.choice) g) (need_missing (actor_of o.entry.choice) g), ap lines_in by.1)
]

-- a path leads as far as a way to cursors and a state; where these match all lines it does, too, and leads to the same state
pub record IsOutdone (p : Plan) (r : Reached) (to : Cursors) (s : State) : Type 0 where
  pub place : ℕ
  pub there : place < length r.visited
  pub further : IsNoFurther to (cursors_at r place)
  pub whole : AreMatched p.logs to → AreMatched p.logs (cursors_at r place)
  pub ends : AreMatched p.logs to → reached p.start (path_at r.visited place) ≡ s

-- so it does as far as cursors that need more missing steps
outdone_less : (p : Plan) (r : Reached) (f g : Cursors) (s : State) → NeedNoMore f g → IsOutdone p r f s → IsOutdone p r g s
outdone_less p r f g s n is = record {
  place = is.place;
  there = is.there;
  further = no_further_less f g (cursors_at r is.place) n is.further;
  whole = λ end. is.whole (matched_less p.logs f g n end);
  ends = λ end. is.ends (matched_less p.logs f g n end);
}

-- Each path was followed.
module _ (p : Plan) (r : Reached) (plan : IsPlan p) (is : IsReached p r) (all : (i : ℕ) → i < length r.visited → IsFollowed p r i) where
  abbrev h : History
  h = p.start

  abbrev l : Logs
  l = p.logs

  -- the state where the path at a place leads
  abbrev state_at : ℕ → State
  state_at i = reached h (path_at r.visited i)

  -- no more lines are matched there than there are
  lines_few : (i : ℕ) → i < length r.visited → lines_in (cursors_at r i) ≤ line_count l
  lines_few i lt =
      let within = (along h.scenario l at_start h.state (path_at r.visited i) (cursors_at r i) plan.gaps (within_start l) (is.ways i lt)).within in
      omega (arith, within.of_c.lines, within.of_a.lines, within.of_b.lines)

  -- each way from a path is outdone, if no more choices and lines are left than this
  abbrev Ends : ℕ → Type 0
  Ends most = (i : ℕ) → i < length r.visited → (cs : List Choice) (to : Cursors) → IsWay h.scenario l (cursors_at r i) (state_at i) cs to
      → length cs + line_count l ≤ most + lines_in (cursors_at r i) → IsOutdone p r to (play h.scenario (state_at i) cs)

  -- one without a choice is
  ends_here : (i : ℕ) → i < length r.visited → (to : Cursors) → cursors_at r i ≡ to → IsOutdone p r to (state_at i)
  ends_here i lt to way =
      subst (λ (g : Cursors). IsOutdone p r g (state_at i)) way (record {
        place = i;
        there = lt;
        further = no_further_self (cursors_at r i);
        whole = λ end. end;
        ends = λ end. refl;
      })

  -- so is one from where a path leads
  from_known : (most : ℕ) → Ends most → (g : Cursors) (s : State) → IsKnown h r g s → (cs : List Choice) (to : Cursors) → IsWay h.scenario l g s cs to
      → length cs + line_count l ≤ most + lines_in g → IsOutdone p r to (play h.scenario s cs)
  from_known most ends g s known cs to way few =
      let i = known.0 in
      let here = subst (λ (x : State). IsWay h.scenario l g x cs to) (sym known.3) way in
      let less = way_less h.scenario l (cursors_at r i) g (state_at i) cs to known.2 here in
      subst (λ (x : State). IsOutdone p r to (play h.scenario x cs)) known.3
      (outdone_less p r less.end to (play h.scenario (state_at i) cs) less.need
      (ends i known.1 cs less.end less.way (omega (arith, few, need_lines (cursors_at r i) g known.2))))

  -- the locks of a node are in order there
  locks_at : (n : Node) (i : ℕ) → LocksRise (facing n (state_at i)).me.locks
  locks_at n i =
      let sc = h.scenario in
      let start = subst Tidy (sym plan.replay.state) (tidy sc plan.replay.tested (choices_of h.entries)) in
      let here = play-keeps sc Tidy (step_tidy sc) (path_at r.visited i) h.state start in
      (ordered_from n (state_at i) here.ordered).mine.locks

  -- where a line was followed alone, a way that begins by it leads as far
  begins_at : (i : ℕ) (one : FollowsAlone h l r i) (cs : List Choice) (to : Cursors) → IsWay h.scenario l (cursors_at r i) (state_at i) cs to
      → BeginsBy h.scenario l one.line.choice (cursors_at r i) (state_at i) cs to (actor_at one.node)
  begins_at i one cs to way =
      begins_by h.scenario l one.node (cursors_at r i) (state_at i) one.line plan.lines (locks_at one.node i) one.may one.leads.agree.0 cs to way

  -- one choice or one line fewer is left behind a step
  ends_more : (most : ℕ) → Ends most → Ends (suc most)
  ends_more most ends i lt [] to way few = ends_here i lt to way
  ends_more most ends i lt (c ∷ cs) to way few =
      let g = cursors_at r i in
      elim (all i lt).steps [
        | inl each ↦
            let lines = lines_lead h.scenario l g (observation_by h r i c) way.0 way.1 in
            from_known most ends way.0 (state_by h r i c) (all_lead h l r i c way.0 each way.1) cs to way.2 (omega (arith, few, lines))
        | inr one ↦
            let begins = begins_at i one (c ∷ cs) to way in
            let x = actor_at one.node in
            let end = from_known most ends (advanced x g) (state_by h r i one.line.choice) one.leads.known begins.choices begins.end begins.way
            (omega (arith, few, begins.few, lines_advanced x g)) in
            record {
              place = end.place;
              there = end.there;
              further = no_further_on to begins.end (cursors_at r end.place) begins.further end.further;
              whole = λ whole. end.whole (begins.whole whole);
              ends = λ whole. end.ends (begins.whole whole) ∙ begins.ends whole;
            }
      ]

  -- so each is
  ends_all : (most : ℕ) → Ends most
  ends_all zero i lt [] to way few = ends_here i lt to way
  ends_all zero i lt (c ∷ cs) to way few = absurd (omega (arith, few, lines_few i lt))
  ends_all (suc most) i lt cs to way few = ends_more most (ends_all most) i lt cs to way few

  -- and each way from the start
  pub way_outdone : (cs : List Choice) (to : Cursors) → IsWayOf p cs to → IsOutdone p r to (reached h cs)
  way_outdone cs to way =
      let start : NeedNoMore (cursors_at r 0) at_start = subst (NeedNoMore (cursors_at r 0)) is.start (need_self (cursors_at r 0)) in
      let known : IsKnown h r at_start h.state = (0, is.some, start, ap (reached h) is.first) in
      let most = length cs + line_count l in
      from_known most (ends_all most) at_start h.state known cs to way (omega arith)

-- where no kept cursors are further than those of a path, no other path leads further
path_furthest : (p : Plan) (r : Reached) (best : ℕ) → IsReached p r → IsFurthestPath r best → (i : ℕ) → i < length r.visited
    → IsNoFurther (cursors_at r i) (cursors_at r best)
path_furthest p r best is furthest i at = furthest i (omega (arith, at, is.many))

-- so where no path matches all lines no way does, and none leads further than the path that leads furthest
pub furthest_way : (p : Plan) (r : Reached) (best : ℕ) → IsPlan p → IsReached p r → best < length r.cursors.items → IsFurthestPath r best
    → ((i : ℕ) → i < length r.visited → IsFollowed p r i) → ((i : ℕ) → i < length r.cursors.items → AreMatched p.logs (cursors_at r i) → ⊥)
    → IsFurthestWay p (path_at r.visited best) (cursors_at r best)
furthest_way p r best plan is lt furthest all unmatched = record {
  way = is.ways best (omega (arith, lt, is.many));
  none = λ cs end way whole.
      let out = way_outdone p r plan is all cs end way in
      unmatched out.place (omega (arith, out.there, is.many)) (out.whole whole);
  most = λ cs end way.
      let out = way_outdone p r plan is all cs end way in
      no_further_on end (cursors_at r out.place) (cursors_at r best) out.further (path_furthest p r best is furthest out.place out.there);
}

-- and where a path matches all lines it is a way that does, and no such way has the end that is asked for
pub other_end_way : (p : Plan) (r : Reached) (at : ℕ) → IsPlan p → IsReached p r → at < length r.cursors.items → AreMatched p.logs (cursors_at r at)
    → ((i : ℕ) → i < length r.visited → IsFollowed p r i)
    → IsOtherEndWay p (path_at r.visited at) (cursors_at r at)
other_end_way p r at plan is lt matched all = record {
  way = is.ways at (omega (arith, lt, is.many));
  matched = matched;
  none = λ cs end way whole has.
      let out = way_outdone p r plan is all cs end way in
      (all out.place out.there).part (record { matched = out.whole whole; end = subst (HasEnd p.end) (sym (out.ends whole)) has });
}

-- ---- paths are added

-- what is the same extends itself
pub extends_same : (r new : Reached) → new.visited ≡ r.visited → new.cursors.items ≡ r.cursors.items → Extends r new
extends_same r new paths cursors = record {
  paths = subst (λ (ps : List (List Choice)). Grows r.visited ps) (sym paths) (record { longer = omega arith; same = λ i lt. refl });
  cursors = λ i lt. ap (λ (gs : List Cursors). cursors_in gs i) cursors;
}

-- paths are added, and then others
pub extends_on : (r s t : Reached) → Extends r s → Extends s t → Extends r t
extends_on r s t x y = record {
  paths = grows_on r.visited s.visited t.visited x.paths y.paths;
  cursors = λ i lt. y.cursors i (omega (arith, lt, x.paths.longer)) ∙ x.cursors i lt;
}

-- what is known stays known
known_on : (h : History) (r new : Reached) (g : Cursors) (s : State) → Extends r new → IsKnown h r g s → IsKnown h new g s
known_on h r new g s x known = (
  known.0,
  omega (arith, known.1, x.paths.longer),
  subst (λ (f : Cursors). NeedNoMore f g) (sym (x.cursors known.0 known.1)) known.2,
  ap (reached h) (x.paths.same known.0 known.1) ∙ known.3,
)

-- lines that were met still are
pub met_on : (h : History) (l : Logs) (r new : Reached) (i : ℕ) (by : Tellers) → Extends r new → i < length r.visited → IsMet h l r i by → IsMet h l new i by
met_on h l r new i by e lt met = λ c.
    subst (λ (g : Cursors). (tell : TellNext h.scenario.version l g (observation_by h new i c)) → tell.lines.by ≡ by
    → IsKnown h new (advanced_by by g) (state_by h new i c)) (sym (e.cursors i lt))
    (subst (λ (path : List Choice). (tell : TellNext h.scenario.version l (cursors_at r i) (observation_at h.scenario (reached h path) c))
    → tell.lines.by ≡ by → IsKnown h new (advanced_by by (cursors_at r i)) (step h.scenario c (reached h path)).after) (sym (e.paths.same i lt))
    (λ tell same. known_on h r new _ _ e (met c tell same)))

-- with those of an actor
pub met_with_on : (h : History) (l : Logs) (r new : Reached) (i : ℕ) (x : Actor) → Extends r new → i < length r.visited → IsMetWith h l r i x
    → IsMetWith h l new i x
met_with_on h l r new i x e lt met =
    (met_on h l r new i (One x) e lt met.0, λ n own. met_on h l r new i (Both n) e lt (met.1 n own))

-- a choice that was tried still is
pub tried_on : (h : History) (l : Logs) (r new : Reached) (i : ℕ) (c : Choice) → Extends r new → i < length r.visited → IsTried h l r i c
    → IsTried h l new i c
tried_on h l r new i c e lt tried =
    let x = actor_of c in
    subst (λ (g : Cursors). HasGap x l g → IsKnown h new (with_missing x g) (state_by h new i c)) (sym (e.cursors i lt))
    (subst (λ (path : List Choice). HasGap x l (cursors_at r i)
    → IsKnown h new (with_missing x (cursors_at r i)) (step h.scenario c (reached h path)).after) (sym (e.paths.same i lt))
    (λ gap. known_on h r new _ _ e (tried gap)))

-- where lines agree with what comes of their choice and a path leads where that does, they lead on
pub leads_by : (h : History) (r new : Reached) (i : ℕ) (lines : StepLines) (came : Observation) (to : Cursors) → Extends r new → i < length r.visited
    → came ≡ observation_by h r i lines.line.choice → Agree lines.line lines.other came → to ≡ advanced_by lines.by (cursors_at r i)
    → IsKnown h new to (state_by h r i lines.line.choice) → LeadsOn h new i lines
leads_by h r new i lines came to e lt same agree there known =
    let c = lines.line.choice in
    record {
      agree =
          subst (λ (path : List Choice). Agree lines.line lines.other (observation_at h.scenario (reached h path) c)) (sym (e.paths.same i lt))
          (subst (Agree lines.line lines.other) same agree);
      known =
          subst (λ (g : Cursors). IsKnown h new (advanced_by lines.by g) (state_by h new i c)) (sym (e.cursors i lt))
          (subst (λ (path : List Choice). IsKnown h new (advanced_by lines.by (cursors_at r i)) (step h.scenario c (reached h path)).after)
          (sym (e.paths.same i lt)) (subst (λ (f : Cursors). IsKnown h new f (state_by h r i c)) there known));
    }

-- lines that do not agree with what came of their choice do not agree with what comes of it
pub unfit_by : (h : History) (r : Reached) (i : ℕ) (lines : StepLines) (came : Observation) → came ≡ observation_by h r i lines.line.choice
    → (Agree lines.line lines.other came → ⊥) → AgreeAt h r i lines → ⊥
unfit_by h r i lines came same unfit = λ agree. unfit (subst (Agree lines.line lines.other) (sym same) agree)

-- lines that lead on still do
leads_on : (h : History) (r new : Reached) (i : ℕ) (lines : StepLines) → Extends r new → i < length r.visited → LeadsOn h r i lines → LeadsOn h new i lines
leads_on h r new i lines e lt leads =
    leads_by h r new i lines (observation_by h r i lines.line.choice) (advanced_by lines.by (cursors_at r i)) e lt refl leads.agree refl
    (known_on h r new _ _ e leads.known)

-- where all steps were followed they still are
all_on : (h : History) (l : Logs) (r new : Reached) (i : ℕ) → Extends r new → i < length r.visited → FollowsAll h l r i → FollowsAll h l new i
all_on h l r new i e lt is = record {
  tried = λ c named. tried_on h l r new i c e lt (is.tried c named);
  met = λ x. met_with_on h l r new i x e lt (is.met x);
}

-- where a line was followed alone it still is
alone_on : (h : History) (l : Logs) (r new : Reached) (i : ℕ) → Extends r new → i < length r.visited → FollowsAlone h l r i → FollowsAlone h l new i
alone_on h l r new i e lt is = record {
  node = is.node;
  line = is.line;
  may = subst (λ (g : Cursors). MayBeAlone is.node l g is.line) (sym (e.cursors i lt)) is.may;
  leads = leads_on h r new i (alone_at is.node is.line) e lt is.leads;
}

-- a path that is an order with the end that is asked for was one
pub complete_before : (p : Plan) (r new : Reached) (i : ℕ) → Extends r new → i < length r.visited → IsCompleteAt p new i → IsCompleteAt p r i
complete_before p r new i e lt end = record {
  matched = subst (AreMatched p.logs) (e.cursors i lt) end.matched;
  end = subst (λ (path : List Choice). HasEnd p.end (reached p.start path)) (e.paths.same i lt) end.end;
}

-- a path that was followed still is
pub followed_on : (p : Plan) (r new : Reached) (i : ℕ) → Extends r new → i < length r.visited → IsFollowed p r i → IsFollowed p new i
followed_on p r new i e lt is = record {
  part = λ end. is.part (complete_before p r new i e lt end);
  steps = elim is.steps [
    | inl each ↦ inl (all_on p.start p.logs r new i e lt each)
    | inr one ↦ inr (alone_on p.start p.logs r new i e lt one)
  ];
}

-- ---- cursors have room

-- an actor's cursor has room for its next line
line_few : (p : Plan) (x : Actor) (g : Cursors) (line : LogLine) → IsPlan p → IsNextLine x p.logs g line → cursor x g < max_u16
line_few p x g line plan next = omega (arith, slice_get_within (log_of x p.logs) (cursor x g) line next, log_few x p.logs, plan.room)

-- and for lines that come next
pub come_few : (p : Plan) (g : Cursors) (by : Tellers) (line : LogLine) (other : Option LogLine) → IsPlan p → ComeBy by p.start.scenario.version p.logs g line other
    → (x : Actor) → Tells by x → cursor x g < max_u16
come_few p g (One y) line None plan come x tells = subst (λ (z : Actor). cursor z g < max_u16) (sym tells) (line_few p y g line plan come.next)
come_few p g (One y) line (Some other) plan come x tells = absurd come
come_few p g (Both n) line None plan come x tells = absurd come
come_few p g (Both n) line (Some other) plan come x tells = elim tells [
  | inl client ↦ subst (λ (z : Actor). cursor z g < max_u16) (sym client) (line_few p C g line plan come.client)
  | inr node ↦ subst (λ (z : Actor). cursor z g < max_u16) (sym node) (line_few p (actor_at n) g other plan come.node)
]
