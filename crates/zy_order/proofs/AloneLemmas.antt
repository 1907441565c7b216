-- A line that may be followed alone may be made before the steps of others: what comes of a way that begins by it.
use Rattle.std.proofs.Common.{true, ◌≡◌, ◌∙◌, ℕ, ◌+◌, ◌<◌, ◌≤◌, ◌⊎◌, inl, inr, List, [], ◌∷◌, ◌++◌, length, refl, sym, ap, subst, arith, drop, length-append, slice_get, None, Some, Option}
use Rattle.std.specs.Prelude.{IfSome}
use Rattle.std.proofs.lemmas.Bool.{false≢true}
use Rattle.std.proofs.lemmas.Option.{slice_get_within}
use Rattle.zy_isa.specs.declared.node.Node.{Node}
use Rattle.zy_isa.specs.declared.node.Node.TheVariants as node
use Rattle.zy_isa.specs.declared.node.Actor.{Actor}
use Rattle.zy_isa.specs.declared.version.Version.{Version}
use Rattle.zy_isa.specs.declared.node.Actor.TheVariants.{C, A, B}
use Rattle.zy_isa.specs.declared.choice.Choice.{Choice}
use Rattle.zy_isa.specs.declared.choice.Choice.TheVariants.{Run}
use Rattle.zy_isa.specs.Choices.{actor_of, actor_at}
use Rattle.zy_isa.specs.Scenario.{Scenario}
use Rattle.zy_model.specs.Order.{LocksRise}
use Rattle.zy_table.specs.declared.observation.Observation.{Observation}
use Rattle.zy_table.specs.declared.outcome.Outcome.{Outcome}
use Rattle.zy_table.specs.declared.outcome.Outcome.TheVariants.{Did}
use Rattle.zy_table.specs.declared.outcome.Outcome.TheVariants as outcome
use Rattle.zy_table.specs.State.{State, facing}
use Rattle.zy_table.specs.Play.{play, step}
use Rattle.zy_laws.proofs.walk.PlayPush.{play-push}
use Rattle.zy_search.proofs.ScheduleLemmas.{play-append}
use Rattle.zy_patterns.specs.Patterns.{matches}
use Rattle.zy_logs.specs.Agrees.{Agrees}
use Rattle.zy_patterns.specs.declared.patterns.OutcomePattern.{OutcomePattern}
use Rattle.zy_patterns.specs.declared.patterns.OutcomePattern.TheVariants as pattern
use Rattle.zy_logs.specs.declared.log_line.LogLine.{LogLine}
use Rattle.zy_steps.specs.Commute.{Does, AreOfOthers}
use Rattle.zy_steps.proofs.Commuting.{may_come_first, unseen}
use Rattle.zy_order.specs.declared.logs.Logs.{Logs}
use Rattle.zy_order.specs.declared.cursors.Cursor.{Cursor}
use Rattle.zy_order.specs.declared.cursors.Cursors.{Cursors}
use Rattle.zy_order.specs.Gaps.{gaps_of}
use Rattle.zy_table.specs.Observations.{observation_at, observations}
use Rattle.zy_search.specs.Stuck.{is_still}
use Rattle.zy_search.proofs.StillSteps.{still_stays}
use Rattle.zy_order.specs.declared.tellers.Tellers.{Tellers}
use Rattle.zy_order.specs.declared.tellers.Tellers.TheVariants.{One, Both}
use Rattle.zy_order.specs.Ways.{log_of, cursor_of, cursor, gap_at, passed, filled, moved, advanced, advanced_by}
use Rattle.zy_order.specs.Ways.{IsNoFurther, AreLinesOf, AreMatched, IsNextLine, ComeBy, TellNext, HasGap, Leads, IsWay}
use Rattle.zy_order.specs.Reaches.{is_nothing, TellsDid, TellsNothing, MayBeAlone}
use Rattle.zy_order.proofs.NeedLemmas.{no_further_self}
use Rattle.zy_order.proofs.WayLemmas.{matched_of, no_client, same_line}

-- ---- two actors

-- an actor's cursor is where it was behind a step of another
beside : (f : Cursor → Cursor) (x y : Actor) (g : Cursors) → (y ≡ x → ⊥) → cursor_of y (moved f x g) ≡ cursor_of y g
beside f C C g far = absurd (far refl)
beside f C A g far = refl
beside f C B g far = refl
beside f A C g far = refl
beside f A A g far = absurd (far refl)
beside f A B g far = refl
beside f B C g far = refl
beside f B A g far = refl
beside f B B g far = absurd (far refl)

-- steps of two actors may change places
moved_swap : (f k : Cursor → Cursor) (x y : Actor) (g : Cursors) → (y ≡ x → ⊥) → moved f x (moved k y g) ≡ moved k y (moved f x g)
moved_swap f k C C g far = absurd (far refl)
moved_swap f k C A g far = refl
moved_swap f k C B g far = refl
moved_swap f k A C g far = refl
moved_swap f k A A g far = absurd (far refl)
moved_swap f k A B g far = refl
moved_swap f k B C g far = refl
moved_swap f k B A g far = refl
moved_swap f k B B g far = absurd (far refl)

-- actors are the same, or are not
same_or_not : (x y : Actor) → (x ≡ y) ⊎ (x ≡ y → ⊥)
same_or_not C C = inl refl
same_or_not C A = inr (λ e. cc e)
same_or_not C B = inr (λ e. cc e)
same_or_not A C = inr (λ e. cc e)
same_or_not A A = inl refl
same_or_not A B = inr (λ e. cc e)
same_or_not B C = inr (λ e. cc e)
same_or_not B A = inr (λ e. cc e)
same_or_not B B = inl refl

-- ---- the steps of other actors

-- an actor's log is none of these
abbrev Apart : Actor → Tellers → Type 0
Apart x (One y) = y ≡ x → ⊥
Apart x (Both m) = (C ≡ x → ⊥) × (actor_at m ≡ x → ⊥)

-- so lines of these logs leave its cursor where it was
by_beside : (x : Actor) (by : Tellers) (g : Cursors) → Apart x by → cursor_of x (advanced_by by g) ≡ cursor_of x g
by_beside x (One y) g far = beside passed y x g (λ e. far (sym e))
by_beside x (Both m) g far =
    beside passed (actor_at m) x (advanced C g) (λ e. far.1 (sym e)) ∙ beside passed C x g (λ e. far.0 (sym e))

-- and may be matched behind a line of it
by_swap : (x : Actor) (by : Tellers) (g : Cursors) → Apart x by → advanced x (advanced_by by g) ≡ advanced_by by (advanced x g)
by_swap x (One y) g far = moved_swap passed passed x y g far
by_swap x (Both m) g far =
    moved_swap passed passed x (actor_at m) (advanced C g) far.1 ∙ ap (advanced (actor_at m)) (moved_swap passed passed x C g far.0)

-- a next line is next behind a line of another actor
line_beside : (x y : Actor) (l : Logs) (g : Cursors) (line : LogLine) → (y ≡ x → ⊥) → IsNextLine y l g line → IsNextLine y l (advanced x g) line
line_beside x y l g line far next = ap (λ (k : Cursor). slice_get (log_of y l) k.lines) (beside passed x y g far) ∙ next

-- so are those that come next
come_beside : (v : Version) (x : Actor) (l : Logs) (g : Cursors) (by : Tellers) (line : LogLine) (other : Option LogLine) → Apart x by
    → ComeBy by v l g line other → ComeBy by v l (advanced x g) line other
come_beside v x l g (One y) line None far come = record { next = line_beside x y l g line far come.next; alone = come.alone }
come_beside v x l g (One y) line (Some other) far come = absurd come
come_beside v x l g (Both m) line None far come = absurd come
come_beside v x l g (Both m) line (Some other) far come = record {
  client = line_beside x C l g line far.0 come.client;
  node = line_beside x (actor_at m) l g other far.1 come.node;
  may = come.may;
}

-- an actor's next line is of its own choice
record HasOwnLine (l : Logs) (x : Actor) (g : Cursors) : Type 0 where
  pub line : LogLine
  pub next : IsNextLine x l g line
  pub own : actor_of line.choice ≡ x

-- so lines of another choice that come next are of other logs, if the actor is a node
come_apart : (v : Version) (n : Node) (l : Logs) (g : Cursors) (by : Tellers) (line : LogLine) (other : Option LogLine)
    → HasOwnLine l (actor_at n) g → (actor_of line.choice ≡ actor_at n → ⊥) → ComeBy by v l g line other → Apart (actor_at n) by
come_apart v n l g (One y) line None has far come = λ e.
    let same = same_line (actor_at n) l g line has.line (subst (λ (z : Actor). IsNextLine z l g line) e come.next) has.next in
    far (ap (λ (m : LogLine). actor_of m.choice) same ∙ has.own)
come_apart v n l g (One y) line (Some other) has far come = absurd come
come_apart v n l g (Both m) line None has far come = absurd come
come_apart v n l g (Both m) line (Some other) has far come = (
  λ e. no_client n e,
  λ e.
      let same = same_line (actor_at n) l g other has.line (subst (λ (z : Actor). IsNextLine z l g other) e come.node) has.next in
      far (ap actor_of come.may.choice ∙ (ap (λ (m : LogLine). actor_of m.choice) same ∙ has.own)),
)

module _ (sc : Scenario) (l : Logs) (n : Node) (g : Cursors) (o : Observation) (to : Cursors) (has : HasOwnLine l (actor_at n) g)
    (far : actor_of o.entry.choice ≡ actor_at n → ⊥) (leads : Leads sc l g o to) where
  -- the node, as an actor
  abbrev at_n : Actor
  at_n = actor_at n

  -- lines that tell such a step are of other logs
  tell_apart : (tell : TellNext sc.version l g o) → Apart at_n tell.lines.by
  tell_apart tell =
      let lines = tell.lines in
      come_apart sc.version n l g lines.by lines.line lines.other has (λ e. far (sym (ap actor_of tell.choice) ∙ e)) tell.next

  -- where such a step leads on, it leads on behind a line of the node
  leads_beside : Leads sc l (advanced at_n g) o (advanced at_n to)
  leads_beside = elim leads [
    | inl by ↦
        let lines = by.0.lines in
        let apart = tell_apart by.0 in
        inl (
          record {
            lines = lines;
            next = come_beside sc.version at_n l g lines.by lines.line lines.other apart by.0.next;
            choice = by.0.choice;
            agree = by.0.agree;
          },
          ap (advanced at_n) by.1 ∙ by_swap at_n lines.by g apart,
        )
    | inr by ↦
        let y = actor_of o.entry.choice in
        let same = beside passed at_n y g far in
        inr (
          record { named = by.0.named; gap = subst (λ (k : Cursor). k.missing < gap_at (gaps_of y l.gaps) k) (sym same) by.0.gap },
          ap (advanced at_n) by.1 ∙ moved_swap passed filled at_n y g far,
        )
  ]

  -- the cursor of the node is where it was
  leads_stays : cursor_of at_n to ≡ cursor_of at_n g
  leads_stays = elim leads [
    | inl by ↦ ap (cursor_of at_n) by.1 ∙ by_beside at_n by.0.lines.by g (tell_apart by.0)
    | inr by ↦ ap (cursor_of at_n) by.1 ∙ beside filled (actor_of o.entry.choice) at_n g (λ same. far (sym same))
  ]

  -- so its next line is the same
  own_line_stays : HasOwnLine l at_n to
  own_line_stays = record {
    line = has.line;
    next = ap (λ (k : Cursor). slice_get (log_of at_n l) k.lines) leads_stays ∙ has.next;
    own = has.own;
  }

-- where a way of other actors leads on, it leads on behind a line of node n, from a state in which the same comes of it
way_beside : (sc : Scenario) (l : Logs) (n : Node) (g : Cursors) (s r : State) (cs : List Choice) (to : Cursors) → HasOwnLine l (actor_at n) g
    → AreOfOthers n cs → observations sc r cs ≡ observations sc s cs → IsWay sc l g s cs to
    → IsWay sc l (advanced (actor_at n) g) r cs (advanced (actor_at n) to)
way_beside sc l n g s r [] to has far same way = ap (advanced (actor_at n)) way
way_beside sc l n g s r (c ∷ cs) to has far same way =
    let x = actor_at n in
    let o = observation_at sc s c in
    let first : observation_at sc r c ≡ o = cc same in
    let rest : observations sc (step sc c r).after cs ≡ observations sc (step sc c s).after cs = ap (drop 1) same in (
      advanced x way.0,
      subst (λ (o : Observation). Leads sc l (advanced x g) o (advanced x way.0)) (sym first) (leads_beside sc l n g o way.0 has far.0 way.1),
      way_beside sc l n way.0 (step sc c s).after (step sc c r).after cs to (own_line_stays sc l n g o way.0 has far.0 way.1) far.1 rest way.2,
    )

-- the cursor of the node is where it was
way_stays : (sc : Scenario) (l : Logs) (n : Node) (g : Cursors) (s : State) (cs : List Choice) (to : Cursors) → HasOwnLine l (actor_at n) g
    → AreOfOthers n cs → IsWay sc l g s cs to → cursor_of (actor_at n) to ≡ cursor_of (actor_at n) g
way_stays sc l n g s [] to has far way = ap (cursor_of (actor_at n)) (sym way)
way_stays sc l n g s (c ∷ cs) to has far way =
    let o = observation_at sc s c in
    way_stays sc l n way.0 (step sc c s).after cs to (own_line_stays sc l n g o way.0 has far.0 way.1) far.1 way.2
    ∙ leads_stays sc l n g o way.0 has far.0 way.1

-- a way, and then another
way_append : (sc : Scenario) (l : Logs) (g : Cursors) (s : State) (cs ds : List Choice) (there to : Cursors) → IsWay sc l g s cs there
    → IsWay sc l there (play sc s cs) ds to → IsWay sc l g s (cs ++ ds) to
way_append sc l g s [] ds there to way rest = subst (λ (f : Cursors). IsWay sc l f s ds to) (sym way) rest
way_append sc l g s (c ∷ cs) ds there to way rest = (way.0, way.1, way_append sc l way.0 (step sc c s).after cs ds there to way.2 rest)

-- ---- the first step of a node

-- where a way first has a choice of node n: the choices before it, it, and those behind it
record HasOwn (sc : Scenario) (l : Logs) (n : Node) (g : Cursors) (s : State) (cs : List Choice) (to : Cursors) : Type 0 where
  pub before : List Choice
  pub own : Choice
  pub rest : List Choice
  pub there : Cursors
  pub next : Cursors
  pub many : length cs ≡ length before + (length rest + 1)
  pub others : AreOfOthers n before
  pub is : actor_of own ≡ actor_at n
  pub way : IsWay sc l g s before there
  pub leads : Leads sc l there (observation_at sc (play sc s before) own) next
  pub goes_on : IsWay sc l next (step sc own (play sc s before)).after rest to
  pub ends : play sc s cs ≡ play sc (step sc own (play sc s before)).after rest

-- a way is of others, or has one
first_own : (sc : Scenario) (l : Logs) (n : Node) (g : Cursors) (s : State) (cs : List Choice) (to : Cursors) → IsWay sc l g s cs to
    → AreOfOthers n cs ⊎ HasOwn sc l n g s cs to
first_own sc l n g s [] to way = inl tt
first_own sc l n g s (c ∷ cs) to way = elim (same_or_not (actor_of c) (actor_at n)) [
  | inl own ↦ inr (record {
    before = [];
    own = c;
    rest = cs;
    there = g;
    next = way.0;
    many = omega arith;
    others = tt;
    is = own;
    way = refl;
    leads = way.1;
    goes_on = way.2;
    ends = refl;
  })
  | inr far ↦ elim (first_own sc l n way.0 (step sc c s).after cs to way.2) [
    | inl others ↦ inl (far, others)
    | inr has ↦ inr (record {
      before = c ∷ has.before;
      own = has.own;
      rest = has.rest;
      there = has.there;
      next = has.next;
      many = omega (arith, has.many);
      others = (far, has.others);
      is = has.is;
      way = (way.0, way.1, has.way);
      leads = has.leads;
      goes_on = has.goes_on;
      ends = has.ends;
    })
  ]
]

-- ---- a way that begins by the line

-- cursors are no further than with a line more of a node
no_further_advanced : (n : Node) (g : Cursors) → IsNoFurther g (advanced (actor_at n) g)
no_further_advanced node.A g = record { nodes = omega arith; client = λ e. absurd (omega (arith, e)) }
no_further_advanced node.B g = record { nodes = omega arith; client = λ e. absurd (omega (arith, e)) }

-- Where a line of node n fits a state: its choice may be made before those of others, behind which it fits as well, and they do
-- not see it.
record ComesFirst (sc : Scenario) (n : Node) (s : State) (line : LogLine) : Type 0 where
  pub after : (cs : List Choice) → AreOfOthers n cs → Agrees line (observation_at sc (play sc s cs) line.choice)
      → play sc (step sc line.choice s).after cs ≡ (step sc line.choice (play sc s cs)).after
  pub unseen : (cs : List Choice) → AreOfOthers n cs → observations sc (step sc line.choice s).after cs ≡ observations sc s cs

-- the outcome of a run that did
did_came : (o : Outcome) → matches pattern.Did o ≡ true → o ≡ Did
did_came outcome.Did e = refl
did_came o e = absurd (false≢true e)

-- a run that did comes first
module _ (sc : Scenario) (n : Node) (t : ℕ) (s : State) (line : LogLine) (locks : LocksRise (facing n s).me.locks) (run : line.choice ≡ Run n t)
    (did : line.told ≡ Some pattern.Did) (agrees : Agrees line (observation_at sc s line.choice)) where
  -- what agrees with the line did
  did_by : (o : Observation) → Agrees line o → o.entry.outcome ≡ Did
  did_by o fits = did_came o.entry.outcome (subst (λ (told : Option OutcomePattern). IfSome told (λ k. matches k o.entry.outcome ≡ true)) did fits.0)

  -- so the run does
  does : Does sc n t s
  does = record { locks = locks; outcome = did_by (observation_at sc s (Run n t)) (subst (λ (c : Choice). Agrees line (observation_at sc s c)) run agrees) }

  did_after : (cs : List Choice) → AreOfOthers n cs → Agrees line (observation_at sc (play sc s cs) (Run n t))
      → play sc (step sc (Run n t) s).after cs ≡ (step sc (Run n t) (play sc s cs)).after
  did_after cs others fits =
      (may_come_first sc n t s cs does others (did_by (observation_at sc (play sc s cs) (Run n t)) fits)).after ∙ play-push sc s cs (Run n t)

  did_first : ComesFirst sc n s line
  did_first = record {
    after = λ cs others fits.
        subst (λ (c : Choice). play sc (step sc c s).after cs ≡ (step sc c (play sc s cs)).after) (sym run)
        (did_after cs others (subst (λ (c : Choice). Agrees line (observation_at sc (play sc s cs) c)) run fits));
    unseen = λ cs others. subst (λ (c : Choice). observations sc (step sc c s).after cs ≡ observations sc s cs) (sym run) (unseen sc n t s cs does others);
  }

-- an outcome of which nothing comes is still
nothing_still : (t : OutcomePattern) (o : Outcome) → is_nothing t ≡ true → matches t o ≡ true → is_still o ≡ true
nothing_still pattern.BadMode outcome.BadMode e tells = refl
nothing_still pattern.Idle outcome.Idle e tells = refl
nothing_still pattern.Elsewhere outcome.Elsewhere e tells = refl
nothing_still pattern.NotYet outcome.NotYet e tells = refl
nothing_still (pattern.Waits page) (outcome.Waits p) e tells = refl
nothing_still (pattern.Awaits page) (outcome.Awaits p) e tells = refl
nothing_still pattern.NoMessage outcome.NoMessage e tells = refl
nothing_still (pattern.Held page) (outcome.Held p) e tells = refl
nothing_still pattern.Stray outcome.Stray e tells = refl
nothing_still (pattern.Active txn) (outcome.Active t) e tells = refl
nothing_still pattern.NoPush outcome.NoPush e tells = refl
nothing_still t o e tells = cc

-- a step of which nothing comes comes first
module _ (sc : Scenario) (n : Node) (s : State) (line : LogLine) (tells : TellsNothing line) (agrees : Agrees line (observation_at sc s line.choice)) where
  -- it changes nothing, wherever it fits
  stays : (r : State) → Agrees line (observation_at sc r line.choice) → (step sc line.choice r).after ≡ r
  stays r fits =
      still_stays sc line.choice r (nothing_still tells.what (step sc line.choice r).outcome tells.nothing
      (subst (λ (o : Option OutcomePattern). IfSome o (λ k. matches k (step sc line.choice r).outcome ≡ true)) tells.told fits.0))

  nothing_first : ComesFirst sc n s line
  nothing_first = record {
    after = λ cs others fits. ap (λ (r : State). play sc r cs) (stays s agrees) ∙ sym (stays (play sc s cs) fits);
    unseen = λ cs others. ap (λ (r : State). observations sc r cs) (stays s agrees);
  }

-- behind the step of a line, with that line more of x, there is a way that has no more choices than some way without it, and leads as far:
-- where that matches all lines it does, too, and leads to the same state
pub record BeginsBy (sc : Scenario) (l : Logs) (c : Choice) (g : Cursors) (s : State) (cs : List Choice) (to : Cursors) (x : Actor) : Type 0 where
  pub choices : List Choice
  pub end : Cursors
  pub few : length choices ≤ length cs
  pub way : IsWay sc l (advanced x g) (step sc c s).after choices end
  pub further : IsNoFurther to end
  pub whole : AreMatched l to → AreMatched l end
  pub ends : AreMatched l to → play sc (step sc c s).after choices ≡ play sc s cs

-- The line is the next one of node n, of its own choice, no step may be missing before it, and it comes first.
module _ (sc : Scenario) (l : Logs) (n : Node) (g : Cursors) (s : State) (line : LogLine) (comes : ComesFirst sc n s line)
    (are : (x : Actor) → AreLinesOf (length sc.programs) x (log_of x l)) (next : IsNextLine (actor_at n) l g line)
    (of_node : actor_of line.choice ≡ actor_at n) (sure : HasGap (actor_at n) l g → ⊥) where
  -- the node, as an actor
  abbrev x : Actor
  x = actor_at n

  -- the state after its step
  abbrev then : State
  then = (step sc line.choice s).after

  -- it is the node's own next line
  has : HasOwnLine l x g
  has = record { line = line; next = next; own = of_node }

  -- lines of a choice of the node that come next are its own, and this one is
  come_own : (k : Cursors) (by : Tellers) (m : LogLine) (other : Option LogLine) → cursor_of x k ≡ cursor_of x g → actor_of m.choice ≡ x
      → ComeBy by sc.version l k m other → (m ≡ line) × (advanced_by by k ≡ advanced x k)
  come_own k (One y) m None same own come =
      let is = are y (cursor y k) m come.next in
      let here : y ≡ x = elim is.actor [
        | inl e ↦ sym e ∙ own
        | inr client ↦ absurd (no_client n (sym client ∙ own))
      ] in
      let there : IsNextLine x l k line = subst (λ (p : Cursor). slice_get (log_of x l) p.lines ≡ Some line) (sym same) next in
      (same_line x l k m line (subst (λ (z : Actor). IsNextLine z l k m) here come.next) there, ap (λ (z : Actor). advanced z k) here)
  come_own k (One y) m (Some other) same own come = absurd come
  come_own k (Both j) m None same own come = absurd come
  come_own k (Both j) m (Some other) same own come =
      let is = are C (cursor C k) m come.client in
      absurd (elim is.actor [
        | inl e ↦ no_client n (sym e ∙ own)
        | inr e ↦ no_client n (sym e ∙ own)
      ])

  -- where the cursor of the node is the same, a step of the node is that of the line, which agrees with it
  own_is : (k : Cursors) (o : Observation) (to : Cursors) → cursor_of x k ≡ cursor_of x g → actor_of o.entry.choice ≡ x → Leads sc l k o to
      → (o.entry.choice ≡ line.choice) × Agrees line o × (to ≡ advanced x k)
  own_is k o to same own leads = elim leads [
    | inl by ↦
        let lines = by.0.lines in
        let one = come_own k lines.by lines.line lines.other same (ap actor_of by.0.choice ∙ own) by.0.next in (
          sym by.0.choice ∙ ap (λ (m : LogLine). m.choice) one.0,
          subst (λ (m : LogLine). Agrees m o) one.0 by.0.agree.0,
          by.1 ∙ one.1,
        )
    | inr by ↦
        let gap : HasGap x l k = subst (λ (y : Actor). HasGap y l k) own by.0.gap in
        absurd (sure (subst (λ (p : Cursor). p.missing < gap_at (gaps_of x l.gaps) p) same gap))
  ]

  -- a way that has a choice of the node has that of the line first of these: it may come before all others
  begins_own : (cs : List Choice) (to : Cursors) → HasOwn sc l n g s cs to → BeginsBy sc l line.choice g s cs to x
  begins_own cs to h =
      let there = play sc s h.before in
      let is = own_is h.there (observation_at sc there h.own) h.next (way_stays sc l n g s h.before h.there has h.others h.way) h.is h.leads in
      let fits : Agrees line (observation_at sc there line.choice) = subst (λ (c : Choice). Agrees line (observation_at sc there c)) is.0 is.1 in
      let same : (step sc h.own there).after ≡ play sc then h.before =
      ap (λ (c : Choice). (step sc c there).after) is.0 ∙ sym (comes.after h.before h.others fits) in
      let rest : IsWay sc l (advanced x h.there) (play sc then h.before) h.rest to =
      subst (λ (f : Cursors). IsWay sc l f (play sc then h.before) h.rest to) is.2
      (subst (λ (r : State). IsWay sc l h.next r h.rest to) same h.goes_on) in
      record {
        choices = h.before ++ h.rest;
        end = to;
        few = omega (arith, h.many, length-append h.before h.rest);
        way = way_append sc l (advanced x g) then h.before h.rest (advanced x h.there) to
            (way_beside sc l n g s then h.before h.there has h.others (comes.unseen h.before h.others) h.way) rest;
        further = no_further_self to;
        whole = λ end. end;
        ends = λ end.
            play-append sc then h.before h.rest ∙ (ap (λ (r : State). play sc r h.rest) (sym same) ∙ sym h.ends);
      }

  -- a way that has none goes on behind the line, which is one more
  begins_more : (cs : List Choice) (to : Cursors) → AreOfOthers n cs → IsWay sc l g s cs to → BeginsBy sc l line.choice g s cs to x
  begins_more cs to others way =
      let lines = ap (λ (p : Cursor). p.lines) (way_stays sc l n g s cs to has others way) in
      let part : AreMatched l to → ⊥ = λ end.
      absurd (omega (arith, matched_of x l to end, lines, slice_get_within (log_of x l) (cursor x g) line next)) in
      record {
        choices = cs;
        end = advanced x to;
        few = omega arith;
        way = way_beside sc l n g s then cs to has others (comes.unseen cs others) way;
        further = no_further_advanced n to;
        whole = λ end. absurd (part end);
        ends = λ end. absurd (part end);
      }

  -- so there is one for each way
  begins : (cs : List Choice) (to : Cursors) → IsWay sc l g s cs to → BeginsBy sc l line.choice g s cs to x
  begins cs to way = elim (first_own sc l n g s cs to way) [
    | inl others ↦ begins_more cs to others way
    | inr own ↦ begins_own cs to own
  ]

-- a line that may be followed alone is of its node, so a run that it tells of is
own_run : (n m : Node) (t : ℕ) (line : LogLine) → actor_of line.choice ≡ actor_at n → line.choice ≡ Run m t → line.choice ≡ Run n t
own_run node.A node.A t line own run = run
own_run node.A node.B t line own run = cc (own, ap actor_of run)
own_run node.B node.A t line own run = cc (own, ap actor_of run)
own_run node.B node.B t line own run = run

-- such a line comes first where it fits
alone_first : (sc : Scenario) (n : Node) (s : State) (line : LogLine) → LocksRise (facing n s).me.locks → actor_of line.choice ≡ actor_at n
    → TellsDid line ⊎ TellsNothing line → Agrees line (observation_at sc s line.choice) → ComesFirst sc n s line
alone_first sc n s line locks own tells agrees = elim tells [
  | inl did ↦ did_first sc n did.txn s line locks (own_run n did.node did.txn line own did.run) did.did agrees
  | inr nothing ↦ nothing_first sc n s line nothing agrees
]

-- so each way has one that begins by it and leads as far
pub begins_by : (sc : Scenario) (l : Logs) (n : Node) (g : Cursors) (s : State) (line : LogLine)
    → ((x : Actor) → AreLinesOf (length sc.programs) x (log_of x l)) → LocksRise (facing n s).me.locks → MayBeAlone n l g line
    → Agrees line (observation_at sc s line.choice) → (cs : List Choice) (to : Cursors) → IsWay sc l g s cs to
    → BeginsBy sc l line.choice g s cs to (actor_at n)
begins_by sc l n g s line are locks may agrees =
    begins sc l n g s line (alone_first sc n s line locks may.own may.tells agrees) are may.next may.own may.whole
