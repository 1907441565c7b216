-- Between two migrations nothing is left of the last one.
use Rattle.std.proofs.Common.{List, [], ap, arith, false, inl, inr, length, refl, subst, sym, true, ℕ, ◌<◌, ◌∙◌, ◌∷◌, ◌≡◌}
use Rattle.std.specs.Prelude.{◌==◌, ◌&&◌, ◌||◌}
use Rattle.std.proofs.lemmas.Bool.{eq-eqb, false≢true, or_left}
use Rattle.zy_model.specs.Families.{is_taker, is_sending, is_bare, is_idle}
use Rattle.zy_isa.specs.Scenario.{IsScenario, Scenario}
use Rattle.zy_isa.specs.declared.choice.Choice.{Choice}
use Rattle.zy_isa.specs.declared.node.Node.{Node}
use Rattle.zy_isa.specs.declared.node.Node.TheVariants.{A, B}
use Rattle.zy_model.specs.declared.mode.NodeMode.{NodeMode}
use Rattle.zy_model.specs.declared.mode.NodeMode.TheVariants.{Empty, Normal}
use Rattle.zy_model.specs.Table.{may_pull}
use Rattle.zy_model.specs.Wireframe.{page_of}
use Rattle.zy_model.proofs.PageOf.{page_of-within}
use Rattle.zy_table.specs.declared.outcome.Outcome.{Outcome}
use Rattle.zy_table.specs.Change.{aborted, asks, begun, committed, cut, did, leaves, locked, shares, txn_at, with_arrived}
use Rattle.zy_table.specs.Holders.{holds}
use Rattle.zy_table.specs.Numbers.{has}
use Rattle.zy_table.specs.Pages.{owns}
use Rattle.zy_table.specs.Play.{move, opening, play, side_of, step}
use Rattle.zy_table.specs.State.{Leaf, Lock, Message, NodeState, State, View, facing, other, seen_from}
use Rattle.zy_table.specs.Take.{all_here}
use Rattle.zy_table.proofs.PageLists.{owns-with_page}
use Rattle.zy_laws.specs.Between.{NothingLeft}
use Rattle.zy_table.proofs.RangeWalk.{has-put}
use Rattle.zy_laws.proofs.walk.Events.{Told, Asks, Commits, Event, Finishes, Gives, GotAll, GotDone, GotDual, GotFinish, GotLast, GotPage}
use Rattle.zy_laws.proofs.walk.Events.{GotReady, GotWire, IsStale, Pushes, Splits, Starts, step_happens}
use Rattle.zy_laws.proofs.places.Installing.{owns-installed}
use Rattle.zy_laws.proofs.locks.Locking.{Kept, nobody_runs}
use Rattle.zy_laws.proofs.order.ListsInOrder.{Tidy, opening_tidy, step_tidy}
use Rattle.zy_laws.proofs.walk.ModeLines.{pulls_in, sends_in, splits_in_normal}
use Rattle.zy_laws.proofs.owner.MovingPages.{all_below-owns}
use Rattle.zy_laws.proofs.travel.OneWay.{sourced}
use Rattle.zy_laws.proofs.places.Opening.{laid_out}
use Rattle.zy_laws.proofs.owner.Phases.{Phase, Is, At, Resting}
use Rattle.zy_laws.proofs.owner.PhaseSteps.{taker_of}
use Rattle.zy_laws.proofs.walk.PlayPush.{play-keeps-with}
use Rattle.zy_laws.proofs.locks.Reached.{Reached, kept_from, lows_then, opening_reached, reached, step_kept}
use Rattle.zy_laws.proofs.walk.Txns.{IsAt}
use Rattle.zy_table.proofs.RisingNumbers.{has-dropped}
use Rattle.zy_laws.proofs.walk.Kinds.{in_place_of}

-- ---- the pages that a node asked for

-- they are not there, but in its wireframe
abbrev pub IsAway : NodeState → Type 0
IsAway x = (p : ℕ) → has x.asked p ≡ true → (owns x.pages p ≡ false) × (p < length x.lows)

-- so it is, and a node that asks for none has asked for none
record Asked (x : NodeState) : Type 0 where
  none : may_pull x.mode ≡ false → x.asked ≡ []
  away : IsAway x

-- a list of no number is empty
has_none : (xs : List ℕ) → ((p : ℕ) → has xs p ≡ true → ⊥) → xs ≡ []
has_none [] h = refl
has_none (x ∷ xs) h = absurd (h x (or_left _ _ (eq-eqb x x refl)))

-- a step that leaves the mode, the wireframe, what was asked for and the pages' numbers keeps it
asked_same : (x y : NodeState) → y.mode ≡ x.mode → y.lows ≡ x.lows → y.asked ≡ x.asked → ((p : ℕ) → owns y.pages p ≡ owns x.pages p) → Asked x → Asked y
asked_same x y mode lows asked pages a = record {
  none = λ off. asked ∙ a.none (ap may_pull (sym mode) ∙ off);
  away = λ p h. let old = a.away p (subst (λ xs. has xs p ≡ true) asked h) in (pages p ∙ old.0, subst (λ xs. p < length xs) (sym lows) old.1);
}

-- it holds of a node that asked for nothing
asked_none : (y : NodeState) → y.asked ≡ [] → Asked y
asked_none y e = record { none = λ _. e; away = λ p h. absurd (false≢true (subst (λ xs. has xs p ≡ true) e h)) }

-- a page comes
pub arrived_away : (leaf : Leaf) (x : NodeState) → IsAway x → IsAway (with_arrived leaf x)
arrived_away leaf x away p h =
    let d = has-dropped leaf.number p x.asked h in
    let old = away p d.0 in
    (owns-with_page p leaf x.pages ∙ ap (λ b. b || owns x.pages p) d.1 ∙ old.0, old.1)

-- where all pages are there, none is asked for
pub none_asked : (x : NodeState) → IsAway x → all_here x ≡ true → (p : ℕ) → has x.asked p ≡ true → ⊥
none_asked x away all p h = let w = away p h in false≢true (sym w.0 ∙ all_below-owns x.pages (length x.lows) p all w.1)

-- so the list of those is empty
asked_all : (x : NodeState) → IsAway x → all_here x ≡ true → x.asked ≡ []
asked_all x away all = has_none x.asked (none_asked x away all)

-- a mode that sends does not ask
pub sends_none : (m : NodeMode) → is_sending m ≡ true → may_pull m ≡ false
sends_none m s = elim (sends_in m s) [ inl e ↦ ap may_pull e | inr e ↦ ap may_pull e ]

-- a mode that asks is not idle
pub pulls_busy : (m : NodeMode) → may_pull m ≡ true → is_idle m ≡ false
pulls_busy m s = elim (pulls_in m s) [ inl e ↦ ap is_idle e | inr e ↦ ap is_idle e ]

-- each event keeps it
asked_event : (sc : Scenario) (n : Node) (o : Outcome) (v w : View) (lows : List ℕ) → Kept sc n v lows → Asked v.me → (e : Event sc n v w) → Told e o
    → Asked w.me
unfolding did locked shares txn_at aborted begun committed cut asks leaves
asked_event sc n o v w lows k a (Splits line e) told = rw e (asked_none _ (a.none (ap may_pull (splits_in_normal v.me.mode line.normal))))
asked_event sc n o v w lows k a (Commits line e) told =
    rw e (asked_same v.me _ refl refl refl (λ p. owns-installed v.me.lows (txn_at v line.txn).rows v.me.pages p) a)
asked_event sc n o v w lows k a (Asks line e) told =
    let first : v.me.lows ≡ 0 ∷ k.first.0 = k.mine.newest (pulls_busy v.me.mode line.pulls) ∙ k.first.1 in
    let within : page_of v.me.lows told.0 < length v.me.lows = subst (λ l. page_of l told.0 < length l) (sym first)
    (page_of-within (0 ∷ k.first.0) told.0 (omega arith)) in
    let low : line.page < length v.me.lows = subst (λ z. z < length v.me.lows) (sym told.1) within in
    rw e (record {
      none = λ off. absurd (false≢true (sym off ∙ line.pulls));
      away = λ q h. elim (has-put line.page v.me.asked q h) [
        | inl same ↦ (subst (λ z. owns v.me.pages z ≡ false) same line.gone, subst (λ z. z < length v.me.lows) same low)
        | inr old ↦ a.away q old
      ];
    })
asked_event sc n o v w lows k a (Starts line e) told = rw e (asked_none _ (a.none (ap may_pull line.normal)))
asked_event sc n o v w lows k a (GotWire line e) told = rw e (asked_none _ (a.none (ap may_pull line.empty)))
asked_event sc n o v w lows k a (GotReady line e) told = rw e (asked_none _ (a.none (ap may_pull line.mode)))
asked_event sc n o v w lows k a (GotDual line e) told = rw e (asked_none _ (a.none (ap may_pull line.mode)))
asked_event sc n o v w lows k a (IsStale line e) told = rw e (asked_same v.me _ refl refl refl (λ p. refl) a)
asked_event sc n o v w lows k a (Gives line e) told = rw e (asked_none _ (a.none (sends_none v.me.mode line.sends)))
asked_event sc n o v w lows k a (GotPage line e) told =
    rw e (record { none = λ off. absurd (false≢true (sym off ∙ line.pulls)); away = arrived_away line.leaf v.me a.away })
asked_event sc n o v w lows k a (GotLast line e) told = rw e (asked_none _ (asked_all (with_arrived line.leaf v.me) (arrived_away line.leaf v.me a.away) line.all))
asked_event sc n o v w lows k a (GotFinish line e) told = rw e (record { none = λ off. absurd (false≢true (sym off)); away = a.away })
asked_event sc n o v w lows k a (GotAll line e) told = rw e (asked_none _ (asked_all v.me a.away line.all))
asked_event sc n o v w lows k a (GotDone line e) told = rw e (asked_none _ (a.none (ap may_pull line.mode)))
asked_event sc n o v w lows k a (Finishes line e) told = rw e (asked_none _ (a.none (ap may_pull line.dual)))
asked_event sc n o v w lows k a (Pushes line e) told = rw e (asked_none _ (a.none (ap may_pull line.finish)))
asked_event sc n o v w lows k a e told = let q = in_place_of e refl in
    asked_same v.me w.me q.mode q.lows q.asked (λ p. ap (λ xs. owns xs p) q.pages) a

-- both nodes
abbrev Both : State → Type 0
Both s = (n : Node) → Asked (facing n s).me

-- it holds of both where it holds of the node that stepped
both_after : (n : Node) (s : State) (w : View) → Asked w.me → w.them ≡ (facing n s).them → Both s → Both (seen_from n w)
both_after A s w mine them all A = mine
both_after A s w mine them all B = subst Asked (sym them) (all B)
both_after B s w mine them all A = subst Asked (sym them) (all A)
both_after B s w mine them all B = mine

-- what else is known of every state that is reached
pub record Known (sc : Scenario) (s : State) : Type 0 where
  pub tidy : Tidy s
  pub reached : Reached sc s

-- a step keeps what is known
pub step_known : (sc : Scenario) → IsScenario sc → (c : Choice) (s : State) → Known sc s → Known sc (step sc c s).after
step_known sc ok c s x = record {
  tidy = step_tidy sc c s x.tidy;
  reached = record { lows = lows_then sc c s x.reached.lows; kept = step_kept sc c s x.reached.lows ok.cap_least x.tidy x.reached.kept };
}

-- it is known at the opening
pub opening_known : (sc : Scenario) → IsScenario sc → Known sc (opening sc)
opening_known sc ok = record { tidy = opening_tidy sc ok; reached = opening_reached sc (laid_out sc ok) }

-- a step keeps what a node asked for, at both nodes
step_both : (sc : Scenario) (c : Choice) (s : State) → Known sc s → Both s → Both (step sc c s).after
unfolding step
step_both sc c s x all =
    let n = side_of sc c s in
    let v = facing n s in
    let m = move sc c v in
    let h = step_happens sc c s in
    let r = x.reached in
    both_after n s m.after (asked_event sc n m.outcome v m.after r.lows (kept_from sc n s r.lows r.kept) (all n) h.event h.told)
    (sourced sc n m.outcome v m.after h.event h.told).them all

-- it holds at both nodes at the opening
opening_both : (sc : Scenario) → Both (opening sc)
unfolding opening
opening_both sc A = asked_none _ refl
opening_both sc B = asked_none _ refl

-- it holds at both nodes after every schedule
play_both : (sc : Scenario) → IsScenario sc → (cs : List Choice) → Both (play sc (opening sc) cs)
play_both sc ok cs =
    play-keeps-with sc (Known sc) Both (step_known sc ok) (λ c s x b. step_both sc c s x b) cs (opening sc) (opening_known sc ok) (opening_both sc)

-- ---- the whole

-- a list of locks that none holds is empty
pub no_lock : (xs : List Lock) → ((p t : ℕ) → holds xs p t ≡ true → ⊥) → xs ≡ []
no_lock [] h = refl
no_lock (x ∷ xs) h =
    absurd
    (h x.page x.txn (or_left ((x.page == x.page) && (x.txn == x.txn)) (holds xs x.page x.txn) (rw (eq-eqb x.page x.page refl, eq-eqb x.txn x.txn refl) refl)))

-- a node that is not this one is the other one
elsewhere : (m n : Node) → (m ≡ n → ⊥) → m ≡ other n
elsewhere A A h = absurd (h refl)
elsewhere A B h = refl
elsewhere B A h = refl
elsewhere B B h = absurd (h refl)

-- beside a source in Normal the migration rests
rested : {src dst : NodeState} {out back : List Message} → Phase src dst out back → src.mode ≡ Normal → At Resting src dst out back
rested (Is Resting at) m = at
rested (Is g at) m = cc (at.source, m)

-- it holds of the node seen from
asked_me : (n : Node) (s : State) → Both s → Asked (facing n s).me
asked_me n s all = all n

-- it holds of the node across
asked_them : (n : Node) (s : State) → Both s → Asked (facing n s).them
asked_them A s all = all B
asked_them B s all = all A

-- the law: nothing is left between two migrations
pub nothing_left : (sc : Scenario) → IsScenario sc → (cs : List Choice) (n : Node) → let v = facing n (play sc (opening sc) cs) in
    v.me.mode ≡ Empty → v.them.mode ≡ Normal → NothingLeft n v
nothing_left sc ok cs n empty normal =
    let s = play sc (opening sc) cs in
    let v = facing n s in
    let r = reached sc ok cs in
    let k = kept_from sc n s r.lows r.kept in
    let at = rested (taker_of v k.inv.roles (ap is_taker empty)) normal in
    let all = play_both sc ok cs in
    let nobody : (t : ℕ) → IsAt v t n → ⊥ = λ t here. nobody_runs sc n v.me v r.lows t k.mine (ap is_idle empty) here in
    record {
      links = (at.out, at.back);
      asked = ((asked_me n s all).none (ap may_pull empty), (asked_them n s all).none (ap may_pull normal));
      bare = (k.inv.mine.none (ap is_bare empty), at.lows);
      free = no_lock v.me.locks (λ p t h. nobody t (k.mine.runs p t h));
      idle = λ t active. elsewhere (txn_at v t).node n (λ here. nobody t (active, here));
    }
