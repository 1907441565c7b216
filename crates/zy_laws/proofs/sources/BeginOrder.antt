-- Of two transactions that commit at different nodes the one that began first comes first.
use Rattle.std.proofs.Common.{List, ap, append_assoc, arith, false, refl, subst, sym, true, ℕ, ◌++◌, ◌<◌, ◌∙◌, ◌≡◌, ◌≤◌}
use Rattle.std.specs.Prelude.{drop, slice_get, take}
use Rattle.std.proofs.lemmas.Bool.{false≢true}
use Rattle.std.proofs.lemmas.List.{take-append-drop}
use Rattle.zy_isa.specs.Scenario.{IsScenario, Scenario}
use Rattle.zy_isa.specs.declared.choice.Choice.{Choice}
use Rattle.zy_isa.specs.declared.node.Node.{Node}
use Rattle.zy_isa.specs.declared.node.Node.TheVariants.{A, B}
use Rattle.zy_table.specs.Change.{txn_at, txn_or}
use Rattle.zy_table.specs.Client.{is_new}
use Rattle.zy_table.specs.Database.{Map, database}
use Rattle.zy_table.specs.Play.{move, opening, play, side_of, step}
use Rattle.zy_table.specs.Serial.{CommitsListed, is_committed, times_listed}
use Rattle.zy_table.specs.State.{State, Txn, View, facing, other, seen_from}
use Rattle.zy_laws.specs.RealTime.{place, txns_after}
use Rattle.zy_laws.specs.SourceFirst.{Sorted, migration_order, sorted, sorted_step}
use Rattle.zy_laws.proofs.locks.Reached.{blank_new, lows_then}
use Rattle.zy_laws.proofs.order.ListsInOrder.{Tidy, opening_tidy, step_tidy}
use Rattle.zy_laws.proofs.places.Opening.{laid_out}
use Rattle.zy_laws.proofs.serial.Listed.{opening_listed, step_listed}
use Rattle.zy_laws.proofs.sources.Halves.{Divided}
use Rattle.zy_laws.proofs.sources.Past.{Base, base_event}
use Rattle.zy_laws.proofs.sources.Places.{listed_permuted, place_back, place_front}
use Rattle.zy_laws.proofs.sources.Rank.{Ahead, Lost, Mine, Rank, Theirs, Together, Waits, rank_event}
use Rattle.zy_laws.proofs.sources.RealTime.{listed_once, play-append, side_same, sorted-append}
use Rattle.zy_laws.proofs.sources.Sides.{divided_from, none, opening_holds}
use Rattle.zy_laws.proofs.sources.Sorting.{sorted_after}
use Rattle.zy_laws.proofs.sources.SourceFirst.{sorted-keeps, step_divided, then_step}
use Rattle.zy_laws.proofs.travel.OneWay.{sourced}
use Rattle.zy_laws.proofs.walk.Events.{step_happens}
use Rattle.zy_laws.proofs.walk.Txns.{active_off, new_off, not_both_nodes}

-- seen from A, and so from either node
base_from : (t : ℕ) (n : Node) (s : State) (o : Sorted) → Base t A (facing A s) o → Base t n (facing n s) o
unfolding txn_at
base_from t A s o b = b
base_from t B s o b = record { alone_mine = b.alone_theirs; alone_theirs = b.alone_mine; past_mine = b.past_theirs; past_theirs = b.past_mine }

-- and back
base_to : (t : ℕ) (n : Node) (w : View) (o : Sorted) → Base t n w o → Base t A (facing A (seen_from n w)) o
unfolding txn_at
base_to t A w o b = b
base_to t B w o b = record { alone_mine = b.alone_theirs; alone_theirs = b.alone_mine; past_mine = b.past_theirs; past_theirs = b.past_mine }

-- the same of a rank
rank_from : (t u : ℕ) (n : Node) (s : State) (o : Sorted) → Rank t u A (facing A s) o → Rank t u n (facing n s) o
unfolding txn_at
rank_from t u A s o r = r
rank_from t u B s o (Waits new old) = Waits new old
rank_from t u B s o (Mine a source old at none) = Theirs a source old at none
rank_from t u B s o (Theirs a source old at none) = Mine a source old at none
rank_from t u B s o (Ahead front more is held none) = Ahead front more is held none
rank_from t u B s o (Together x y same) = Together x y same
rank_from t u B s o (Lost x y z) = Lost x y z

-- and back
rank_to : (t u : ℕ) (n : Node) (w : View) (o : Sorted) → Rank t u n w o → Rank t u A (facing A (seen_from n w)) o
unfolding txn_at
rank_to t u A w o r = r
rank_to t u B w o (Waits new old) = Waits new old
rank_to t u B w o (Mine a source old at none) = Theirs a source old at none
rank_to t u B w o (Theirs a source old at none) = Mine a source old at none
rank_to t u B w o (Ahead front more is held none) = Ahead front more is held none
rank_to t u B w o (Together x y same) = Together x y same
rank_to t u B w o (Lost x y z) = Lost x y z

-- what holds of each state of a schedule
record Based (sc : Scenario) (t : ℕ) (start : Map) (s : State) (o : Sorted) : Type 0 where
  lows : List ℕ
  divided : Divided sc A (facing A s) start lows o
  listed : CommitsListed s
  base : Base t A (facing A s) o

-- who is committed is in the sorted commits once
sorted_once : (sc : Scenario) (start : Map) (s : State) (lows : List ℕ) (o : Sorted) (t : ℕ) → Divided sc A (facing A s) start lows o → CommitsListed s
    → is_committed (txn_at (facing A s) t).status ≡ true → times_listed t (o.first ++ o.later) ≡ 1
sorted_once sc start s lows o t h all ended = listed_permuted t s.commits (o.first ++ o.later) h.permuted ∙ listed_once s all t ended

-- a step keeps it
step_based : (sc : Scenario) (t : ℕ) (start : Map) → 2 ≤ sc.cap → (c : Choice) (s : State) (o : Sorted) → Tidy s → Based sc t start s o
    → Based sc t start (step sc c s).after (sorted_step sc c s o)
unfolding step sorted_step
step_based sc t start two c s o x h =
    let n = side_of sc c s in
    let v = facing n s in
    let w = (move sc c v).after in
    let happens = step_happens sc c s in
    let them = (sourced sc n (move sc c v).outcome v w happens.event happens.told).them in
    record {
      lows = lows_then sc c s h.lows;
      divided = step_divided sc start two c s h.lows o x h.divided;
      listed = step_listed sc c s h.listed;
      base = subst (Base t A (facing A (seen_from n w))) (then_step n s w o) (base_to t n w (sorted_after v w o)
          (base_event sc t n v w start h.lows o (divided_from sc n s start h.lows o h.divided) happens.event them (base_from t n s o h.base)));
    }

-- it holds at the opening
opening_based : (sc : Scenario) → IsScenario sc → (t : ℕ) → Based sc t (database (opening sc)) (opening sc) none
unfolding opening txn_at
opening_based sc l t =
    let h = opening_holds sc (laid_out sc l) in
    record {
      lows = h.lows;
      divided = h.divided;
      listed = opening_listed sc;
      base = record {
        alone_mine = λ _ x a. false≢true (sym (blank_new sc.programs x) ∙ a.0);
        alone_theirs = λ _ x a. false≢true (sym (blank_new sc.programs x) ∙ a.0);
        past_mine = λ _ _ _. refl;
        past_theirs = λ _ _ _. refl;
      };
    }

-- and, after u was new, how t stands to it
record Ranked (sc : Scenario) (t u : ℕ) (start : Map) (s : State) (o : Sorted) : Type 0 where
  based : Based sc t start s o
  rank : Rank t u A (facing A s) o

-- a step keeps it
step_ranked : (sc : Scenario) (t u : ℕ) (start : Map) → 2 ≤ sc.cap → (c : Choice) (s : State) (o : Sorted) → Tidy s → Ranked sc t u start s o
    → Ranked sc t u start (step sc c s).after (sorted_step sc c s o)
unfolding step sorted_step
step_ranked sc t u start two c s o x h =
    let n = side_of sc c s in
    let v = facing n s in
    let w = (move sc c v).after in
    let happens = step_happens sc c s in
    let them = (sourced sc n (move sc c v).outcome v w happens.event happens.told).them in
    let b = h.based in
    record {
      based = step_based sc t start two c s o x b;
      rank = subst (Rank t u A (facing A (seen_from n w))) (then_step n s w o) (rank_to t u n w (sorted_after v w o)
          (rank_event sc t u n v w start b.lows o (divided_from sc n s start b.lows o b.divided) happens.event them (base_from t n s o b.base)
          (λ ended. sorted_once sc start s b.lows o t b.divided b.listed (sym (ap (λ (y : Txn). is_committed y.status) (side_same n s t)) ∙ ended))
          (rank_from t u n s o h.rank)));
    }

-- t, which had begun before u did, stands before u in the end
before_by : (sc : Scenario) (t u : ℕ) (s : State) (o : Sorted) → Rank t u A (facing A s) o → is_committed (txn_at (facing A s) t).status ≡ true
    → is_committed (txn_at (facing A s) u).status ≡ true → (txn_at (facing A s) u).node ≡ other (txn_at (facing A s) t).node
    → place t (o.first ++ o.later) < place u (o.first ++ o.later)
before_by sc t u s o (Waits new old) a b apart = absurd (false≢true (sym (new_off (txn_at (facing A s) u).status new) ∙ b))
before_by sc t u s o (Mine at source old there off) a b apart = absurd (false≢true (sym (active_off (txn_at (facing A s) t).status at.0) ∙ a))
before_by sc t u s o (Theirs at source old there off) a b apart = absurd (false≢true (sym (active_off (txn_at (facing A s) t).status at.0) ∙ a))
before_by sc t u s o (Together x y same) a b apart = absurd (not_both_nodes (txn_at (facing A s) t).node (txn_at (facing A s) u).node (sym same) apart)
before_by sc t u s o (Lost x y z) a b apart = absurd (false≢true (sym z ∙ a))
before_by sc t u s o (Ahead front more is held off) a b apart =
    let all : o.first ++ o.later ≡ front ++ (more ++ o.later) = ap (λ xs. xs ++ o.later) is ∙ append_assoc front more o.later in
    subst (λ xs. place t xs < place u xs) (sym all)
    (let x = place_front t front (more ++ o.later) held in let y = place_back u front (more ++ o.later) off in omega (arith, x, y))

-- after a schedule in two parts
begins_both : (sc : Scenario) → IsScenario sc → (cs more : List Choice) (t u : ℕ) → let s = play sc (opening sc) (cs ++ more) in
    let was = txn_at (facing A (play sc (opening sc) cs)) in
    is_new (was t).status ≡ false → is_new (was u).status ≡ true → is_committed (txn_at (facing A s) t).status ≡ true
    → is_committed (txn_at (facing A s) u).status ≡ true → (txn_at (facing A s) u).node ≡ other (txn_at (facing A s) t).node
    → place t (migration_order sc (cs ++ more)) < place u (migration_order sc (cs ++ more))
begins_both sc l cs more t u old new =
    let start = database (opening sc) in
    let s = play sc (opening sc) cs in
    let o = sorted sc (opening sc) cs none in
    let both : Based sc t start s o × Tidy s =
    sorted-keeps sc Tidy (λ z x. Based sc t start z x × Tidy z) (step_tidy sc)
    (λ c z x y h. (step_based sc t start l.cap_least c z x y h.0, step_tidy sc c z y)) cs (opening sc) none (opening_tidy sc l)
    (opening_based sc l t, opening_tidy sc l) in
    let now : Ranked sc t u start s o = record { based = both.0; rank = Waits new old } in
    let last : Ranked sc t u start (play sc s more) (sorted sc s more o) =
    sorted-keeps sc Tidy (Ranked sc t u start) (step_tidy sc) (step_ranked sc t u start l.cap_least) more s o both.1 now in
    let end : Ranked sc t u start (play sc (opening sc) (cs ++ more)) (sorted sc (opening sc) (cs ++ more) none) =
    subst (λ z. Ranked sc t u start z (sorted sc (opening sc) (cs ++ more) none)) (sym (play-append sc (opening sc) cs more))
    (subst (Ranked sc t u start (play sc s more)) (sym (sorted-append sc (opening sc) cs more none)) last) in
    before_by sc t u (play sc (opening sc) (cs ++ more)) (sorted sc (opening sc) (cs ++ more) none) end.rank

-- the law: of two that commit at different nodes the one that began first stands first
pub begins_in_order : (sc : Scenario) → IsScenario sc → (cs : List Choice) (n t u : ℕ) → let x = txn_or (slice_get (play sc (opening sc) cs).txns t) in
    let y = txn_or (slice_get (play sc (opening sc) cs).txns u) in
    is_new (txns_after sc cs n t).status ≡ false → is_new (txns_after sc cs n u).status ≡ true → is_committed x.status ≡ true
    → is_committed y.status ≡ true → y.node ≡ other x.node → place t (migration_order sc cs) < place u (migration_order sc cs)
unfolding txn_at
begins_in_order sc l cs n t u old new =
    subst (λ xs. is_committed (txn_or (slice_get (play sc (opening sc) xs).txns t)).status ≡ true
    → is_committed (txn_or (slice_get (play sc (opening sc) xs).txns u)).status ≡ true
    → (txn_or (slice_get (play sc (opening sc) xs).txns u)).node ≡ other (txn_or (slice_get (play sc (opening sc) xs).txns t)).node
    → place t (migration_order sc xs) < place u (migration_order sc xs)) (take-append-drop n cs)
    (begins_both sc l (take n cs) (drop n cs) t u old new)
